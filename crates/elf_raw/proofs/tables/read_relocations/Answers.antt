use Rattle.std.proofs.Common.{◌≡◌, ◌∙◌, ap, arith}
use Rattle.std.specs.List.{flat_map, range_with_len}
use Rattle.elf_raw.specs.declared.header.RawHeader.{RawHeader}
use Rattle.elf_raw.specs.Relocations.{relocations_of_section}
use Rattle.elf_raw.specs.Sections.{section_of}
use Rattle.rv_code.proofs.LawsOfRows.{rows_more}
use Rattle.elf_raw.proofs.tables.read_relocations.Goals as goal

pub loop-number-preserved : goal.loop-number-preserved
loop-number-preserved c =
    rows_more (relocations_of_section c.args.bytes.now (section_of c.args.bytes.now)) c.loop-number.relocations.items c.add_relocations_of.new.relocations.items c.loop-number.number c.loop-number.invariant c.in_ok-add_relocations_of.ensures

pub returns : goal.returns
returns c =
    let bytes = c.args.bytes.now in
    let all : c.loop-number.number ≡ c.args.header.now.shnum = omega (arith, c.loop-number-test.false, c.loop-number.auto.number-end) in
    c.loop-number.invariant
    ∙ ap (λ n. flat_map (relocations_of_section bytes (section_of bytes)) (range_with_len 0 n)) all
    ∙ ap (λ (h : RawHeader). flat_map (relocations_of_section bytes (section_of bytes)) (range_with_len 0 h.shnum)) c.requires.header
