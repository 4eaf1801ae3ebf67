use Rattle.std.proofs.Common.{◌≡◌, ap, ◌∙◌, arith}
use Rattle.std.specs.List.{flat_map, range_with_len}
use Rattle.elf_raw.specs.declared.header.RawHeader.{RawHeader}
use Rattle.elf_raw.specs.Header.{header_of}
use Rattle.elf_raw.specs.Sections.{section_of}
use Rattle.elf_raw.specs.Symbols.{symbols_of_section}
use Rattle.rv_code.proofs.LawsOfRows.{rows_more}
use Rattle.elf_raw.proofs.symbols.read_symbols.Goals as goal

pub loop-number-preserved : goal.loop-number-preserved
loop-number-preserved c =
    rows_more (symbols_of_section c.args.bytes.now (section_of c.args.bytes.now)) c.loop-number.symbols.items c.add_symbols_of.new.symbols.items c.loop-number.number c.loop-number.invariant c.in_ok-add_symbols_of.ensures

pub returns : goal.returns
returns c =
    let bytes = c.args.bytes.now in
    let count : c.args.header.now.shnum ≡ (header_of bytes).shnum = ap (λ (h : RawHeader). h.shnum) c.requires.header in
    let all : c.loop-number.number ≡ (header_of bytes).shnum = omega arith in
    c.loop-number.invariant ∙ ap (λ n. flat_map (symbols_of_section bytes (section_of bytes)) (range_with_len 0 n)) all
