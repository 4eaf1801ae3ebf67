use Rattle.std.proofs.Common.{ℕ, ◌+◌, ◌*◌, Option, Some, sym, ap, ◌∙◌}
use Rattle.std.specs.List.{find, range_with_len}
use Rattle.std.specs.Option.{option_map}
use Rattle.elf_raw.specs.declared.header.RawHeader.{RawHeader}
use Rattle.elf_raw.specs.Refusal.{section_offends}
use Rattle.elf_raw.specs.Sections.{section_offset}
use Rattle.rv_code.proofs.LawsOfRows.{found_here, found_later}
use Rattle.elf_raw.proofs.refusing.bad_section.Goals as goal

pub returns-then-section_offends : goal.returns-then-section_offends
returns-then-section_offends c =
    let bytes = c.args.bytes.now in
    let number : ℕ = c.loop-number.number in
    let found = c.loop-number.invariant ∙ found_here (section_offends bytes) number c.args.header.now.shnum c.loop-number-test.true (sym c.section_offends.ensures ∙ c.if-section_offends.true) in
    (λ i. Some (c.args.header.now.shoff + 40 * c.from.ensures i))
    ∙ ap (λ (h : RawHeader). Some (h.shoff + 40 * number)) c.requires.header
    ∙ ap (λ (o : Option ℕ). option_map (section_offset bytes) o) (sym found)
    ∙ ap (λ (h : RawHeader). option_map (section_offset bytes) (find (section_offends bytes) (range_with_len 0 h.shnum))) c.requires.header

pub loop-number-preserved : goal.loop-number-preserved
loop-number-preserved c =
    c.loop-number.invariant ∙ found_later (section_offends c.args.bytes.now) c.loop-number.number c.args.header.now.shnum c.loop-number-test.true (sym c.section_offends.ensures ∙ c.if-section_offends.false)
