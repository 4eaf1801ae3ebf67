use Rattle.std.proofs.Common.{ℕ, ◌+◌, ◌*◌, Option, Some, sym, ap, ◌∙◌}
use Rattle.std.specs.List.{find, range_with_len}
use Rattle.std.specs.Option.{option_map}
use Rattle.elf_raw.specs.declared.header.RawHeader.{RawHeader}
use Rattle.elf_raw.specs.Refusal.{segment_offends}
use Rattle.elf_raw.specs.Segments.{segment_offset}
use Rattle.rv_code.proofs.LawsOfRows.{found_here, found_later}
use Rattle.elf_raw.proofs.refusing.bad_segment.Goals as goal

pub returns-then-segment_offends : goal.returns-then-segment_offends
returns-then-segment_offends c =
    let bytes = c.args.bytes.now in
    let number : ℕ = c.loop-number.number in
    let found = c.loop-number.invariant ∙ found_here (segment_offends bytes) number c.args.header.now.phnum c.loop-number-test.true (sym c.segment_offends.ensures ∙ c.if-segment_offends.true) in
    (λ i. Some (c.args.header.now.phoff + 32 * c.from.ensures i))
    ∙ ap (λ (h : RawHeader). Some (h.phoff + 32 * number)) c.requires.header
    ∙ ap (λ (o : Option ℕ). option_map (segment_offset bytes) o) (sym found)
    ∙ ap (λ (h : RawHeader). option_map (segment_offset bytes) (find (segment_offends bytes) (range_with_len 0 h.phnum))) c.requires.header

pub loop-number-preserved : goal.loop-number-preserved
loop-number-preserved c =
    c.loop-number.invariant ∙ found_later (segment_offends c.args.bytes.now) c.loop-number.number c.args.header.now.phnum c.loop-number-test.true (sym c.segment_offends.ensures ∙ c.if-segment_offends.false)
