use Rattle.std.proofs.Common.{◌≡◌, ◌+◌, ◌*◌, [], map, ap, ◌∙◌, sym, arith}
use Rattle.std.specs.List.{range_with_len}
use Rattle.std.proofs.lemmas.Simd.{map-map}
use Rattle.rv_code.proofs.LawsOfRows.{row_more}
use Rattle.elf_image.specs.CodeWords.{value_at}
use Rattle.elf_image.proofs.words.range_of.Goals as goal

pub loop-number-preserved : goal.loop-number-preserved
loop-number-preserved c =
    row_more (λ number. value_at c.args.bytes.now (c.args.extent.start + 4 * number)) [] c.loop-number.words.items c.push.new.self.items c.loop-number.number c.value_at.result
    c.loop-number.invariant c.in_ok-push.ensures.items c.value_at.ensures

pub returns : goal.returns
returns c =
    let all : c.loop-number.number ≡ c.args.extent.count = omega arith in
    let words =
    c.from_vec.ensures
    ∙ c.loop-number.invariant
    ∙ ap (λ n. map (λ number. value_at c.args.bytes.now (c.args.extent.start + 4 * number)) (range_with_len 0 n)) all
    ∙ sym (map-map (value_at c.args.bytes.now) (λ number. c.args.extent.start + 4 * number) (range_with_len 0 c.args.extent.count))
    in
    λ i. record { start = c.args.extent.start; words = words i }
