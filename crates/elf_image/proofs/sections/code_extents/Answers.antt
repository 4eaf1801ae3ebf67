use Rattle.std.proofs.Common.{length, sym, ap, ◌∙◌, subst, arith, rules}
use Rattle.std.specs.List.{All}
use Rattle.std.specs.List.Sorted.{IsNonDecreasingBy}
use Rattle.std.proofs.lemmas.Result.{IfOk-weaker}
use Rattle.std.proofs.lemmas.List.Sorted.{IsNonDecreasingBy-from_sort_by_key, All-permutation}
use Rattle.rv_code.specs.declared.extent.Extent.{Extent}
use Rattle.elf_image.specs.Inner.Parts.{IsPart, joined_of}
use Rattle.elf_image.proofs.Joined.{joined_of-extents_at, length-joined_of}
use Rattle.elf_image.proofs.sections.code_extents.Goals as goal

pub joined-requires-clause-each : goal.joined-requires-clause-each
joined-requires-clause-each c =
    subst (λ parts. All IsPart parts) (sym c.deref.ensures.value) (All-permutation IsPart _ _ c.sort_unstable_by_key.ensures.permutation c.in_ok-parts.ensures.parts)

pub joined-requires-clause-order : goal.joined-requires-clause-order
joined-requires-clause-order c =
    subst (λ parts. IsNonDecreasingBy (λ (part : Extent). part.start) parts) (sym c.deref.ensures.value)
    (IsNonDecreasingBy-from_sort_by_key (λ (part : Extent). part.start) _ c.sort_unstable_by_key.ensures.sorted (λ a r q k. search rules))

pub returns-clause-words : goal.returns-clause-words
returns-clause-words c =
    IfOk-weaker c.joined.result _ _
    (λ extents is.
    is ∙ ap joined_of c.deref.ensures.value
    ∙ joined_of-extents_at c.in_ok-parts.parts.items _ _ c.in_ok-parts.ensures.parts c.sort_unstable_by_key.ensures.permutation
    (IsNonDecreasingBy-from_sort_by_key (λ (part : Extent). part.start) _ c.sort_unstable_by_key.ensures.sorted (λ a r q k. search rules))
    c.in_ok-parts.ensures.words)
    c.joined.ensures

pub returns-clause-few : goal.returns-clause-few
returns-clause-few c =
    IfOk-weaker c.joined.result _ _
    (λ extents is.
    let same = ap length is in
    omega (arith, same, length-joined_of c.deref.result.now, c.deref.ensures.len, c.sort_unstable_by_key.ensures.len, c.in_ok-parts.ensures.few))
    c.joined.ensures
