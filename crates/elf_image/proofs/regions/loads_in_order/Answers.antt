-- The closure gives the first address of each.
use Rattle.std.proofs.Common.{rules, ap, ◌∙◌, subst, sym}
use Rattle.std.specs.Prelude.{◌≢◌, AllPairs}
use Rattle.elf_raw.specs.declared.segment.RawSegment.{RawSegment}
use Rattle.rv_code.specs.Ordered.{ordered}
use Rattle.rv_code.proofs.LawsOfLists.{ordered_from_sort_by_key}
use Rattle.elf_image.proofs.regions.loads_in_order.Goals as goal

pub returns : goal.returns
returns c =
    let apart = subst (AllPairs (λ (one other : RawSegment). one.vaddr ≢ other.vaddr)) (sym c.in_ok-loads.ensures) c.requires in
    ordered_from_sort_by_key (λ (s : RawSegment). s.vaddr) _ _ c.sort_unstable_by_key.ensures.permutation c.sort_unstable_by_key.ensures.sorted
    (λ a r q k. search rules) apart
    ∙ ap (ordered (λ (s : RawSegment). s.vaddr)) c.in_ok-loads.ensures
