-- A graph has few edges, and they join its blocks.
use Rattle.std.proofs.Common.{◌≡◌, ℕ, zero, suc, ◌+◌, ◌*◌, ◌^◌, ◌<◌, ◌≤◌, List, [], ◌∷◌, length, map, Option, Some, None, sym, ap, ◌∙◌, subst, inl, inr, arith}
use Rattle.std.specs.Prelude.{slice_get, IfSome}
use Rattle.std.specs.List.{AllByRecursion}
use Rattle.std.specs.Option.{option_map}
use Rattle.std.proofs.lemmas.List.Sums.{sum_by-cons}
use Rattle.std.proofs.lemmas.Option.{slice_get_cases, some_pair_parts}
use Rattle.rv_code.specs.declared.image.Range.{Range}
use Rattle.rv_code.specs.Code.{extents_of}
use Rattle.rv_code.specs.Image.{word_count}
use Rattle.rv_code.specs.Places.{AreCodeExtents, ExtentsRise, EndsInSpace}
use Rattle.flow_graph.specs.declared.block.Block.{Block}
use Rattle.flow_graph.specs.declared.edge.Edge.{Edge}
use Rattle.flow_graph.specs.Blocks.{blocks_of}
use Rattle.flow_graph.specs.CodeParts.{CodeParts}
use Rattle.flow_graph.specs.Edges.{edges_of}
use Rattle.flow_graph.specs.Laws.{IsEdge}
use Rattle.flow_graph.proofs.LawsOfEdges.{edges_join, blocks_are_few}
use Rattle.flow_tree.specs.WitnessEdges.{LeadsTo, Joins, joins_forth, joins_back}

-- the words of ranges lie between the start of the first and the end of the space
words_from : (range : Range) (ranges : List Range) → ExtentsRise (extents_of (range ∷ ranges)) → AllByRecursion EndsInSpace (extents_of (range ∷ ranges)) → range.start + 4 * word_count (range ∷ ranges) ≤ 2 ^ 32
words_from range [] rise ends = omega (arith, ends.0, sum_by-cons (λ (n : ℕ). n) (length range.words) [])
words_from range (next ∷ ranges) rise ends =
    let rest = words_from next ranges rise.1 ends.1 in
    omega (arith, rise.0, rest, sum_by-cons (λ (n : ℕ). n) (length range.words) (map (λ (r : Range). length r.words) (next ∷ ranges)))

few_words : (ranges : List Range) → ExtentsRise (extents_of ranges) → AllByRecursion EndsInSpace (extents_of ranges) → word_count ranges ≤ 2 ^ 30
few_words [] rise ends = omega arith
few_words (range ∷ ranges) rise ends = let all = words_from range ranges rise ends in omega (arith, all)

pub few_blocks : (parts : CodeParts) → AreCodeExtents (extents_of parts.code) → AllByRecursion EndsInSpace (extents_of parts.code) → length (blocks_of parts) ≤ 2 ^ 30
few_blocks parts order ends = let few = blocks_are_few parts in omega (arith, few_words parts.code order.rise ends, few.0)

pub few_edges : (parts : CodeParts) → AreCodeExtents (extents_of parts.code) → AllByRecursion EndsInSpace (extents_of parts.code) → length (edges_of parts) ≤ 2 ^ 31
few_edges parts order ends = let few = blocks_are_few parts in omega (arith, few_words parts.code order.rise ends, few.0, few.1)

edge_at : (P : Edge → Type 0) (edges : List Edge) (number : ℕ) (edge : Edge) → AllByRecursion P edges → slice_get edges number ≡ Some edge → P edge
edge_at P [] number edge all is = absurd (let clash : None ≡ Some edge = is in cc)
edge_at P (first ∷ edges) zero edge all is = subst P (let same : Some first ≡ Some edge = is in cc) all.0
edge_at P (first ∷ edges) (suc number) edge all is = edge_at P edges number edge all.1 is

found_within : (blocks : List Block) (number : ℕ) (last : ℕ) → option_map (λ (block : Block). block.last) (slice_get blocks number) ≡ Some last → number < length blocks
found_within blocks number last is = elim (slice_get_cases blocks number).1 [
  | inl there ↦ there.1
  | inr past ↦ absurd (let clash : None ≡ Some last = sym (ap (option_map (λ (block : Block). block.last)) past.1) ∙ is in cc)
]

leads_within : (parts : CodeParts) (number from to : ℕ) → LeadsTo (edges_of parts) number from to → (from < length (blocks_of parts)) × (to < length (blocks_of parts))
leads_within parts number from to leads = elim (slice_get_cases (edges_of parts) number).1 [
  | inl there ↦
      let is = edge_at (IsEdge parts) (edges_of parts) number there.0 (edges_join parts) there.2 in
      let ends : Some (there.0.source, there.0.to) ≡ Some (from, Some to) = sym (ap (option_map (λ (edge : Edge). (edge.source, edge.to))) there.2) ∙ leads in
      let parts_are = some_pair_parts there.0.source from there.0.to (Some to) ends in (
        subst (λ (n : ℕ). n < length (blocks_of parts)) parts_are.0 (found_within (blocks_of parts) there.0.source there.0.from is.source),
        subst (λ (found : Option ℕ). IfSome found (λ n. n < length (blocks_of parts))) parts_are.1 is.within,
      )
  | inr past ↦ absurd (let clash : None ≡ Some (from, Some to) = sym (ap (option_map (λ (edge : Edge). (edge.source, edge.to))) past.1) ∙ leads in cc)
]

pub joins_blocks : (parts : CodeParts) (number one other : ℕ) → Joins (edges_of parts) number one other → one < length (blocks_of parts)
joins_blocks parts number one other (joins_forth leads) = (leads_within parts number one other leads).0
joins_blocks parts number one other (joins_back leads) = (leads_within parts number other one leads).1
