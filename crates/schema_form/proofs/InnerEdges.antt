-- Edges that aren't recorded lead from a code word to a code word.
use Rattle.std.proofs.Common.{◌≡◌, ℕ, zero, suc, ◌+◌, ◌*◌, ◌^◌, ◌<◌, ◌≤◌, Bool, true, false, cond, List, [], length, Option, Some, None, refl, ◌∙◌, arith}
use Rattle.std.specs.Prelude.{◌&&◌, not, slice_get, flat_map, IfSome}
use Rattle.std.specs.List.{AllByRecursion, cons_option, range_with_len}
use Rattle.std.specs.Option.{option_map, option_map_or}
use Rattle.std.proofs.lemmas.Bool.{or_parts, not-false}
use Rattle.std.proofs.lemmas.List.{length-append}
use Rattle.std.proofs.lemmas.List.Sums.{sum-map}
use Rattle.rv_code.specs.declared.class.Class.{Class}
use Rattle.rv_code.specs.declared.extent.Extent.{Extent}
use Rattle.rv_code.specs.Code.{is_code}
use Rattle.rv_code.specs.Places.{address_of, place_of, code_addresses}
use Rattle.rv_code.proofs.LawsOfLookUps.{is_some-place_of, place_of-below}
use Rattle.rv_code.proofs.LawsOfPlaces.{length-code_addresses}
use Rattle.rv_code.proofs.LawsOfTests.{some_there}
use Rattle.rv_code.proofs.LawsOfElements.{all_cons_option}
use Rattle.flow_graph.specs.declared.edge.Edge.{Edge}
use Rattle.flow_graph.specs.Edges.{kind_by}
use Rattle.schema_form.specs.declared.flags.TheConstants.{FALL_WITNESS, TAKEN_WITNESS, KEPT}
use Rattle.schema_form.specs.declared.word.SchemaWord.{SchemaWord}
use Rattle.schema_form.specs.Flags.{class_in, is_set, may_be_kept}
use Rattle.schema_form.specs.FreeEdges.{free_edge, free_edges_as, free_edges_of, free_edges_at, free_edges}
use Rattle.schema_form.specs.Inner.Inners.{IsInner}
use Rattle.schema_form.specs.Layout.{words_total}
use Rattle.schema_form.specs.Rules.{witness_mark, way_of, edge_misfits, misfits_as, word_misfits}
use Rattle.schema_form.specs.Valid.{AreStretches, AreSchemaWords}
use Rattle.schema_form.proofs.Below.{address_small}
use Rattle.schema_form.proofs.Rows.{all_rows}

pub words_total-code_addresses : (stretches : List Extent) → length (code_addresses stretches) ≡ words_total stretches
words_total-code_addresses stretches = length-code_addresses stretches ∙ sum-map (λ (stretch : Extent). stretch.count) stretches

-- the two edges of a word fit
edges_fit : (stretches : List Extent) (address : ℕ) (word : SchemaWord) (class : Class) → misfits_as stretches address word class ≡ false
    → (taken : Bool) → edge_misfits stretches (way_of taken class word.raw address) (is_set (witness_mark taken) word.flags) ≡ false
edges_fit stretches address word class is taken =
    let kept = or_parts _ (is_set KEPT word.flags && not (may_be_kept class)) is in
    let last = or_parts _ (edge_misfits stretches (way_of true class word.raw address) (is_set TAKEN_WITNESS word.flags)) kept.0 in
    let first = or_parts _ (edge_misfits stretches (way_of false class word.raw address) (is_set FALL_WITNESS word.flags)) last.0 in
    elim taken as (λ t. edge_misfits stretches (way_of t class word.raw address) (is_set (witness_mark t) word.flags) ≡ false) [ true ↦ last.1 | false ↦ first.1 ]

module _ (stretches : List Extent) (are : AreStretches stretches) where
  has_place : (target : ℕ) → is_code stretches target ≡ true → (place : ℕ) × (place_of stretches target ≡ Some place) × (place < words_total stretches)
  has_place target code =
      let there = some_there (place_of stretches target) (is_some-place_of stretches target are.extents.each ∙ code) in
      (there.0, there.1, let below = place_of-below stretches there.0 target there.1 in omega (arith, below, words_total-code_addresses stretches))

  edge_inner : (edge : Edge) → is_code stretches edge.target ≡ true → edge.to ≡ place_of stretches edge.target → edge.source < words_total stretches → edge.from < 2 ^ 31
      → IsInner (words_total stretches) edge
  edge_inner edge code to source low =
      let place = has_place edge.target code in
      record { target = place.0; to = to ∙ place.1; source = source; within = place.2; low = low }

  module _ (place address : ℕ) (word : SchemaWord) (class : Class) (within : place < words_total stretches) (low : address < 2 ^ 31) where
    by_way : (taken marked : Bool) (way : Option ℕ) → edge_misfits stretches way marked ≡ false
        → IfSome (cond marked None (option_map (λ (target : ℕ). record { from = address; kind = kind_by taken; source = place; to = place_of stretches target; target = target }) way))
        (IsInner (words_total stretches))
    by_way taken true way is = tt
    by_way taken false None is = tt
    by_way taken false (Some target) is =
        edge_inner (record { from = address; kind = kind_by taken; source = place; to = place_of stretches target; target = target })
        (not-false (is_code stretches target) is) refl within low

    edge_fits : (taken : Bool) → misfits_as stretches address word class ≡ false → IfSome (free_edge stretches taken class word place address) (IsInner (words_total stretches))
    edge_fits taken is = by_way taken (is_set (witness_mark taken) word.flags) (way_of taken class word.raw address) (edges_fit stretches address word class is taken)

  as_class : (place address : ℕ) (word : SchemaWord) (class : Option Class) → place < words_total stretches → address < 2 ^ 31 → option_map_or (misfits_as stretches address word) class true ≡ false
      → AllByRecursion (IsInner (words_total stretches)) (option_map_or (free_edges_as stretches word place address) class [])
  as_class place address word None within low is = tt
  as_class place address word (Some class) within low is =
      let P = IsInner (words_total stretches) in
      all_cons_option P (free_edge stretches false class word place address) _ (edge_fits place address word class within low false is)
      (all_cons_option P (free_edge stretches true class word place address) [] (edge_fits place address word class within low true is) tt)

  at_address : (place : ℕ) (word : SchemaWord) (address : Option ℕ) → place < words_total stretches
      → ((there : ℕ) → address ≡ Some there → (there < 2 ^ 31) × (word_misfits stretches there word ≡ false))
      → AllByRecursion (IsInner (words_total stretches)) (option_map_or (free_edges_of stretches place word) address [])
  at_address place word None within fits = tt
  at_address place word (Some address) within fits = let both = fits address refl in as_class place address word (class_in word.flags) within both.0 both.1

  at_word : (place : ℕ) (word : Option SchemaWord) → place < words_total stretches
      → ((there : ℕ) (found : SchemaWord) → address_of stretches place ≡ Some there → word ≡ Some found → word_misfits stretches there found ≡ false)
      → AllByRecursion (IsInner (words_total stretches))
      (option_map_or (λ (found : SchemaWord). option_map_or (free_edges_of stretches place found) (address_of stretches place) []) word [])
  at_word place None within fits = tt
  at_word place (Some word) within fits = at_address place word (address_of stretches place) within (λ there is. (address_small stretches place there are is, fits there word is refl))

  pub free_edges_inner : (words : List SchemaWord) → AreSchemaWords stretches words → AllByRecursion (IsInner (words_total stretches)) (free_edges stretches words)
  free_edges_inner words fit =
      all_rows (IsInner (words_total stretches)) (free_edges_at stretches words) 0 (length words)
      (λ place low high. at_word place (slice_get words place) (omega (arith, fit.count)) (λ there word at is. fit.each place there word at is))

length_option : {X : Type 0} (first : Option X) (rest : List X) → length (cons_option first rest) ≤ 1 + length rest
length_option None rest = omega arith
length_option (Some x) rest = omega arith

module _ (stretches : List Extent) (words : List SchemaWord) where
  few_of : (place address : ℕ) (word : SchemaWord) (class : Option Class) → length (option_map_or (free_edges_as stretches word place address) class []) ≤ 2
  few_of place address word None = omega arith
  few_of place address word (Some class) =
      let one = length_option (free_edge stretches true class word place address) [] in
      let two = length_option (free_edge stretches false class word place address) (cons_option (free_edge stretches true class word place address) []) in
      omega (arith, one, two)

  few_there : (place : ℕ) (word : SchemaWord) (address : Option ℕ) → length (option_map_or (free_edges_of stretches place word) address []) ≤ 2
  few_there place word None = omega arith
  few_there place word (Some address) = few_of place address word (class_in word.flags)

  few_at : (place : ℕ) (word : Option SchemaWord)
      → length (option_map_or (λ (found : SchemaWord). option_map_or (free_edges_of stretches place found) (address_of stretches place) []) word []) ≤ 2
  few_at place None = omega arith
  few_at place (Some word) = few_there place word (address_of stretches place)

  few_rows : (from count : ℕ) → length (flat_map (free_edges_at stretches words) (range_with_len from count)) ≤ 2 * count
  few_rows from zero = omega arith
  few_rows from (suc count) =
      let first = few_at from (slice_get words from) in
      let rest = few_rows (from + 1) count in
      let both = length-append (free_edges_at stretches words from) (flat_map (free_edges_at stretches words) (range_with_len (from + 1) count)) in
      omega (arith, first, rest, both)

  -- a word has two edges at most
  pub free_edges_few : length (free_edges stretches words) ≤ 2 * length words
  free_edges_few = few_rows 0 (length words)
