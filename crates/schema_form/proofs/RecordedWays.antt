-- Which words' ways are recorded: cells that are set for one edge after the other.
use Rattle.std.proofs.Common.{◌≡◌, ◌⊎◌, inl, inr, ℕ, ◌+◌, ◌<◌, ◌≤◌, Bool, true, false, List, length, get_or, set, take, drop, ◌++◌, Option, Some, None, sym, ap, subst, ◌∙◌, arith}
use Rattle.std.specs.Prelude.{slice_get, ◌↔◌}
use Rattle.std.specs.List.{slice_index_or}
use Rattle.std.proofs.lemmas.Bool.{cases_eq}
use Rattle.std.proofs.lemmas.List.{get_or-set_other, append-nil, drop_all, take_all}
use Rattle.std.proofs.lemmas.Grind.{get_or-set_at}
use Rattle.std.proofs.lemmas.Option.{slice_get_within}
use Rattle.rv_code.specs.declared.extent.Extent.{Extent}
use Rattle.rv_code.specs.Code.{extents_of}
use Rattle.rv_code.specs.Image.{word_count}
use Rattle.rv_code.specs.Places.{address_of, place_of, ExtentsRise}
use Rattle.rv_code.proofs.LawsOfLookUps.{place_of-address_of, address_of-place_of}
use Rattle.rv_code.proofs.LawsOfElements.{same_item}
use Rattle.flow_graph.specs.declared.edge.Edge.{Edge}
use Rattle.flow_graph.specs.declared.edge.Kind.{Kind}
use Rattle.flow_graph.specs.declared.edge.Kind.TheVariants.{Fall, Taken}
use Rattle.flow_graph.specs.CodeParts.{CodeParts}
use Rattle.flow_graph.specs.Edges.{edges_of, kind_by, is_taken_kind}
use Rattle.flow_tree.specs.WitnessEdges.{IsMarked}
use Rattle.schema_form.specs.Inner.Recorded.{AreRecorded, AreRecordedBefore}

abbrev IsSetFor : List Extent → (old new : List Bool) → (address : ℕ) → Type 0
IsSetFor extents old new address =
    (place there : ℕ) → address_of extents place ≡ Some there
    → (slice_index_or new place false ≡ true) ↔ ((slice_index_or old place false ≡ true) ⊎ (there ≡ address))

same_number : (one other : ℕ) → ◌≡◌ {A = Option ℕ} (Some one) (Some other) → one ≡ other
same_number one other is = cc is

-- the cell of an address is set
pub set_there : (extents : List Extent) (cells : List Bool) (address found : ℕ) → ExtentsRise extents → place_of extents address ≡ Some found → found < length cells
    → IsSetFor extents cells (set cells found true) address
set_there extents cells address found rise is within = λ place there at. elim (cases_eq place found) [
  | inl same ↦
      let one : there ≡ address = same_number there address (sym at ∙ ap (address_of extents) same ∙ address_of-place_of extents found address is) in
      (λ now. inr one, λ either. get_or-set_at cells found place true false same within)
  | inr differ ↦
      let kept : get_or (set cells found true) place false ≡ get_or cells place false = get_or-set_other cells found place true false differ in (
        λ now. inl (sym kept ∙ now),
        λ either. elim either [
          | inl was ↦ kept ∙ was
          | inr same ↦ absurd (differ (same_number place found (sym (place_of-address_of extents place there rise at) ∙ ap (place_of extents) same ∙ is)))
        ],
      )
]

-- an address of no code word has none
pub set_nowhere : (extents : List Extent) (cells : List Bool) (address : ℕ) → ExtentsRise extents → place_of extents address ≡ None → IsSetFor extents cells cells address
set_nowhere extents cells address rise none = λ place there at. (
  λ now. inl now,
  λ either. elim either [
    | inl was ↦ was
    | inr same ↦ let clash : ◌≡◌ {A = Option ℕ} (Some place) None = sym (place_of-address_of extents place there rise at) ∙ ap (place_of extents) same ∙ none in absurd (cc clash)
  ],
)

kind_again : (kind : Kind) (taken : Bool) → is_taken_kind kind ≡ taken → kind ≡ kind_by taken
kind_again Taken taken is = ap kind_by is
kind_again Fall taken is = ap kind_by is

way_again : (kind : Kind) (taken : Bool) → kind ≡ kind_by taken → is_taken_kind kind ≡ taken
way_again kind true is = ap is_taken_kind is
way_again kind false is = ap is_taken_kind is

module _ (parts : CodeParts) (marks : List Bool) (taken : Bool) where
  pub none_recorded : (cells : List Bool) → length cells ≡ word_count parts.code → ((place : ℕ) → slice_index_or cells place false ≡ false) → AreRecordedBefore parts marks taken 0 cells
  none_recorded cells size clear = record {
    size = size;
    each = λ place address at. (
      λ now. let clash : true ≡ false = sym now ∙ clear place in absurd (cc clash),
      λ before. let less = before.before in absurd (omega (arith, less)),
    );
  }

  -- all edges
  pub all_recorded : (count : ℕ) (cells : List Bool) → length (edges_of parts) ≤ count → AreRecordedBefore parts marks taken count cells → AreRecorded parts marks taken cells
  all_recorded count cells all are = record {
    size = are.size;
    each = λ place address at. (
      λ now. ((are.each place address at).0 now).recorded,
      λ recorded. (are.each place address at).1 (record {
        recorded = recorded;
        before = let within = slice_get_within (edges_of parts) recorded.number recorded.edge recorded.there in omega (arith, within, all);
      }),
    );
  }

  module _ (number : ℕ) (edge : Edge) (there : slice_get (edges_of parts) number ≡ Some edge) where
    -- an edge that isn't marked, or leaves by the other way
    pub none_more : (cells : List Bool) → (IsMarked marks number → is_taken_kind edge.kind ≡ taken → ⊥)
        → AreRecordedBefore parts marks taken number cells → AreRecordedBefore parts marks taken (number + 1) cells
    none_more cells apart are = record {
      size = are.size;
      each = λ place address at. (
        λ now. let before = (are.each place address at).0 now in record { recorded = before.recorded; before = let less = before.before in omega (arith, less) },
        λ before. elim (cases_eq before.recorded.number number) [
          | inl same ↦
              let recorded = before.recorded in
              let equal : recorded.edge ≡ edge = same_item (edges_of parts) recorded.number number recorded.edge edge same recorded.there there in
              absurd (apart (subst (IsMarked marks) same recorded.marked) (way_again edge.kind taken (ap (λ (e : Edge). e.kind) (sym equal) ∙ recorded.kind)))
          | inr differ ↦
              (are.each place address at).1 (record { recorded = before.recorded; before = let less = before.before in omega (arith, less, differ) })
        ],
      );
    }

    -- an edge that is marked and leaves by this way
    pub one_more : (old new : List Bool) → IsMarked marks number → is_taken_kind edge.kind ≡ taken → length new ≡ length old → IsSetFor (extents_of parts.code) old new edge.from
        → AreRecordedBefore parts marks taken number old → AreRecordedBefore parts marks taken (number + 1) new
    one_more old new marked way size is are = record {
      size = size ∙ are.size;
      each = λ place address at. (
        λ now. elim ((is place address at).0 now) [
          | inl was ↦ let before = (are.each place address at).0 was in record { recorded = before.recorded; before = let less = before.before in omega (arith, less) }
          | inr same ↦ record {
            recorded = record {
              number = number;
              edge = edge;
              there = there;
              from = sym same;
              kind = kind_again edge.kind taken way;
              marked = marked;
            };
            before = omega arith;
          }
        ],
        λ before. elim (cases_eq before.recorded.number number) [
          | inl same ↦
              let recorded = before.recorded in
              let equal : recorded.edge ≡ edge = same_item (edges_of parts) recorded.number number recorded.edge edge same recorded.there there in
              (is place address at).1 (inr (sym recorded.from ∙ ap (λ (e : Edge). e.from) equal))
          | inr differ ↦
              (is place address at).1 (inl ((are.each place address at).1 (record { recorded = before.recorded; before = let less = before.before in omega (arith, less, differ) })))
        ],
      );
    }

-- what is written over all of a list is all that is left
pub front_only : (n : ℕ) (xs ys : List Bool) → length xs ≡ length ys → n ≡ length ys → take n (xs ++ drop (length xs) ys) ≡ xs
front_only n xs ys same all =
    ap (λ rest. take n (xs ++ rest)) (drop_all (length xs) ys (omega (arith, same))) ∙ ap (take n) (append-nil xs) ∙ take_all n xs (omega (arith, same, all))
