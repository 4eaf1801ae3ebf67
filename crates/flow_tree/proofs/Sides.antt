-- An edge between what is grown and what isn't.
use Rattle.std.proofs.Common.{◌≡◌, inl, inr, ℕ, ◌<◌, Bool, true, false, List, length, get_or, Option, Some, None, refl, sym, ap, ◌∙◌, subst}
use Rattle.std.specs.Prelude.{slice_get}
use Rattle.std.specs.Option.{option_map}
use Rattle.std.proofs.lemmas.Option.{slice_get-get_or, get_or_from_slice_get}
use mathlib.Core.Bool.{beq}
use Rattle.flow_graph.specs.declared.edge.Edge.{Edge}
use Rattle.flow_graph.specs.declared.edge.Kind.TheVariants.{Fall}
use Rattle.flow_tree.specs.WitnessEdges.{ends_of, LeadsTo, LeavesCode, Joins, joins_forth, joins_back}
use Rattle.flow_tree.specs.Inner.Growing.{IsGrown, LeadsBeyond}
use Rattle.flow_tree.proofs.LawsOfJoins.{Joins-IsUndirected, leaving_joins_none}

-- what a read past the end of a list of edges would give
abbrev pub no_edge : Edge
no_edge = record { from = 0; kind = Fall; source = 0; to = None; target = 0 }

pub edge_leads : (edges : List Edge) (number to : ℕ) → number < length edges → (get_or edges number no_edge).to ≡ Some to → LeadsTo edges number (get_or edges number no_edge).source to
edge_leads edges number to within is =
    ap (option_map (λ (edge : Edge). (edge.source, edge.to))) (slice_get-get_or edges number no_edge within)
    ∙ ap (λ (found : Option ℕ). Some ((get_or edges number no_edge).source, found)) is

pub same_bools : (one other : Bool) → beq one other ≡ true → one ≡ other
same_bools true true is = refl
same_bools false false is = refl
same_bools true false is = absurd (let clash : false ≡ true = is in cc)
same_bools false true is = absurd (let clash : false ≡ true = is in cc)

pub other_bools : (one other : Bool) → beq one other ≡ false → other ≡ true → one ≡ false
other_bools true other is on = absurd (let clash : beq true true ≡ false = subst (λ (b : Bool). beq true b ≡ false) on is in let no_way : true ≡ false = clash in cc)
other_bools false other is on = refl

pub first_bools : (one other : Bool) → beq one other ≡ false → other ≡ false → one ≡ true
first_bools true other is off = refl
first_bools false other is off = absurd (let clash : beq false false ≡ false = subst (λ (b : Bool). beq false b ≡ false) off is in let no_way : true ≡ false = clash in cc)

is_grown : (grown : List Bool) (block : ℕ) → block < length grown → get_or grown block false ≡ true → IsGrown grown block
is_grown grown block within is = slice_get-get_or grown block false within ∙ ap (λ (b : Bool). Some b) is

isnt_grown : (grown : List Bool) (block : ℕ) → block < length grown → get_or grown block false ≡ false → slice_get grown block ≡ Some false
isnt_grown grown block within is = slice_get-get_or grown block false within ∙ ap (λ (b : Bool). Some b) is

pub same_side : (edges : List Edge) (grown : List Bool) (number source to : ℕ) → LeadsTo edges number source to → source < length grown → to < length grown
    → get_or grown source false ≡ get_or grown to false → (one other : ℕ) → Joins edges number one other → IsGrown grown one → IsGrown grown other
same_side edges grown number source to leads source_within to_within same one other joined on = elim ((Joins-IsUndirected edges).ends number source to one other (joins_forth leads) joined) [
  | inl ends ↦ subst (IsGrown grown) ends.1 (is_grown grown to to_within (sym same ∙ ap (λ (b : ℕ). get_or grown b false) ends.0 ∙ get_or_from_slice_get grown one true false on))
  | inr ends ↦ subst (IsGrown grown) ends.0 (is_grown grown source source_within (same ∙ ap (λ (b : ℕ). get_or grown b false) ends.1 ∙ get_or_from_slice_get grown one true false on))
]

pub leads_to_target : (edges : List Edge) (grown : List Bool) (number source to : ℕ) → LeadsTo edges number source to → source < length grown → to < length grown
    → get_or grown source false ≡ true → get_or grown to false ≡ false → LeadsBeyond edges grown number to
leads_to_target edges grown number source to leads source_within to_within on off =
    record { near = source; joined = joins_forth leads; reached = is_grown grown source source_within on; unreached = isnt_grown grown to to_within off }

pub leads_to_source : (edges : List Edge) (grown : List Bool) (number source to : ℕ) → LeadsTo edges number source to → source < length grown → to < length grown
    → get_or grown source false ≡ false → get_or grown to false ≡ true → LeadsBeyond edges grown number source
leads_to_source edges grown number source to leads source_within to_within off on =
    record { near = to; joined = joins_back leads; reached = is_grown grown to to_within on; unreached = isnt_grown grown source source_within off }

pub no_target : (edges : List Edge) (number one other : ℕ) → number < length edges → (get_or edges number no_edge).to ≡ None → Joins edges number one other → ⊥
no_target edges number one other within is joined =
    let ends : ends_of edges number ≡ Some ((get_or edges number no_edge).source, None) =
    ap (option_map (λ (edge : Edge). (edge.source, edge.to))) (slice_get-get_or edges number no_edge within)
    ∙ ap (λ (found : Option ℕ). Some ((get_or edges number no_edge).source, found)) is
    in
    leaving_joins_none edges number one other (record { from = (get_or edges number no_edge).source; ends = ends }) joined

pub leaves_code : (edges : List Edge) (number : ℕ) → number < length edges → (get_or edges number no_edge).to ≡ None → LeavesCode edges number
leaves_code edges number within is = record {
  from = (get_or edges number no_edge).source;
  ends =
      ap (option_map (λ (edge : Edge). (edge.source, edge.to))) (slice_get-get_or edges number no_edge within)
      ∙ ap (λ (found : Option ℕ). Some ((get_or edges number no_edge).source, found)) is;
}
