-- Laws of arcs: they join what they lead from and to in either direction, lead in one, are compared, and have one of two kinds.
-- Proofs of crates above may cite this file.
use Rattle.std.proofs.Common.{◌≡◌, ◌≢◌, ◌⊎◌, inl, inr, ℕ, zero, suc, ◌<◌, cond, eqb, List, Option, Some, None, sym, ap, ◌∙◌, arith}
use Rattle.std.specs.Prelude.{slice_get}
use Rattle.std.specs.Option.{option_and_then}
use Rattle.std.proofs.lemmas.Bool.{cases_eq, ne_eqb}
use Rattle.std.proofs.lemmas.Option.{none-some}
use Rattle.graph_paths.specs.Paths.{IsUndirected}
use Rattle.graph_paths.specs.Forests.{IsDirection}
use Rattle.regen_path.specs.declared.arcs.Arc.{Arc}
use Rattle.regen_path.specs.declared.arcs.Ways.{Ways}
use Rattle.regen_path.specs.Arcs.{way_by, way_from}
use Rattle.regen_path.specs.Walks.{ArcLeads, ArcJoins, forth, back}

-- what an arc joins has no direction
turned_arc : (arc : Arc) (one other : ℕ) → ArcJoins arc one other → ArcJoins arc other one
turned_arc arc one other (forth leads) = back leads
turned_arc arc one other (back leads) = forth leads

same_ends : (arc : Arc) (one other three four : ℕ) → ArcJoins arc one other → ArcJoins arc three four → ((one ≡ three) × (other ≡ four)) ⊎ ((one ≡ four) × (other ≡ three))
same_ends arc one other three four (forth leads) (forth again) = inl (sym leads.0 ∙ again.0, sym leads.1 ∙ again.1)
same_ends arc one other three four (forth leads) (back again) = inr (sym leads.0 ∙ again.0, sym leads.1 ∙ again.1)
same_ends arc one other three four (back leads) (forth again) = inr (sym leads.1 ∙ again.1, sym leads.0 ∙ again.0)
same_ends arc one other three four (back leads) (back again) = inl (sym leads.1 ∙ again.1, sym leads.0 ∙ again.0)

pub arcs_undirected : IsUndirected ArcJoins
arcs_undirected = record { turned = turned_arc; ends = same_ends }

pub arcs_direct : IsDirection ArcJoins ArcLeads
arcs_direct = record {
  joined = λ arc from to leads. forth leads;
  one_way = λ arc from to other other_to leads again. (sym leads.0 ∙ again.0, sym leads.1 ∙ again.1);
}

pub same_arc : (one two : Arc) → (one ≡ two) ⊎ (one ≢ two)
same_arc one two = elim (cases_eq one.from two.from) [
  | inr differ ↦ inr (λ equal. differ (ap (λ (a : Arc). a.from) equal))
  | inl from ↦ elim (cases_eq one.to two.to) [
    | inr differ ↦ inr (λ equal. differ (ap (λ (a : Arc). a.to) equal))
    | inl to ↦ elim (cases_eq one.kind two.kind) [
      | inr differ ↦ inr (λ equal. differ (ap (λ (a : Arc). a.kind) equal))
      | inl kind ↦ inl (
          ap (λ (n : ℕ). record { from = n; to = one.to; kind = one.kind }) from
          ∙ ap (λ (n : ℕ). record { from = two.from; to = n; kind = one.kind }) to
          ∙ ap (λ (n : ℕ). record { from = two.from; to = two.to; kind = n }) kind
          )
    ]
  ]
]

-- an arc has one of two kinds
pub kind_below : (table : List Ways) (kind from to : ℕ) → way_from table kind from ≡ Some to → kind < 2
kind_below table zero from to is = omega arith
kind_below table (suc zero) from to is = omega arith
kind_below table (suc (suc kind)) from to is = absurd (no_way (slice_get table from) is)
  where
    no_way : (found : Option Ways) → option_and_then (λ (ways : Ways). way_by ways (suc (suc kind))) found ≡ Some to → ⊥
    no_way None is = none-some to is
    no_way (Some ways) is = none-some to (sym (ap (λ b. cond b ways.fall (cond (eqb (suc (suc kind)) 1) ways.taken None)) (ne_eqb (suc (suc kind)) 0 (λ equal. absurd (omega arith)))
        ∙ ap (λ b. cond b ways.taken None) (ne_eqb (suc (suc kind)) 1 (λ equal. absurd (omega arith)))) ∙ is)
