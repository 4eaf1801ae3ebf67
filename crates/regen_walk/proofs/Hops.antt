-- The arc by which a walk begins.
use Rattle.std.proofs.Common.{◌≡◌, inl, ℕ, zero, suc, ◌<◌, eqb, List, ◌∷◌, refl, sym, ap, ◌∙◌, arith}
use Rattle.regen_path.specs.declared.arcs.Arc.{Arc}
use Rattle.regen_path.specs.declared.arcs.Ways.{Ways}
use Rattle.regen_path.specs.Arcs.{way_from, HasArc}
use Rattle.regen_path.specs.Walks.{IsWalk}
use Rattle.regen_path.proofs.LawsOfArcs.{kind_below}
use Rattle.regen_walk.specs.FreeArcs.{kind_number}
use Rattle.regen_walk.specs.Inner.Going.{LeadsOn}

-- the kind of an arc is the number of its way
pub kind_by_way : (kind : ℕ) → kind < 2 → kind ≡ kind_number (eqb kind 1)
kind_by_way zero low = refl
kind_by_way (suc zero) low = refl
kind_by_way (suc (suc kind)) low = absurd (omega (arith, low))

-- by its first arc a walk leads on
pub begins_by : (table : List Ways) (here goal : ℕ) (arc : Arc) (rest : List Arc) → IsWalk (HasArc table) here goal (arc ∷ rest)
    → LeadsOn table here goal (record { taken = eqb arc.kind 1; place = arc.to })
begins_by table here goal arc rest walks =
    let has = walks.within arc (inl refl) in
    let kind = kind_by_way arc.kind (kind_below table arc.kind arc.from arc.to has) in
    record {
      arc = arc;
      rest = rest;
      walks = walks;
      kind = kind;
      way = ap (λ (k : ℕ). way_from table k here) (sym kind) ∙ ap (way_from table arc.kind) (sym walks.trail.1.0) ∙ has;
    }
