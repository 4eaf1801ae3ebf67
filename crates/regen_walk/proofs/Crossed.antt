-- The edge after a word.
use Rattle.std.proofs.Common.{◌≡◌, ℕ, Bool, true, false, cond, List, [], Option, Some, None, refl, sym, ap, ◌∙◌}
use Rattle.std.specs.Prelude.{is_some}
use Rattle.std.specs.Option.{option_map}
use Rattle.rv_code.specs.Places.{place_of}
use Rattle.rv_code.proofs.LawsOfLookUps.{is_some-place_of}
use Rattle.ev_format.specs.declared.record.Record.{Record}
use Rattle.schema_form.specs.Flags.{is_set}
use Rattle.schema_form.specs.Rules.{way_of, witness_mark}
use Rattle.schema_form.specs.SchemaParts.{SchemaParts}
use Rattle.regen_walk.specs.declared.met.Met.{Met}
use Rattle.regen_walk.specs.declared.met.Spot.{Spot}
use Rattle.regen_walk.specs.declared.position.Position.{Position}
use Rattle.regen_walk.specs.declared.position.Position.TheVariants.{After}
use Rattle.regen_walk.specs.declared.telling.Stand.{Stand}
use Rattle.regen_walk.specs.Inner.Crossing.{CrossesQuietly, CrossesTold, CrossesNowhere}
use Rattle.regen_walk.specs.Inner.Met.{IsMet, IsSpot}
use Rattle.regen_walk.specs.Labels.{Label, Quiet, Tell}
use Rattle.regen_walk.specs.Moves.{Moved, move_of, names_edge, placed_at}
use Rattle.regen_walk.specs.WalkView.{IsPlacedBy}
use Rattle.regen_walk.proofs.Passing.{placed_there}
use Rattle.regen_walk.proofs.Steps.{move_after}

cond_none : {X : Type 0} (b : Bool) (o : Option X) → cond b o o ≡ o
cond_none true o = refl
cond_none false o = refl

quiet_marked : (at : ℕ) (taken way : Bool) → names_edge at taken true (Quiet way) ≡ false
quiet_marked at true way = refl
quiet_marked at false way = refl

quiet_free : (at : ℕ) (taken : Bool) → names_edge at taken false (Quiet taken) ≡ true
quiet_free at true = refl
quiet_free at false = refl

quiet_other : (at : ℕ) (taken way : Bool) → (way ≡ taken → ⊥) → names_edge at taken false (Quiet way) ≡ false
quiet_other at true true other = absurd (other refl)
quiet_other at true false other = refl
quiet_other at false true other = refl
quiet_other at false false other = absurd (other refl)

pub tell_free : (at : ℕ) (taken : Bool) (rec : Record) → names_edge at taken false (Tell rec) ≡ false
tell_free at true rec = refl
tell_free at false rec = refl

module _ (parts : SchemaParts) (spot : Spot) (met : Met) (is : IsMet parts spot.address met) (taken : Bool) where
  abbrev crossed : (registers : List ℕ) → (address : ℕ) → Moved
  crossed registers address = record { items = []; position = placed_at parts address; registers = registers }

  abbrev marked : Bool
  marked = is_set (witness_mark taken) met.word.flags

  abbrev way : Option ℕ
  way = way_of taken met.class met.word.raw spot.address

  not_named : (label : Label) (registers : List ℕ) → names_edge spot.address taken marked label ≡ false → move_of parts (After spot.address taken) registers label ≡ None
  not_named label registers unset =
      move_after parts spot.address met taken registers label is ∙ ap (λ b. cond b (option_map (crossed registers) way) None) unset

  is_named : (label : Label) (registers : List ℕ) (next : ℕ) → names_edge spot.address taken marked label ≡ true → way ≡ Some next
      → move_of parts (After spot.address taken) registers label ≡ Some (crossed registers next)
  is_named label registers next set there =
      move_after parts spot.address met taken registers label is
      ∙ ap (λ b. cond b (option_map (crossed registers) way) None) set
      ∙ ap (option_map (crossed registers)) there

  -- the word doesn't have the way
  no_way : way ≡ None → (label : Label) (registers : List ℕ) → move_of parts (After spot.address taken) registers label ≡ None
  no_way none label registers =
      move_after parts spot.address met taken registers label is
      ∙ ap (λ (o : Option ℕ). cond (names_edge spot.address taken marked label) (option_map (crossed registers) o) None) none
      ∙ cond_none (names_edge spot.address taken marked label) None

  pub nowhere : (rec : Record) → way ≡ None → CrossesNowhere parts spot.address taken rec
  nowhere rec none = record { quiet = λ other registers. no_way none (Quiet other) registers; untold = λ registers. no_way none (Tell rec) registers }

  pub other_record : (rec : Record) → marked ≡ true → names_edge spot.address taken true (Tell rec) ≡ false → CrossesNowhere parts spot.address taken rec
  other_record rec set unset =
      record {
        quiet = λ other registers. not_named (Quiet other) registers (ap (λ m. names_edge spot.address taken m (Quiet other)) set ∙ quiet_marked spot.address taken other);
        untold = λ registers. not_named (Tell rec) registers (ap (λ m. names_edge spot.address taken m (Tell rec)) set ∙ unset);
      }

  pub told : (rec : Record) (next : ℕ) (stand : Stand) → marked ≡ true → names_edge spot.address taken true (Tell rec) ≡ true → way ≡ Some next → stand.position ≡ placed_at parts next
      → IsPlacedBy parts stand.position stand.place → CrossesTold parts spot.address taken rec stand
  told rec next stand set named there position placed =
      record {
        moves = λ registers.
            is_named (Tell rec) registers next (ap (λ m. names_edge spot.address taken m (Tell rec)) set ∙ named) there
            ∙ ap (λ (p : Position). Some (record { items = []; position = p; registers = registers })) (sym position);
        placed = placed;
      }

  pub quietly : IsSpot parts spot → (next place : ℕ) → marked ≡ false → way ≡ Some next → place_of parts.stretches next ≡ Some place
      → CrossesQuietly parts spot.address taken (record { address = next; place = place })
  quietly here next place unset there to =
      record {
        moves = λ registers.
            is_named (Quiet taken) registers next (ap (λ m. names_edge spot.address taken m (Quiet taken)) unset ∙ quiet_free spot.address taken) there
            ∙ ap (λ (p : Position). Some (record { items = []; position = p; registers = registers })) (placed_there parts is.valid spot here met is next place to);
        other = λ way apart registers. not_named (Quiet way) registers (ap (λ m. names_edge spot.address taken m (Quiet way)) unset ∙ quiet_other spot.address taken way apart);
        untold = λ rec registers. not_named (Tell rec) registers (ap (λ m. names_edge spot.address taken m (Tell rec)) unset ∙ tell_free spot.address taken rec);
        spot = to;
      }

  -- an edge that isn't recorded leads to a code word
  pub leads_in : (next : ℕ) → marked ≡ false → way ≡ Some next → place_of parts.stretches next ≡ None → ⊥
  leads_in next unset there none =
      let code = is_some-place_of parts.stretches next is.valid.stretches.extents.each ∙ is.inner taken next there unset in
      let clash : false ≡ true = sym (ap is_some none) ∙ code in cc
