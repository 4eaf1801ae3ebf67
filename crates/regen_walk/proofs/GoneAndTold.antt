-- Moves along a way, and then those that give the record.
use Rattle.std.proofs.Common.{◌≡◌, ℕ, ◌+◌, Bool, true, List, [], ◌∷◌, ◌++◌, length, map, take, append_assoc, Some, refl, sym, ap, subst, ◌∙◌, arith}
use Rattle.std.proofs.lemmas.List.{length-append, map-append, take-append-le}
use Rattle.std.proofs.Math.Seq.{take-append-add}
use Rattle.rv_code.proofs.LawsOfTests.{some_there}
use Rattle.ae_nums.specs.declared.item.Item.{Item}
use Rattle.rv_machine.specs.Outcomes.{TookFront}
use Rattle.ev_format.specs.declared.record.Record.{Record}
use Rattle.ev_format.specs.declared.record.Record.TheVariants.{Fall, Taken, Value, Landing, End}
use Rattle.regen_path.specs.declared.arcs.Arc.{Arc}
use Rattle.schema_form.specs.SchemaParts.{SchemaParts}
use Rattle.regen_walk.specs.declared.position.Position.TheVariants.{Before}
use Rattle.regen_walk.specs.Inner.Going.{GoesAlong, ways_along}
use Rattle.regen_walk.specs.Inner.Telling.{HasBrokenOff, last_moves, may_tell}
use Rattle.regen_walk.specs.Labels.{Label, Quiet, Tell, moves_to}
use Rattle.regen_walk.specs.Moves.{Moved}
use Rattle.regen_walk.specs.Promises.{IsBrokenOff, Tells}
use Rattle.regen_walk.specs.Walks.{behind_items, walk_from}
use Rattle.regen_walk.specs.WalkView.{WalkParts}
use Rattle.regen_walk.proofs.Reached.{last_ways}
use Rattle.regen_walk.proofs.Towards.{walk_both}

-- the moves from before the record's word
last_moves_to : (rec : Record) → last_moves rec ≡ moves_to (last_ways rec) rec
last_moves_to (Fall at) = refl
last_moves_to (Taken at) = refl
last_moves_to (Value at value) = refl
last_moves_to (Landing at target values) = refl
last_moves_to (End at kind detail) = refl

joined : (ways : List Bool) (rec : Record) → map Quiet ways ++ last_moves rec ≡ moves_to (ways ++ last_ways rec) rec
joined ways rec =
    ap (λ (labels : List Label). map Quiet ways ++ labels) (last_moves_to rec)
    ∙ sym (append_assoc (map Quiet ways) (map Quiet (last_ways rec)) (Tell rec ∷ []))
    ∙ ap (λ (labels : List Label). labels ++ Tell rec ∷ []) (sym (map-append Quiet ways (last_ways rec)))

module _ (parts : SchemaParts) (walk : List Arc) (from to : ℕ) (there : List ℕ) (items : List Item) (rec : Record) where
  -- the moves up to and with the one that has the record
  pub tells_so : (before : List ℕ) (moved : Moved) → GoesAlong parts walk from to before there items → walk_from parts (Before to) there (last_moves rec) ≡ Some moved
      → Tells parts (Before from) before rec (behind_items items moved)
  tells_so before moved goes made =
      record {
        ways = ways_along walk ++ last_ways rec;
        made =
            ap (walk_from parts (Before from) before) (sym (joined (ways_along walk) rec))
            ∙ walk_both parts (Before from) before (map Quiet (ways_along walk)) (last_moves rec) (record { items = items; position = Before to; registers = there }) moved goes made;
      }

  -- the taker failed along the way
  pub broken_going : (start : WalkParts) (took : List Item → Type 0) → GoesAlong parts walk from to start.registers there items → may_tell parts to there rec ≡ true → TookFront took items
      → IsBrokenOff parts (Before from) start rec took
  broken_going start took goes may front =
      let told = some_there (walk_from parts (Before to) there (last_moves rec)) may in
      record {
        moved = behind_items items told.0;
        tells = tells_so start.registers told.0 goes told.1;
        front = (
          front.0,
          (let long = length-append items told.0.items in omega (arith, long, front.1)),
          subst took (sym (take-append-le front.0 items told.0.items front.1)) front.2,
        );
      }

  -- the taker failed behind it
  pub broken_telling : (start : WalkParts) (took told : List Item → Type 0) → GoesAlong parts walk from to start.registers there items → HasBrokenOff parts to there rec told
      → ((more : List Item) → told more → took (items ++ more)) → IsBrokenOff parts (Before from) start rec took
  broken_telling start took told goes broken both =
      record {
        moved = behind_items items broken.moved;
        tells = tells_so start.registers broken.moved goes broken.made;
        front = (
          length items + broken.front.0,
          (let long = length-append items broken.moved.items in omega (arith, long, broken.front.1)),
          subst took (sym (take-append-add items broken.moved.items broken.front.0)) (both (take broken.front.0 broken.moved.items) broken.front.2),
        );
      }
