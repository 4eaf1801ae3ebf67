-- Advances from after a word, from outside, and from behind an End.
use Rattle.std.proofs.Common.{◌≡◌, ◌⊎◌, inl, inr, ℕ, Bool, true, false, List, [], ◌∷◌, Some, None, Result, Ok, Err, refl, sym, ap, subst, ◌∙◌}
use Rattle.std.specs.Prelude.{IfErr, OnErr, OnOk}
use Rattle.std.specs.Option.{option_and_then, option_map}
use Rattle.ae_nums.specs.declared.item.Item.{Item}
use Rattle.ev_format.specs.declared.record.Record.{Record}
use Rattle.schema_form.specs.SchemaParts.{SchemaParts}
use Rattle.regen_walk.specs.declared.met.Spot.{Spot}
use Rattle.regen_walk.specs.declared.position.Position.{Position}
use Rattle.regen_walk.specs.declared.position.Position.TheVariants.{Before, After, Outside, Stopped}
use Rattle.regen_walk.specs.declared.telling.Stand.{Stand}
use Rattle.regen_walk.specs.declared.turn.Turn.{Turn}
use Rattle.regen_walk.specs.declared.turn.WalkFault.{WalkFault}
use Rattle.regen_walk.specs.declared.turn.WalkFault.TheVariants.{Astray, Failed}
use Rattle.regen_walk.specs.Inner.Crossing.{CrossesNowhere, CrossesQuietly, CrossesTold}
use Rattle.regen_walk.specs.Labels.{Label, Quiet, Tell, moves_to}
use Rattle.regen_walk.specs.Moves.{Moved, move_of, move_outside}
use Rattle.regen_walk.specs.Promises.{WalkAdvances, AdvancesFrom, IsAstray, Tells}
use Rattle.regen_walk.specs.Walks.{behind_items, walk_from}
use Rattle.regen_walk.specs.WalkView.{WalkParts}
use Rattle.regen_walk.proofs.Reached.{first_move}
use Rattle.regen_walk.proofs.Steps.{move_from_outside, move_from_stopped}

same_way : (one two : Bool) → (one ≡ two) ⊎ (one ≡ two → ⊥)
same_way true true = inl refl
same_way false false = inl refl
same_way true false = inr (λ is. absurd (cc is))
same_way false true = inr (λ is. absurd (cc is))

-- a walk by one move that isn't there
pub not_first : (parts : SchemaParts) (position : Position) (registers : List ℕ) (label : Label) (labels : List Label) (moved : Moved) → move_of parts position registers label ≡ None
    → walk_from parts position registers (label ∷ labels) ≡ Some moved → ⊥
not_first parts position registers label labels moved none made =
    let b = first_move parts position registers label labels moved made in
    let clash : None ≡ Some b.first = sym none ∙ b.made in
    cc

module _ (parts : SchemaParts) (position : Position) (registers : List ℕ) (rec : Record) where
  -- no move that could be made first
  none_first : ((way : Bool) → move_of parts position registers (Quiet way) ≡ None) → move_of parts position registers (Tell rec) ≡ None → (ways : List Bool) (moved : Moved)
      → walk_from parts position registers (moves_to ways rec) ≡ Some moved → ⊥
  none_first quiet told [] moved made = not_first parts position registers (Tell rec) [] moved told made
  none_first quiet told (way ∷ ways) moved made = not_first parts position registers (Quiet way) (moves_to ways rec) moved (quiet way) made

  -- the one move that has the record
  tells_at_once : (position_then : Position) → move_of parts position registers (Tell rec) ≡ Some (record { items = []; position = position_then; registers = registers })
      → Tells parts position registers rec (record { items = []; position = position_then; registers = registers })
  tells_at_once position_then is =
      record {
        ways = [];
        made = ap (option_and_then (λ (first : Moved). option_map (behind_items first.items) (walk_from parts first.position first.registers []))) is;
      }

module _ (parts : SchemaParts) (at : ℕ) (taken : Bool) (rec : Record) where
  module _ (next : Spot) (crosses : CrossesQuietly parts at taken next) where
    tells_over : (registers : List ℕ) (moved : Moved) → Tells parts (Before next.address) registers rec moved → Tells parts (After at taken) registers rec moved
    tells_over registers moved tells =
        record {
          ways = taken ∷ tells.ways;
          made =
              ap (option_and_then (λ (first : Moved). option_map (behind_items first.items) (walk_from parts first.position first.registers (moves_to tells.ways rec)))) (crosses.moves registers)
              ∙ ap (option_map (behind_items [])) tells.made;
        }

    none_over : (registers : List ℕ) → ((moved : Moved) → Tells parts (Before next.address) registers rec moved → ⊥) → (ways : List Bool) (moved : Moved)
        → walk_from parts (After at taken) registers (moves_to ways rec) ≡ Some moved → ⊥
    none_over registers none [] moved made = not_first parts (After at taken) registers (Tell rec) [] moved (crosses.untold rec registers) made
    none_over registers none (way ∷ ways) moved made = elim (same_way way taken) [
      | inr apart ↦ not_first parts (After at taken) registers (Quiet way) (moves_to ways rec) moved (crosses.other way apart registers) made
      | inl same ↦
          let b = first_move parts (After at taken) registers (Quiet way) (moves_to ways rec) moved made in
          let crossed : Moved = record { items = []; position = Before next.address; registers = registers } in
          let first : b.first ≡ crossed =
          (let both : Some b.first ≡ Some crossed = sym b.made ∙ ap (λ (w : Bool). move_of parts (After at taken) registers (Quiet w)) same ∙ crosses.moves registers in cc)
          in
          let made_there : walk_from parts (Before next.address) registers (moves_to ways rec) ≡ Some b.rest =
          subst (λ (m : Moved). walk_from parts m.position m.registers (moves_to ways rec) ≡ Some b.rest) first b.behind
          in
          none b.rest (record { ways = ways; made = made_there })
    ]

    -- over an edge without a record
    pub over_quietly : (start : WalkParts) (took : List Item → Type 0) (now : WalkParts) (result : Result Turn WalkFault) → AdvancesFrom parts (Before next.address) start rec took now result
        → AdvancesFrom parts (After at taken) start rec took now result
    over_quietly start took now (Ok turn) went = (went.0, tells_over start.registers went.0 went.1, went.2)
    over_quietly start took now (Err Astray) astray =
        record { none = λ moved tells. none_over start.registers astray.none tells.ways moved tells.made; same = astray.same }
    over_quietly start took now (Err Failed) broken =
        record { moved = broken.moved; tells = tells_over start.registers broken.moved broken.tells; front = broken.front }

  -- over an edge by its record
  pub over_told : (stand : Stand) → CrossesTold parts at taken rec stand → (registers : List ℕ)
      → Tells parts (After at taken) registers rec (record { items = []; position = stand.position; registers = registers })
  over_told stand crosses registers = tells_at_once parts (After at taken) registers rec stand.position (crosses.moves registers)

  -- over no edge
  pub over_none : CrossesNowhere parts at taken rec → (registers : List ℕ) (moved : Moved) → Tells parts (After at taken) registers rec moved → ⊥
  over_none crosses registers moved tells =
      none_first parts (After at taken) registers rec (λ way. crosses.quiet way registers) (crosses.untold registers) tells.ways moved tells.made

module _ (parts : SchemaParts) (start : WalkParts) (rec : Record) where
  -- from where no code word stands
  pub from_outside : (target : ℕ) (took : List Item → Type 0) (now : WalkParts) (result : Result Turn WalkFault) → start.position ≡ Outside target → took []
      → OnOk result ((registers : List ℕ) → move_outside target registers (Tell rec) ≡ Some (record { items = []; position = Stopped; registers = registers }))
      → OnErr result ((registers : List ℕ) → move_outside target registers (Tell rec) ≡ None) → IfErr result (λ (fault : WalkFault). fault ≡ Astray)
      → OnOk result (now ≡ record start { position = Stopped }) → OnErr result (now ≡ start) → WalkAdvances parts start rec took now result
  from_outside target took now (Ok turn) at nothing stops none astray stopped same = (
    record { items = []; position = Stopped; registers = start.registers },
    subst (λ (p : Position). Tells parts p start.registers rec (record { items = []; position = Stopped; registers = start.registers })) (sym at)
        (tells_at_once parts (Outside target) start.registers rec Stopped (move_from_outside parts target start.registers (Tell rec) ∙ stops start.registers)),
    record { given = nothing; position = ap (λ (w : WalkParts). w.position) stopped; registers = ap (λ (w : WalkParts). w.registers) stopped },
  )
  from_outside target took now (Err Astray) at nothing stops none astray stopped same =
      let never : (moved : Moved) → Tells parts (Outside target) start.registers rec moved → ⊥ =
      λ moved tells.
      none_first parts (Outside target) start.registers rec (λ way. move_from_outside parts target start.registers (Quiet way))
      (move_from_outside parts target start.registers (Tell rec) ∙ none start.registers) tells.ways moved tells.made
      in
      record { none = subst (λ (p : Position). (moved : Moved) → Tells parts p start.registers rec moved → ⊥) (sym at) never; same = same }
  from_outside target took now (Err Failed) at nothing stops none astray stopped same = absurd (cc astray)

  -- from behind an End
  pub from_stopped : start.position ≡ Stopped → IsAstray parts start.position start rec start
  from_stopped at =
      let never : (moved : Moved) → Tells parts Stopped start.registers rec moved → ⊥ =
      λ moved tells.
      none_first parts Stopped start.registers rec (λ way. move_from_stopped parts start.registers (Quiet way)) (move_from_stopped parts start.registers (Tell rec)) tells.ways moved tells.made
      in
      record { none = subst (λ (p : Position). (moved : Moved) → Tells parts p start.registers rec moved → ⊥) (sym at) never; same = refl }
