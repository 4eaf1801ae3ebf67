-- What comes of the move that gives a record.
use Rattle.std.proofs.Common.{◌≡◌, inl, inr, ℕ, ◌+◌, ◌%◌, Bool, true, false, cond, List, [], ◌∷◌, length, Option, Some, None, refl, sym, ap, ◌∙◌}
use Rattle.std.specs.Prelude.{◌&&◌, ◌==◌, is_some}
use Rattle.std.specs.Option.{option_and_then, option_map}
use Rattle.std.proofs.lemmas.Bool.{and_parts, cases_Bool, eq-eqb, eqb-true}
use Rattle.std.proofs.lemmas.List.{append-nil}
use Rattle.ae_nums.specs.declared.item.Item.{Item}
use Rattle.rv_code.specs.declared.class.Class.{Class}
use Rattle.rv_code.specs.declared.class.Class.TheVariants.{Plain, Load, Store, Branch, Jump, Indirect, Call, Stop}
use Rattle.rv_code.specs.declared.instr.Instr.{Instr}
use Rattle.rv_code.specs.declared.instr.Instr.TheVariants.{Ecall}
use Rattle.rv_code.specs.Table.{meaning_of}
use Rattle.rv_machine.specs.State.{with_register}
use Rattle.ev_format.specs.declared.record.Record.TheVariants as records
use Rattle.schema_form.specs.declared.word.SchemaWord.{SchemaWord}
use Rattle.ev_format.specs.Shapes.{value_count}
use Rattle.schema_form.specs.LookUps.{is_indirect, schema_shape}
use Rattle.schema_form.specs.Flags.{is_set}
use Rattle.schema_form.specs.Rules.{way_of, witness_mark}
use Rattle.schema_form.specs.SchemaParts.{SchemaParts}
use Rattle.regen_walk.specs.declared.met.Met.{Met}
use Rattle.regen_walk.specs.declared.position.Position.{Position}
use Rattle.regen_walk.specs.declared.position.Position.TheVariants.{Before, After}
use Rattle.regen_walk.specs.Accesses.{access_by, with_written}
use Rattle.regen_walk.specs.Inner.Met.{IsMet}
use Rattle.regen_walk.specs.FreeArcs.{goes_quietly}
use Rattle.regen_walk.specs.Inner.Going.{IsCarriedOut, items_at}
use Rattle.regen_walk.specs.Inner.Telling.{edge_record, last_moves, may_tell}
use Rattle.regen_walk.specs.Labels.{Label, Quiet, Tell}
use Rattle.regen_walk.specs.Moves.{Moved, ends_at, goes_on, is_kept, lands, move_by_class, move_of, names_edge, needed_at, placed_at}
use Rattle.regen_walk.specs.Walks.{behind_items, walk_from}
use Rattle.regen_walk.proofs.Steps.{move_after, move_before, may_one}
use Rattle.regen_walk.proofs.Told.{tells_edge, tells_landing, tells_no_edge}

cond_there : {X : Type 0} (b : Bool) (x : X) → is_some (cond b (Some x) None) ≡ true → cond b (Some x) None ≡ Some x
cond_there true x is = refl
cond_there false x is = absurd (cc is)

module _ (parts : SchemaParts) (at : ℕ) (word : SchemaWord) (registers : List ℕ) where
  end_there : (from kind detail : ℕ) (class : Class) → is_some (move_by_class parts at word registers class (Tell (records.End from kind detail))) ≡ true
      → move_by_class parts at word registers class (Tell (records.End from kind detail)) ≡ Some (ends_at at registers)
  end_there from kind detail Plain is = absurd (cc is)
  end_there from kind detail Load is = cond_there _ (ends_at at registers) is
  end_there from kind detail Store is = cond_there _ (ends_at at registers) is
  end_there from kind detail Branch is = absurd (cc is)
  end_there from kind detail Jump is = absurd (cc is)
  end_there from kind detail Indirect is = absurd (cc is)
  end_there from kind detail Call is = cond_there _ (ends_at at registers) is
  end_there from kind detail Stop is = cond_there _ (ends_at at registers) is

  value_there : (from value : ℕ) (class : Class) → (class ≡ Call → meaning_of word.raw ≡ Ecall) → is_some (move_by_class parts at word registers class (Tell (records.Value from value))) ≡ true
      → move_by_class parts at word registers class (Tell (records.Value from value)) ≡ Some (goes_on at (access_by (meaning_of word.raw) registers) false (with_written (meaning_of word.raw) registers value))
  value_there from value Plain call is = absurd (cc is)
  value_there from value Load call is = cond_there _ (goes_on at (access_by (meaning_of word.raw) registers) false (with_written (meaning_of word.raw) registers value)) is
  value_there from value Store call is = absurd (cc is)
  value_there from value Branch call is = absurd (cc is)
  value_there from value Jump call is = absurd (cc is)
  value_there from value Indirect call is = absurd (cc is)
  value_there from value Call call is =
      cond_there _ (goes_on at None false (with_register registers 10 value)) is
      ∙ ap (λ (instr : Instr). Some (goes_on at (access_by instr registers) false (with_written instr registers value))) (sym (call refl))
  value_there from value Stop call is = absurd (cc is)

  landing_there : (from target : ℕ) (values : List ℕ) (class : Class) → is_some (move_by_class parts at word registers class (Tell (records.Landing from target values))) ≡ true
      → move_by_class parts at word registers class (Tell (records.Landing from target values)) ≡ Some (lands parts at target values (with_written (meaning_of word.raw) registers (at + 4)))
  landing_there from target values Plain is = absurd (cc is)
  landing_there from target values Load is = absurd (cc is)
  landing_there from target values Store is = absurd (cc is)
  landing_there from target values Branch is = absurd (cc is)
  landing_there from target values Jump is = absurd (cc is)
  landing_there from target values Indirect is = cond_there _ (lands parts at target values (with_written (meaning_of word.raw) registers (at + 4))) is
  landing_there from target values Call is = absurd (cc is)
  landing_there from target values Stop is = absurd (cc is)

-- a walk of one move
alone : (parts : SchemaParts) (at : ℕ) (registers : List ℕ) (label : Label) (moved : Moved) → move_of parts (Before at) registers label ≡ Some moved → walk_from parts (Before at) registers (label ∷ []) ≡ Some moved
alone parts at registers label moved is =
    ap (option_and_then (λ (first : Moved). option_map (behind_items first.items) (walk_from parts first.position first.registers []))) is
    ∙ ap (λ (items : List Item). Some (record { items = items; position = moved.position; registers = moved.registers })) (append-nil moved.items)

module _ (parts : SchemaParts) (at : ℕ) (met : Met) (is : IsMet parts at met) (registers : List ℕ) where
  one : (label : Label) (moved : Moved) → move_by_class parts at met.word registers met.class label ≡ Some moved → walk_from parts (Before at) registers (label ∷ []) ≡ Some moved
  one label moved there = alone parts at registers label moved (move_before parts at met registers label is ∙ there)

  pub end_made : (from kind detail : ℕ) → may_tell parts at registers (records.End from kind detail) ≡ true
      → walk_from parts (Before at) registers (Tell (records.End from kind detail) ∷ []) ≡ Some (ends_at at registers)
  end_made from kind detail may =
      one (Tell (records.End from kind detail)) (ends_at at registers)
      (end_there parts at met.word registers from kind detail met.class (sym (may_one parts at met registers (Tell (records.End from kind detail)) is) ∙ may))

  pub value_made : (from value : ℕ) → may_tell parts at registers (records.Value from value) ≡ true
      → walk_from parts (Before at) registers (Tell (records.Value from value) ∷ [])
      ≡ Some (goes_on at (access_by (meaning_of met.word.raw) registers) false (with_written (meaning_of met.word.raw) registers value))
  value_made from value may =
      one (Tell (records.Value from value)) (goes_on at (access_by (meaning_of met.word.raw) registers) false (with_written (meaning_of met.word.raw) registers value))
      (value_there parts at met.word registers from value met.class is.call (sym (may_one parts at met registers (Tell (records.Value from value)) is) ∙ may))

  pub landing_made : (from target : ℕ) (values : List ℕ) → may_tell parts at registers (records.Landing from target values) ≡ true
      → walk_from parts (Before at) registers (Tell (records.Landing from target values) ∷ [])
      ≡ Some (lands parts at target values (with_written (meaning_of met.word.raw) registers (at + 4)))
  landing_made from target values may =
      one (Tell (records.Landing from target values)) (lands parts at target values (with_written (meaning_of met.word.raw) registers (at + 4)))
      (landing_there parts at met.word registers from target values met.class (sym (may_one parts at met registers (Tell (records.Landing from target values)) is) ∙ may))

-- the two moves over an edge that is recorded
module _ (parts : SchemaParts) (at : ℕ) (met : Met) (is : IsMet parts at met) (taken : Bool) (registers : List ℕ) (may : may_tell parts at registers (edge_record taken at) ≡ true) where
  walk_is : may_tell parts at registers (edge_record taken at) ≡ is_some (walk_from parts (Before at) registers (Quiet taken ∷ Tell (edge_record taken at) ∷ []))
  walk_is = elim taken as (λ t. may_tell parts at registers (edge_record t at) ≡ is_some (walk_from parts (Before at) registers (Quiet t ∷ Tell (edge_record t at) ∷ []))) [ true ↦ refl | false ↦ refl ]

  pub edge_quiet : goes_quietly (is_kept met.word) taken met.class ≡ true
  edge_quiet = elim (cases_Bool (goes_quietly (is_kept met.word) taken met.class)) [
    | inl quiet ↦ quiet
    | inr loud ↦ absurd (let clash : false ≡ true = sym (walk_is ∙ tells_no_edge parts at met is registers at taken loud) ∙ may in cc)
  ]

  pub edge_marked : is_set (witness_mark taken) met.word.flags ≡ true
  edge_marked = sym (walk_is ∙ tells_edge parts at met is registers at refl taken edge_quiet) ∙ may

last_edge : (taken : Bool) (at : ℕ) → last_moves (edge_record taken at) ≡ Quiet taken ∷ Tell (edge_record taken at) ∷ []
last_edge true at = refl
last_edge false at = refl

named : (at : ℕ) (taken : Bool) → names_edge at taken true (Tell (edge_record taken at)) ≡ true
named at true = eq-eqb at at refl
named at false = eq-eqb at at refl

module _ (parts : SchemaParts) (at : ℕ) (met : Met) (is : IsMet parts at met) (taken : Bool) (registers now : List ℕ) (access : Option Item) where
  pub edge_made : goes_quietly (is_kept met.word) taken met.class ≡ true → is_set (witness_mark taken) met.word.flags ≡ true → IsCarriedOut at met registers access now → (next : ℕ) (position : Position)
      → way_of taken met.class met.word.raw at ≡ Some next → position ≡ placed_at parts next
      → walk_from parts (Before at) registers (last_moves (edge_record taken at)) ≡ Some (record { items = items_at at access; position = position; registers = now })
  edge_made quiet marked carries next position way placed =
      let first = move_before parts at met registers (Quiet taken) is ∙ carries parts taken quiet in
      let second : move_of parts (After at taken) now (Tell (edge_record taken at)) ≡ Some (record { items = []; position = placed_at parts next; registers = now }) =
      move_after parts at met taken now (Tell (edge_record taken at)) is
      ∙ ap (λ m. cond (names_edge at taken m (Tell (edge_record taken at))) (option_map (λ target. record { items = []; position = placed_at parts target; registers = now }) (way_of taken met.class met.word.raw at)) None) marked
      ∙ ap (λ b. cond b (option_map (λ target. record { items = []; position = placed_at parts target; registers = now }) (way_of taken met.class met.word.raw at)) None) (named at taken)
      ∙ ap (option_map (λ target. record { items = []; position = placed_at parts target; registers = now })) way
      in
      ap (walk_from parts (Before at) registers) (last_edge taken at)
      ∙ ap (option_and_then (λ (moved : Moved). option_map (behind_items moved.items) (walk_from parts moved.position moved.registers (Tell (edge_record taken at) ∷ [])))) first
      ∙ ap (λ o. option_map (behind_items (items_at at access)) (option_and_then (λ (moved : Moved). option_map (behind_items moved.items) (walk_from parts moved.position moved.registers [])) o)) second
      ∙ ap (λ (items : List Item). Some (record { items = items; position = placed_at parts next; registers = now })) (append-nil (items_at at access))
      ∙ ap (λ (p : Position). Some (record { items = items_at at access; position = p; registers = now })) (sym placed)

-- a landing has a value for each register that is needed
pub landing_count : (parts : SchemaParts) (at : ℕ) (met : Met) (is : IsMet parts at met) (registers : List ℕ) (target : ℕ) (values : List ℕ) → may_tell parts at registers (records.Landing at target values) ≡ true
    → length values ≡ length (needed_at parts target)
landing_count parts at met is registers target values may =
    let gate = sym (tells_landing parts at met is registers at target values refl) ∙ may in
    let inner = (and_parts (is_indirect met.class) ((target % 2 == 0) && (length values == value_count (schema_shape parts) target)) gate).1 in
    eqb-true (length values) (value_count (schema_shape parts) target) (and_parts (target % 2 == 0) (length values == value_count (schema_shape parts) target) inner).1
