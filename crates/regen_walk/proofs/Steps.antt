-- Moves at a word that a schema has.
use Rattle.std.proofs.Common.{◌≡◌, inl, inr, ℕ, ◌%◌, ◌+◌, Bool, true, false, cond, eqb, List, [], ◌∷◌, Option, Some, None, refl, sym, ap, ◌∙◌}
use Rattle.std.specs.Prelude.{◌&&◌, ◌==◌, not, is_some, length, slice_get}
use Rattle.std.specs.Option.{option_and_then, option_map}
use Rattle.std.proofs.lemmas.Bool.{cases_Bool}
use Rattle.rv_code.specs.declared.class.Class.{Class}
use Rattle.rv_code.specs.declared.class.Class.TheVariants.{Plain, Load, Store, Branch, Jump, Indirect, Call, Stop}
use Rattle.rv_code.specs.Places.{place_of}
use Rattle.rv_code.specs.Table.{meaning_of}
use Rattle.ev_format.specs.declared.record.Record.TheVariants as records
use Rattle.ev_format.specs.Shapes.{value_count}
use Rattle.schema_form.specs.declared.word.SchemaWord.{SchemaWord}
use Rattle.schema_form.specs.Flags.{class_in}
use Rattle.schema_form.specs.LookUps.{gives_value, is_indirect, schema_shape}
use Rattle.schema_form.specs.SchemaParts.{SchemaParts}
use Rattle.regen_walk.specs.declared.met.Met.{Met}
use Rattle.regen_walk.specs.declared.position.Position.TheVariants.{Before, After, Outside, Stopped}
use Rattle.regen_walk.specs.Accesses.{access_by, may_end, with_written}
use Rattle.regen_walk.specs.FreeArcs.{goes_quietly}
use Rattle.regen_walk.specs.Inner.Met.{IsMet}
use Rattle.regen_walk.specs.Inner.Telling.{may_stop}
use Rattle.regen_walk.specs.Labels.{Label, Quiet, Tell}
use Rattle.regen_walk.specs.Moves.{Moved, by_word_at, goes_on, is_kept, lands, move_by_class, move_of, move_outside, move_over}
use Rattle.regen_walk.specs.Walks.{behind_items, walk_from}

by_met : (parts : SchemaParts) (at : ℕ) (met : Met) (moved : SchemaWord → Class → Option Moved) → IsMet parts at met → by_word_at parts at moved ≡ moved met.word met.class
by_met parts at met moved is =
    ap (option_and_then (λ (word : SchemaWord). option_and_then (moved word) (class_in word.flags))) is.there
    ∙ ap (option_and_then (moved met.word)) is.named

pub move_before : (parts : SchemaParts) (at : ℕ) (met : Met) (registers : List ℕ) (label : Label) → IsMet parts at met
    → move_of parts (Before at) registers label ≡ move_by_class parts at met.word registers met.class label
unfolding move_of
move_before parts at met registers label is = by_met parts at met (λ word class. move_by_class parts at word registers class label) is

pub move_after : (parts : SchemaParts) (at : ℕ) (met : Met) (taken : Bool) (registers : List ℕ) (label : Label) → IsMet parts at met
    → move_of parts (After at taken) registers label ≡ move_over parts at taken met.word registers met.class label
unfolding move_of
move_after parts at met taken registers label is = by_met parts at met (λ word class. move_over parts at taken word registers class label) is

pub move_from_outside : (parts : SchemaParts) (target : ℕ) (registers : List ℕ) (label : Label) → move_of parts (Outside target) registers label ≡ move_outside target registers label
unfolding move_of
move_from_outside parts target registers label = refl

pub move_from_stopped : (parts : SchemaParts) (registers : List ℕ) (label : Label) → move_of parts Stopped registers label ≡ None
unfolding move_of
move_from_stopped parts registers label = refl

-- where a word has a move, it has a place
by_place : (parts : SchemaParts) (at : ℕ) (found : SchemaWord → Option Moved) (place : Option ℕ) (moved : Moved) → place_of parts.stretches at ≡ place
    → option_and_then found (option_and_then (slice_get parts.words) place) ≡ Some moved → (there : ℕ) × (place_of parts.stretches at ≡ Some there)
by_place parts at found None moved is made = absurd (cc made)
by_place parts at found (Some place) moved is made = (place, is)

pub move_placed_before : (parts : SchemaParts) (at : ℕ) (registers : List ℕ) (label : Label) (moved : Moved) → move_of parts (Before at) registers label ≡ Some moved
    → (place : ℕ) × (place_of parts.stretches at ≡ Some place)
unfolding move_of
move_placed_before parts at registers label moved made =
    by_place parts at (λ (word : SchemaWord). option_and_then (λ (class : Class). move_by_class parts at word registers class label) (class_in word.flags)) (place_of parts.stretches at) moved refl made

pub move_placed_after : (parts : SchemaParts) (at : ℕ) (taken : Bool) (registers : List ℕ) (label : Label) (moved : Moved) → move_of parts (After at taken) registers label ≡ Some moved
    → (place : ℕ) × (place_of parts.stretches at ≡ Some place)
unfolding move_of
move_placed_after parts at taken registers label moved made =
    by_place parts at (λ (word : SchemaWord). option_and_then (λ (class : Class). move_over parts at taken word registers class label) (class_in word.flags)) (place_of parts.stretches at) moved refl made

-- one move can be made where there is one
alone_some : (o : Option Moved) → is_some (option_and_then (λ (first : Moved). option_map (behind_items first.items) (Some (record { items = []; position = first.position; registers = first.registers }))) o) ≡ is_some o
alone_some None = refl
alone_some (Some moved) = refl

pub may_one : (parts : SchemaParts) (at : ℕ) (met : Met) (registers : List ℕ) (label : Label) → IsMet parts at met
    → is_some (walk_from parts (Before at) registers (label ∷ [])) ≡ is_some (move_by_class parts at met.word registers met.class label)
may_one parts at met registers label is = alone_some (move_of parts (Before at) registers label) ∙ ap is_some (move_before parts at met registers label is)

some_cond : {X : Type 0} (b : Bool) (x : X) → is_some (cond b (Some x) None) ≡ b
some_cond true x = refl
some_cond false x = refl

-- with a gate that holds before another
gated : {X : Type 0} (first b : Bool) (x : X) → first ≡ true → is_some (cond (first && b) (Some x) None) ≡ b
gated first b x is = ap (λ f. is_some (cond (f && b) (Some x) None)) is ∙ some_cond b x

gated_alone : {X : Type 0} (first : Bool) (x : X) → first ≡ true → is_some (cond first (Some x) None) ≡ true
gated_alone first x is = some_cond first x ∙ is

module _ (parts : SchemaParts) (at from : ℕ) (word : SchemaWord) (registers : List ℕ) (same : eqb from at ≡ true) where
  pub value_by : (value : ℕ) (class : Class) → is_some (move_by_class parts at word registers class (Tell (records.Value from value))) ≡ gives_value (is_kept word) class
  value_by value Plain = refl
  value_by value Load = gated (eqb from at) (is_kept word) _ same
  value_by value Store = refl
  value_by value Branch = refl
  value_by value Jump = refl
  value_by value Indirect = refl
  value_by value Call = gated_alone (eqb from at) _ same
  value_by value Stop = refl

  pub end_by : (kind detail : ℕ) (class : Class) → is_some (move_by_class parts at word registers class (Tell (records.End from kind detail)))
      ≡ (may_stop class && may_end (meaning_of word.raw) registers kind detail)
  end_by kind detail Plain = refl
  end_by kind detail Load = gated (eqb from at) (may_end (meaning_of word.raw) registers kind detail) _ same
  end_by kind detail Store = gated (eqb from at) (may_end (meaning_of word.raw) registers kind detail) _ same
  end_by kind detail Branch = refl
  end_by kind detail Jump = refl
  end_by kind detail Indirect = refl
  end_by kind detail Call = gated (eqb from at) (may_end (meaning_of word.raw) registers kind detail) _ same
  end_by kind detail Stop = gated (eqb from at) (may_end (meaning_of word.raw) registers kind detail) _ same

  pub landing_by : (target : ℕ) (values : List ℕ) (class : Class) → is_some (move_by_class parts at word registers class (Tell (records.Landing from target values)))
      ≡ (is_indirect class && ((target % 2 == 0) && (length values == value_count (schema_shape parts) target)))
  landing_by target values Plain = refl
  landing_by target values Load = refl
  landing_by target values Store = refl
  landing_by target values Branch = refl
  landing_by target values Jump = refl
  landing_by target values Indirect =
      ap (λ f. is_some (cond ((f && (target % 2 == 0)) && (length values == value_count (schema_shape parts) target)) (Some (lands parts at target values (with_written (meaning_of word.raw) registers (at + 4)))) None)) same
      ∙ some_cond ((target % 2 == 0) && (length values == value_count (schema_shape parts) target)) _
  landing_by target values Call = refl
  landing_by target values Stop = refl

-- a move without a record is there exactly where the word goes on so
pub record IsQuiet (parts : SchemaParts) (at : ℕ) (word : SchemaWord) (registers : List ℕ) (class : Class) (taken : Bool) : Type 0 where
  pub moved : Moved
  pub is : move_by_class parts at word registers class (Quiet taken) ≡ Some moved
  pub position : moved.position ≡ After at taken

module _ (parts : SchemaParts) (at : ℕ) (word : SchemaWord) (registers : List ℕ) where
  by_kept : (kept : Bool) (moved : Moved) → kept ≡ false → cond kept None (Some moved) ≡ Some moved
  by_kept kept moved is = ap (λ k. cond k None (Some moved)) is

  pub quiet_some : (class : Class) (taken : Bool) → goes_quietly (is_kept word) taken class ≡ true → IsQuiet parts at word registers class taken
  quiet_some Plain true is = absurd (cc is)
  quiet_some Plain false is = record { moved = _; is = refl; position = refl }
  quiet_some Load taken is = elim (cases_Bool (is_kept word)) [
    | inl kept ↦ absurd (let clash : false ≡ true = sym (ap (λ k. cond k false (not taken)) kept) ∙ is in cc)
    | inr free ↦ load_some taken free (sym (ap (λ k. cond k false (not taken)) free) ∙ is)
  ]
    where
      load_some : (taken : Bool) → is_kept word ≡ false → not taken ≡ true → IsQuiet parts at word registers Load taken
      load_some true free is = absurd (cc is)
      load_some false free is = record { moved = _; is = by_kept (is_kept word) _ free; position = refl }
  quiet_some Store true is = absurd (cc is)
  quiet_some Store false is = record { moved = _; is = refl; position = refl }
  quiet_some Branch taken is = record { moved = _; is = refl; position = refl }
  quiet_some Jump true is = record { moved = _; is = refl; position = refl }
  quiet_some Jump false is = absurd (cc is)
  quiet_some Indirect taken is = absurd (cc is)
  quiet_some Call taken is = absurd (cc is)
  quiet_some Stop taken is = absurd (cc is)

  pub quiet_none : (class : Class) (taken : Bool) → goes_quietly (is_kept word) taken class ≡ false → move_by_class parts at word registers class (Quiet taken) ≡ None
  quiet_none Plain true is = refl
  quiet_none Plain false is = absurd (cc is)
  quiet_none Load true is = refl
  quiet_none Load false is = elim (cases_Bool (is_kept word)) [
    | inl kept ↦ ap (λ k. cond k None (Some (goes_on at (access_by (meaning_of word.raw) registers) false registers))) kept
    | inr free ↦ absurd (let clash : true ≡ false = sym (ap (λ k. cond k false true) free) ∙ is in cc)
  ]
  quiet_none Store true is = refl
  quiet_none Store false is = absurd (cc is)
  quiet_none Branch taken is = absurd (cc is)
  quiet_none Jump true is = absurd (cc is)
  quiet_none Jump false is = refl
  quiet_none Indirect taken is = refl
  quiet_none Call taken is = refl
  quiet_none Stop taken is = refl
