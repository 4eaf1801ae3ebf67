-- What a valid schema has for a code word, with the word's class.
use Rattle.std.specs.Prelude.{◌≡◌, ℕ, Bool, true, false, Some, IsSome}
use Rattle.rv_code.specs.Code.{is_code}
use Rattle.rv_code.specs.Places.{place_of}
use Rattle.rv_code.specs.declared.class.Class.TheVariants.{Plain, Call}
use Rattle.rv_code.specs.declared.instr.Instr.TheVariants.{Ecall}
use Rattle.rv_code.specs.Parts.{class_of}
use Rattle.rv_code.specs.Table.{meaning_of}
use Rattle.schema_form.specs.Flags.{class_in, is_set}
use Rattle.schema_form.specs.LookUps.{schema_word_at}
use Rattle.schema_form.specs.Rules.{way_of, witness_mark}
use Rattle.schema_form.specs.SchemaParts.{SchemaParts}
use Rattle.schema_form.specs.Valid.{IsSchema}
use Rattle.regen_walk.specs.declared.met.Met.{Met}
use Rattle.regen_walk.specs.declared.met.Spot.{Spot}
use Rattle.regen_walk.specs.Moves.{is_kept}

-- a code word stands at the address, and the place is its
abbrev pub IsSpot : SchemaParts → Spot → Type 0
IsSpot parts spot = place_of parts.stretches spot.address ≡ Some spot.place

pub record IsMet (parts : SchemaParts) (at : ℕ) (met : Met) : Type 0 where
  pub valid : IsSchema parts
  pub there : schema_word_at parts at ≡ Some met.word
  pub named : class_in met.word.flags ≡ Some met.class
  -- a kept Plain word is one as it stands
  pub plain : met.class ≡ Plain → is_kept met.word ≡ true → class_of (meaning_of met.word.raw) ≡ Plain
  -- one that isn't kept is left out
  pub left_out : met.class ≡ Plain → is_kept met.word ≡ false → met.word.raw ≡ 0
  -- a word of another class is one as it stands
  pub other : (met.class ≡ Plain → ⊥) → class_of (meaning_of met.word.raw) ≡ met.class
  -- a word of the class Call is one
  pub call : met.class ≡ Call → meaning_of met.word.raw ≡ Ecall
  -- an edge without a record leads to a code word, and one with a record is there
  pub inner : (taken : Bool) (to : ℕ) → way_of taken met.class met.word.raw at ≡ Some to → is_set (witness_mark taken) met.word.flags ≡ false → is_code parts.stretches to ≡ true
  pub marked : (taken : Bool) → is_set (witness_mark taken) met.word.flags ≡ true → IsSome (way_of taken met.class met.word.raw at)
