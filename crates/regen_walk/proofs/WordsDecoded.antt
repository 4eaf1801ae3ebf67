-- Instructions that were decoded once, found by the places of their words.
use Rattle.std.proofs.Common.{◌≡◌, ℕ, zero, suc, List, [], ◌∷◌, ◌++◌, length, get_or, Some, refl, sym, ap, ◌∙◌, subst}
use Rattle.std.specs.Prelude.{slice_get}
use Rattle.std.specs.Option.{option_and_then}
use Rattle.rv_code.specs.declared.instr.Instr.{Instr}
use Rattle.schema_form.specs.declared.word.SchemaWord.{SchemaWord}
use Rattle.schema_form.specs.SchemaParts.{SchemaParts}
use Rattle.regen_walk.specs.declared.met.Met.{Met}
use Rattle.regen_walk.specs.declared.met.Spot.{Spot}
use Rattle.regen_walk.specs.Decoded.{AreDecoded, IsDecoded}
use Rattle.regen_walk.specs.Inner.Met.{IsMet, IsSpot}

-- one more, behind the others
pub one_more : (words : List SchemaWord) (instrs : List Instr) (word : SchemaWord) (instr : Instr) → AreDecoded words instrs → IsDecoded word.raw instr
    → AreDecoded (words ++ word ∷ []) (instrs ++ instr ∷ [])
one_more [] [] word instr are is = (is, tt)
one_more [] (other ∷ instrs) word instr are is = absurd are
one_more (first ∷ words) [] word instr are is = absurd are
one_more (first ∷ words) (other ∷ instrs) word instr are is = (are.0, one_more words instrs word instr are.1 is)

-- there are as many
pub as_many : (words : List SchemaWord) (instrs : List Instr) → AreDecoded words instrs → length instrs ≡ length words
as_many [] [] are = refl
as_many [] (other ∷ instrs) are = absurd are
as_many (first ∷ words) [] are = absurd are
as_many (first ∷ words) (other ∷ instrs) are = ap suc (as_many words instrs are.1)

-- the one at a place is that of the word there
pub decoded_at : (words : List SchemaWord) (instrs : List Instr) (place : ℕ) (word : SchemaWord) (default : Instr) → AreDecoded words instrs → slice_get words place ≡ Some word
    → IsDecoded word.raw (get_or instrs place default)
decoded_at [] [] place word default are at = absurd (cc at)
decoded_at [] (other ∷ instrs) place word default are at = absurd are
decoded_at (first ∷ words) [] place word default are at = absurd are
decoded_at (first ∷ words) (other ∷ instrs) zero word default are at =
    let same : first ≡ word = cc at in subst (λ (w : SchemaWord). IsDecoded w.raw other) same are.0
decoded_at (first ∷ words) (other ∷ instrs) (suc place) word default are at = decoded_at words instrs place word default are.1 at

-- the word that is met at a spot stands at its place
pub met_stands : (parts : SchemaParts) (spot : Spot) (met : Met) → IsSpot parts spot → IsMet parts spot.address met → slice_get parts.words spot.place ≡ Some met.word
met_stands parts spot met there is = sym (ap (option_and_then (slice_get parts.words)) there) ∙ is.there
