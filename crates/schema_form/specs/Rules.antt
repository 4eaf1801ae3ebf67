-- What a schema may have for a code word: this project's own.
use Rattle.std.specs.Prelude.{ℕ, ◌+◌, ◌%◌, ◌==◌, Bool, true, false, not, ◌&&◌, ◌||◌, List, Option, Some, None, is_some, nat_le, if◌then◌else◌}
use Rattle.std.specs.Option.{option_map_or}
use Rattle.rv_code.specs.declared.class.Class.{Class}
use Rattle.rv_code.specs.declared.extent.Extent.{Extent}
use Rattle.rv_code.specs.Code.{is_code}
use Rattle.rv_code.specs.Numbers.{wrap}
use Rattle.rv_code.specs.Parts.{class_of, target_of, written_by}
use Rattle.rv_code.specs.Table.{meaning_of}
use Rattle.rv_code.specs.Ways.{falls}
use Rattle.schema_form.specs.declared.flags.TheConstants.{FALL_WITNESS, TAKEN_WITNESS, KEPT}
use Rattle.schema_form.specs.declared.word.SchemaWord.{SchemaWord}
use Rattle.schema_form.specs.Flags.{class_number, class_in, is_set, may_be_kept}

-- The raw word is one of the class. It is left out, as 0, where a Plain word isn't kept, and writes a register where a word is kept.
abbrev pub raw_fits : Class → (kept : Bool) → (raw : ℕ) → Bool
raw_fits class kept raw =
    if (class_number class == 0) && not kept then raw == 0
    else (class_number (class_of (meaning_of raw)) == class_number class) && (not kept || is_some (written_by (meaning_of raw)))

-- the mark of a witness edge, by the edge's way
abbrev pub witness_mark : (taken : Bool) → ℕ
witness_mark true = TAKEN_WITNESS
witness_mark false = FALL_WITNESS

-- where a way leads from a word of the class at this address, if it has that way
abbrev pub way_of : (taken : Bool) → Class → (raw address : ℕ) → Option ℕ
way_of true class raw address = target_of (meaning_of raw) address
way_of false class raw address = if falls class then Some (wrap (address + 4)) else None

-- an edge that isn't there is marked as a witness, or one that leaves the code isn't
abbrev pub edge_misfits : List Extent → (way : Option ℕ) → (marked : Bool) → Bool
edge_misfits stretches way marked = option_map_or (λ to. not marked && not (is_code stretches to)) way marked

-- what isn't allowed for a word of the class at this address
abbrev pub misfits_as : List Extent → (address : ℕ) → SchemaWord → Class → Bool
misfits_as stretches address word class =
    nat_le 256 word.flags
    || not (raw_fits class (is_set KEPT word.flags) word.raw)
    || (word.mask % 2 == 1)
    || edge_misfits stretches (way_of false class word.raw address) (is_set FALL_WITNESS word.flags)
    || edge_misfits stretches (way_of true class word.raw address) (is_set TAKEN_WITNESS word.flags)
    || (is_set KEPT word.flags && not (may_be_kept class))

-- what isn't allowed for a code word at this address, where code words stand on these stretches
abbrev pub word_misfits : List Extent → (address : ℕ) → SchemaWord → Bool
word_misfits stretches address word = option_map_or (misfits_as stretches address word) (class_in word.flags) true
