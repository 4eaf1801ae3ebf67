-- Slices: the words that compute the address of a load or store (Weiser 1984; reaching definitions are those of Aho, Lam, Sethi and Ullman,
-- section 9.2.4). That a slice goes on through Plain words alone is this project's own.
use Rattle.std.specs.Prelude.{◌≡◌, ◌≢◌, ℕ, Bool, true, false, List, Some}
use Rattle.std.specs.List.{Contains}
use Rattle.std.specs.Option.{option_map_or}
use Rattle.rv_code.specs.declared.class.Class.{Class}
use Rattle.rv_code.specs.declared.class.Class.TheVariants.{Plain, Load, Store, Branch, Jump, Indirect, Call, Stop}
use Rattle.rv_code.specs.declared.image.Range.{Range}
use Rattle.need_sets.specs.Words.{class_at, base_at, sources_at, written_at, successors_at}

abbrev pub accesses : Class → Bool
accesses Plain = false
accesses Load = true
accesses Store = true
accesses Branch = false
accesses Jump = false
accesses Indirect = false
accesses Call = false
accesses Stop = false

-- a load or store stands at this address
abbrev pub is_access : List Range → ℕ → Bool
is_access code address = option_map_or accesses (class_at code address) false

-- one word reaches another: a walk of one or more direct successors leads from it there, with no word strictly between that writes the register
pub data ReachesUse (code : List Range) (register : ℕ) : (from to : ℕ) → Type 0 where
  at_once : (from to : ℕ) → Contains (successors_at code from) to → ReachesUse code register from to
  further :
      (from next to : ℕ) → Contains (successors_at code from) next → written_at code next ≢ Some register → ReachesUse code register next to
      → ReachesUse code register from to

-- The slice of an access: the least set of words that holds each word which writes its base and reaches it, and, for each Plain word in the set,
-- each word which writes a register that this word reads and reaches it.
pub data IsInSlice (code : List Range) (access : ℕ) : (word : ℕ) → Type 0 where
  gives_base :
      (word register : ℕ) → base_at code access ≡ Some register → written_at code word ≡ Some register → ReachesUse code register word access
      → IsInSlice code access word
  gives_source :
      (word register user : ℕ) → IsInSlice code access user → class_at code user ≡ Some Plain → Contains (sources_at code user) register
      → written_at code word ≡ Some register → ReachesUse code register word user → IsInSlice code access word
