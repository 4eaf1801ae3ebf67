-- Which registers later addresses depend on: this project's own. It is liveness (Aho, Lam, Sethi and Ullman, section 9.2.5) where the
-- bases of loads and stores are all that is used.
use Rattle.std.specs.Prelude.{◌≡◌, ◌≢◌, ◌⊎◌, ℕ, ◌<◌, List, Option, Some}
use Rattle.std.specs.List.{Contains}
use Rattle.rv_code.specs.declared.class.Class.TheVariants.{Plain, Load, Indirect, Call}
use Rattle.rv_code.specs.declared.image.Range.{Range}
use Rattle.need_sets.specs.Words.{class_at, base_at, sources_at, written_at, successors_at}

-- What is needed for given bases, that of a word being a register at most: the least relation between code words and registers with three
-- rules. A word needs its base. It needs a register that it reads, where it is Plain and some direct successor needs what it writes. And it
-- needs a register that some direct successor needs, where it doesn't write it.
module _ (code : List Range) (bases : ℕ → Option ℕ) where
  pub data NeededFor : (address register : ℕ) → Type 0 where
    base : (address register : ℕ) → bases address ≡ Some register → NeededFor address register
    feeds :
        (address register written next : ℕ) → class_at code address ≡ Some Plain → 0 < register → Contains (sources_at code address) register
        → written_at code address ≡ Some written → Contains (successors_at code address) next → NeededFor next written
        → NeededFor address register
    through :
        (address register next : ℕ) → written_at code address ≢ Some register → Contains (successors_at code address) next
        → NeededFor next register → NeededFor address register

  -- some direct successor needs what the word writes
  pub record IsUsedFor (address : ℕ) : Type 0 where
    pub register : ℕ
    pub next : ℕ
    pub writes : written_at code address ≡ Some register
    pub follows : Contains (successors_at code address) next
    pub needs : NeededFor next register

-- a code word needs a register: for the bases of all loads and stores
abbrev pub IsNeeded : (code : List Range) → (address register : ℕ) → Type 0
IsNeeded code = NeededFor code (base_at code)

abbrev pub IsUsed : (code : List Range) → ℕ → Type 0
IsUsed code = IsUsedFor code (base_at code)

-- the value that a Plain word gives has to be worked out again
abbrev pub IsKept : (code : List Range) → ℕ → Type 0
IsKept code address = (class_at code address ≡ Some Plain) × IsUsed code address

-- the value that a word gives has to be recorded
abbrev pub IsHard : (code : List Range) → ℕ → Type 0
IsHard code address =
    ((class_at code address ≡ Some Load) × IsUsed code address) ⊎ (class_at code address ≡ Some Call) ⊎ (class_at code address ≡ Some Indirect)
