-- A search backwards for what is needed: what is known at two moments, and what is passed from a word to those that lead to it. Only the
-- clauses of private functions cite this.
use Rattle.std.specs.Prelude.{◌≡◌, ◌⊎◌, ℕ, ◌+◌, ◌-◌, ◌^◌, ◌<◌, ◌≤◌, Bool, true, false, List, [], ◌∷◌, Option, Some, length}
use Rattle.std.specs.Int.{bit_at}
use Rattle.std.specs.List.{Contains, slice_index_or}
use Rattle.rv_code.specs.declared.image.Range.{Range}
use Rattle.rv_code.specs.declared.instr.Instr.{Instr}
use Rattle.rv_code.specs.Code.{extents_of}
use Rattle.rv_code.specs.Image.{word_count}
use Rattle.rv_code.specs.Parts.{written_by}
use Rattle.rv_code.specs.Places.{address_of}
use Rattle.flow_graph.specs.CodeParts.{instr_in}
use Rattle.need_sets.specs.declared.search.Search.{Search}
use Rattle.need_sets.specs.Inner.Before.{NeedsBefore}
use Rattle.need_sets.specs.Inner.Sources.{led_to}
use Rattle.need_sets.specs.Needed.{NeededFor, IsUsedFor}
use Rattle.need_sets.specs.Words.{base_at}

abbrev pub mask_in : Search → ℕ → ℕ
mask_in search place = slice_index_or search.masks.items place 0

abbrev pub used_in : Search → ℕ → Bool
used_in search place = slice_index_or search.used.items place false

-- one cell a place
pub record IsSized (count : ℕ) (search : Search) : Type 0 where
  pub masks : length search.masks.items ≡ count
  pub used : length search.used.items ≡ count
  pub waiting : search.waiting.size ≡ count

-- how much may still become needed
abbrev pub slack : List ℕ → ℕ
slack [] = 0
slack (mask ∷ masks) = 2 ^ 32 - mask + slack masks

-- more is known, and what has become needed somewhere waits
pub record Spreads (old new : Search) : Type 0 where
  pub masks : (place register : ℕ) → bit_at (mask_in old place) register ≡ 1 → bit_at (mask_in new place) register ≡ 1
  pub used : (place : ℕ) → used_in old place ≡ true → used_in new place ≡ true
  pub waiting : (place : ℕ) → Contains old.waiting.places place → Contains new.waiting.places place
  pub changed : (place : ℕ) → (mask_in new place ≡ mask_in old place) ⊎ Contains new.waiting.places place
  pub less : slack new.masks.items + length new.waiting.places ≤ slack old.masks.items + length old.waiting.places

-- the word at a place has what is needed before it, where the registers of a mask are needed behind it
pub record IsPassed (code : List Range) (search : Search) (source behind : ℕ) : Type 0 where
  pub masks :
      (address register : ℕ) (instr : Instr) → address_of (extents_of code) source ≡ Some address → instr_in code address ≡ Some instr
      → NeedsBefore instr behind register → bit_at (mask_in search source) register ≡ 1
  pub used :
      (address register : ℕ) (instr : Instr) → address_of (extents_of code) source ≡ Some address → instr_in code address ≡ Some instr
      → written_by instr ≡ Some register → bit_at behind register ≡ 1 → used_in search source ≡ true

-- what is known is so
pub record IsBacked (code : List Range) (bases : ℕ → Option ℕ) (search : Search) : Type 0 where
  pub masks :
      (place address register : ℕ) → address_of (extents_of code) place ≡ Some address → bit_at (mask_in search place) register ≡ 1
      → NeededFor code bases address register
  pub used : (place address : ℕ) → address_of (extents_of code) place ≡ Some address → used_in search place ≡ true → IsUsedFor code bases address

-- all registers of a mask are needed at the word at a place
abbrev pub AllNeeded : List Range → (bases : ℕ → Option ℕ) → (place mask : ℕ) → Type 0
AllNeeded code bases place mask =
    (address register : ℕ) → address_of (extents_of code) place ≡ Some address → bit_at mask register ≡ 1 → NeededFor code bases address register

-- what is needed at the word at a place is passed to all words that lead to it by one way
abbrev pub IsPassedBy : List Range → (taken : Bool) → Search → (goal behind : ℕ) → Type 0
IsPassedBy code taken search goal behind =
    (source : ℕ) → source < word_count code → led_to code taken source ≡ Some goal → IsPassed code search source behind

-- by both ways, all of it
abbrev pub IsSearched : List Range → Search → (goal : ℕ) → Type 0
IsSearched code search goal = (taken : Bool) → IsPassedBy code taken search goal (mask_in search goal)

-- each place is settled, or waits
abbrev pub AreSettled : List Range → Search → Type 0
AreSettled code search = (goal : ℕ) → goal < word_count code → IsSearched code search goal ⊎ Contains search.waiting.places goal

-- the word at a place has its base as needed
abbrev pub HasBase : List Range → Search → (place : ℕ) → Type 0
HasBase code search place =
    (address register : ℕ) → address_of (extents_of code) place ≡ Some address → base_at code address ≡ Some register → bit_at (mask_in search place) register ≡ 1

-- the base of the word at a place is asked for
abbrev pub AsksFor : List Range → (bases : ℕ → Option ℕ) → (place : ℕ) → Type 0
AsksFor code bases place =
    (address register : ℕ) → address_of (extents_of code) place ≡ Some address → base_at code address ≡ Some register → bases address ≡ Some register

-- no register is forgotten that was known to be needed
abbrev pub Grows : (old new : Search) → Type 0
Grows old new = (place register : ℕ) → bit_at (mask_in old place) register ≡ 1 → bit_at (mask_in new place) register ≡ 1
