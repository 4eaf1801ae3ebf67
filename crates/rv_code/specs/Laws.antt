-- What the instruction table gives its reader: the meaning of a word is that of the one entry that it agrees with. How
-- words and instructions go together. And how the places and the addresses of code words do.
use Rattle.std.specs.Prelude.{◌≡◌, ◌↔◌, ℕ, ◌%◌, ◌<◌, true, false, List, Some, is_some, slice_get}
use Rattle.std.specs.List.{AllByRecursion}
use Rattle.std.specs.List.Sorted.{IsStrictlyIncreasing}
use Rattle.rv_code.specs.declared.extent.Extent.{Extent}
use Rattle.rv_code.specs.declared.instr.Instr.{Instr}
use Rattle.rv_code.specs.Code.{is_code}
use Rattle.rv_code.specs.Encoding.{Fits, word_of}
use Rattle.rv_code.specs.Numbers.{IsWord}
use Rattle.rv_code.specs.Places.{code_addresses, place_of, address_of, AreCodeExtents, extents_at}
use Rattle.rv_code.specs.Table.{Entry, instruction_table, agrees, read_as, meaning_of}

-- the word means the form of each entry that it agrees with
abbrev pub MeansItsEntry : ℕ → Type 0
MeansItsEntry word =
    (place : ℕ) (entry : Entry) → slice_get instruction_table place ≡ Some entry
    → agrees word entry ≡ true → meaning_of word ≡ read_as entry.form word

abbrev pub AgreesWithNone : ℕ → Type 0
AgreesWithNone word =
    (place : ℕ) (entry : Entry) → slice_get instruction_table place ≡ Some entry → agrees word entry ≡ false

-- an instruction that fits has a word that means it
abbrev pub HasItsWord : Instr → Type 0
HasItsWord instr = Fits instr → IsWord (word_of instr) × (meaning_of (word_of instr) ≡ instr)

-- what a word means fits, and has this word and no other
abbrev pub IsItsWord : ℕ → Type 0
IsItsWord word = IsWord word → Fits (meaning_of word) × (word_of (meaning_of word) ≡ word)

-- an address has a place exactly where it is that of the place
abbrev pub PlacesHaveAddresses : List Extent → Type 0
PlacesHaveAddresses extents = (place address : ℕ) → (address_of extents place ≡ Some address) ↔ (place_of extents address ≡ Some place)

-- an address has a place exactly where a code word stands at it
abbrev pub CodeHasPlaces : List Extent → Type 0
CodeHasPlaces extents = (address : ℕ) → is_some (place_of extents address) ≡ is_code extents address

-- the address of a later place is higher
abbrev pub AddressesRise : List Extent → Type 0
AddressesRise extents =
    (place later address higher : ℕ) → place < later → address_of extents place ≡ Some address → address_of extents later ≡ Some higher → address < higher

-- addresses that rise, each a multiple of 4, are those of the code words of some extents
abbrev pub HaveExtents : List ℕ → Type 0
HaveExtents addresses =
    IsStrictlyIncreasing addresses → AllByRecursion (λ address. address % 4 ≡ 0) addresses
    → AreCodeExtents (extents_at addresses) × (code_addresses (extents_at addresses) ≡ addresses)
