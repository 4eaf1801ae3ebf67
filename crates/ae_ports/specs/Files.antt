-- What a call does to the files of a store, where the store tells them: a look-up from names to bytes, compared name by name.
-- `None` stands for a store that doesn't tell. A store that tells goes on telling, and one that doesn't never begins.
use Rattle.std.specs.Prelude.{◌≡◌, ◌≢◌, ◌⊎◌, ℕ, ◌-◌, ◌^◌, ◌≤◌, nat_lt, if◌then◌else◌, List, [], ◌++◌, length, take, drop, ⊤, Option, None, Some, IsSome, MatchOption, Result, MatchResult, IfOk}
use Rattle.std.specs.Option.{option_map, option_and_then}
use Rattle.ae_ports.specs.declared.failed.Failed.{Failed}

-- the bytes of each file that is there, by name
abbrev pub Files : Type 0
Files = List ℕ → Option (List ℕ)

-- there is a file of this name, where the files are told
abbrev pub IsThere : Option Files → List ℕ → Type 0
IsThere told name = MatchOption told ⊤ (λ files. IsSome (files name))

-- each file is as before
abbrev pub SameFiles : Option Files → Option Files → Type 0
SameFiles None None = ⊤
SameFiles None (Some now) = ⊥
SameFiles (Some before) None = ⊥
SameFiles (Some before) (Some now) = (name : List ℕ) → now name ≡ before name

-- each file but the one of this name is as before
abbrev pub SameOthers : Option Files → Option Files → List ℕ → Type 0
SameOthers None None name = ⊤
SameOthers None (Some now) name = ⊥
SameOthers (Some before) None name = ⊥
SameOthers (Some before) (Some now) name = (other : List ℕ) → other ≢ name → now other ≡ before other

-- the length of the file of this name, none where it isn't there
abbrev pub TellsSize : Option Files → List ℕ → Result (Option ℕ) Failed → Type 0
TellsSize told name result = MatchOption told ⊤ (λ files. IfOk result (λ size. size ≡ option_map length (files name)))

-- so many bytes, from this place of a file on, stand at the front of the piece; none only at the file's end or without room
pub record Copies (bytes : List ℕ) (from : ℕ) (piece : List ℕ) (count : ℕ) : Type 0 where
  pub within : count ≤ length bytes - from
  pub front : take count piece ≡ take count (drop from bytes)
  pub none : count ≡ 0 → (piece ≡ []) ⊎ (length bytes ≤ from)

-- a get copied bytes of the file of this name
abbrev pub Gets : Option Files → List ℕ → ℕ → List ℕ → Result ℕ Failed → Type 0
Gets told name from piece result =
    MatchOption told ⊤ (λ files. IfOk result (λ count. MatchOption (files name) ⊥ (λ bytes. Copies bytes from piece count)))

-- the file of this name is there and empty
abbrev pub IsEmptyFile : Option Files → List ℕ → Type 0
IsEmptyFile told name = MatchOption told ⊤ (λ files. files name ≡ Some [])

-- the file of this name is as before
abbrev pub SameFile : Option Files → Option Files → List ℕ → Type 0
SameFile before now name = MatchOption before ⊤ (λ old. MatchOption now ⊥ (λ new. new name ≡ old name))

-- a make left an empty file; after Failed the file is as before or empty
abbrev pub Makes : Option Files → Option Files → List ℕ → Result Unit Failed → Type 0
Makes before now name result = MatchResult result (λ _. IsEmptyFile now name) (λ _. SameFile before now name ⊎ IsEmptyFile now name)

-- the file of this name grew by these bytes
abbrev pub FileGrows : Option Files → Option Files → List ℕ → List ℕ → Type 0
FileGrows before now name bytes = MatchOption before ⊤ (λ old. MatchOption now ⊥ (λ new. new name ≡ option_map (λ had. had ++ bytes) (old name)))

-- an add appended all bytes of the piece; after Failed it appended a front of them
abbrev pub Adds : Option Files → Option Files → List ℕ → List ℕ → Result Unit Failed → Type 0
Adds before now name piece result =
    MatchResult result (λ _. FileGrows before now name piece) (λ _. (count : ℕ) × (count ≤ length piece) × FileGrows before now name (take count piece))

-- the bytes of the file of this name, where the files are told
abbrev pub file_told : Option Files → List ℕ → Option (List ℕ)
file_told told name = option_and_then (λ files. files name) told

-- The bytes of the file of this name from this offset on, where the files are told. A file in which some offset is
-- no u64 isn't told.
abbrev pub left_told : Option Files → List ℕ → ℕ → Option (List ℕ)
left_told told name from = option_and_then (λ bytes. if nat_lt (length bytes) (2 ^ 64) then Some (drop from bytes) else None) (file_told told name)

-- the file of this name has exactly these bytes, where the files are told
abbrev pub HasBytes : Option Files → List ℕ → List ℕ → Type 0
HasBytes told name bytes = MatchOption told ⊤ (λ files. files name ≡ Some bytes)

-- A file was made and filled with these bytes. After Failed it is as before, or has a front of them.
abbrev pub Replaces : Option Files → Option Files → List ℕ → List ℕ → Result Unit Failed → Type 0
Replaces before now name bytes result =
    MatchResult result (λ _. HasBytes now name bytes) (λ _. SameFile before now name ⊎ ((count : ℕ) × (count ≤ length bytes) × HasBytes now name (take count bytes)))
