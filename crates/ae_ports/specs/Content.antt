-- What a call does to the bytes that a source has left, or that a sink has taken, where they are told.
-- `None` stands for an object that doesn't tell. An object that tells goes on telling, and one that doesn't never begins.
use Rattle.std.specs.Prelude.{◌≡◌, ◌⊎◌, ℕ, ◌≤◌, List, [], length, take, Option, Result, MatchResult}
use Rattle.std.specs.Io.KnownBytes.{prepend_known, append_known}
use Rattle.ae_ports.specs.declared.failed.Failed.{Failed}

-- the bytes left begin with these bytes, and lose them
abbrev pub Consumes : Option (List ℕ) → Option (List ℕ) → List ℕ → Type 0
Consumes before now bytes = before ≡ prepend_known bytes now

-- the bytes taken grow by these bytes
abbrev pub Appends : Option (List ℕ) → Option (List ℕ) → List ℕ → Type 0
Appends before now bytes = now ≡ append_known before bytes

-- the bytes taken grow by a front of these bytes, which may be all of them or none
abbrev pub AppendsFront : Option (List ℕ) → Option (List ℕ) → List ℕ → Type 0
AppendsFront before now bytes = (count : ℕ) × (count ≤ length bytes) × Appends before now (take count bytes)

-- no byte is left, where they are told
abbrev pub IsAtEnd : Option (List ℕ) → Type 0
IsAtEnd left = (left ≡ Option.None) ⊎ (left ≡ Option.Some [])

-- A read moved the first bytes left into the front of the piece, none of them only where there was no room or nothing
-- was left. After Failed the bytes left are as before.
abbrev pub Reads : Option (List ℕ) → Option (List ℕ) → List ℕ → Result ℕ Failed → Type 0
Reads before now piece result =
    MatchResult result (λ count. Consumes before now (take count piece) × (count ≡ 0 → (piece ≡ []) ⊎ IsAtEnd before)) (λ _. now ≡ before)

-- A write appended the first bytes of the piece, as many as it answered. After Failed it appended a front of the piece.
abbrev pub Writes : Option (List ℕ) → Option (List ℕ) → List ℕ → Result ℕ Failed → Type 0
Writes before now piece result = MatchResult result (λ count. Appends before now (take count piece)) (λ _. AppendsFront before now piece)
