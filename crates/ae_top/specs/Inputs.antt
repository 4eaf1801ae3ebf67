-- Why a file that a command reads isn't read, which is there.
use Rattle.std.specs.Prelude.{◌≡◌, ℕ, ◌<◌, ◌≤◌, List, length, ⊤, Option, None, MatchOption}
use Rattle.ae_ports.specs.Files.{Files, HasBytes}
use Rattle.ae_top.specs.declared.inputs.NotRead.{NotRead}

-- there is no file of this name
abbrev pub IsAbsent : Option Files → (name : List ℕ) → Type 0
IsAbsent told name = MatchOption told ⊤ (λ files. files name ≡ None)

-- Memory is never wanting for a file that is too long.
abbrev pub IsNotRead : Option Files → (name : List ℕ) → (limit : ℕ) → NotRead → Type 0
IsNotRead told name limit NotRead.StoreFault = ⊤
IsNotRead told name limit NotRead.TooLong = (bytes : List ℕ) × HasBytes told name bytes × (limit < length bytes)
IsNotRead told name limit NotRead.NoMemory = (bytes : List ℕ) × HasBytes told name bytes × (length bytes ≤ limit)
