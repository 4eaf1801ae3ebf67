-- Why a command has no file to work on, and the status that says so. What refuses a file is what the command asks of it:
-- so over a store that tells nothing a refusal is still one that the command asks.
use Rattle.std.specs.Prelude.{◌≡◌, ℕ, ◌≤◌, List, length, ⊤, Option, Some, None, MatchOption}
use Rattle.ae_ports.specs.Files.{Files, SameFiles, HasBytes}
use Rattle.elf_raw.specs.declared.limits.TheConstants.{FILE_LIMIT}
use Rattle.ae_top.specs.declared.no_file.NoFile.{NoFile}
use Rattle.ae_top.specs.declared.no_file.NotTaken.{NotTaken}
use Rattle.ae_top.specs.declared.refusal.Refusal.{Refusal}
use Rattle.ae_top.specs.declared.status.Status.{Status}
use Rattle.ae_top.specs.World.{World}

-- why a file with these bytes isn't taken; memory is never wanting for one that is too long
abbrev pub IsNotTaken : (asks : List ℕ → Option Refusal) → NotTaken → (bytes : List ℕ) → Type 0
IsNotTaken asks (NotTaken.Refused refusal) bytes = asks bytes ≡ Some refusal
IsNotTaken asks NotTaken.NoMemory bytes = length bytes ≤ FILE_LIMIT

-- why there is no file of this name to work on
abbrev pub Lacks : (asks : List ℕ → Option Refusal) → (told : Option Files) → (name : List ℕ) → NoFile → Type 0
Lacks asks told name NoFile.Missing = MatchOption told ⊤ (λ files. files name ≡ None)
Lacks asks told name NoFile.StoreFault = ⊤
Lacks asks told name (NoFile.NotTaken why) = (bytes : List ℕ) × HasBytes told name bytes × IsNotTaken asks why bytes

-- the status that says why, where the file is the word at this place
abbrev pub status_without : NoFile → (word : ℕ) → Status
status_without NoFile.Missing word = Status.Missing word
status_without NoFile.StoreFault word = Status.StoreFault
status_without (NoFile.NotTaken (NotTaken.Refused refusal)) word = Status.Refused refusal
status_without (NoFile.NotTaken NotTaken.NoMemory) word = Status.Memory

-- The command has no file to work on, and all is as before. The file is the word at this place and has this name.
pub record HasNoFile (asks : List ℕ → Option Refusal) (word : ℕ) (name : List ℕ) (status : Status) (before now : World)
    : Type 0 where
  pub why : NoFile
  pub lacks : Lacks asks before.store.told name why
  pub says : status ≡ status_without why word
  pub streams : now.streams ≡ before.streams
  pub files : SameFiles before.store.told now.store.told
