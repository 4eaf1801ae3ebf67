use Rattle.std.proofs.Common.{◌≡◌, ℕ, ◌<◌, List, false, get_or}
use Rattle.elf_raw.specs.declared.relocation.RawRelocation.{RawRelocation}
use Rattle.elf_raw.specs.Sections.{sections_of}
use Rattle.elf_image.specs.Named.{names_nothing}
use Rattle.elf_image.proofs.relocations.first_bad.Given as goal

abbrev pub invariant-loop-number : goal.invariant-loop-number
invariant-loop-number l =
    (bytes : List ℕ) → l.sections ≡ sections_of bytes → (k : ℕ) (d : RawRelocation) → k < l.number → names_nothing bytes (get_or l.relocations k d) ≡ false
