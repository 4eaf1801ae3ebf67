use Rattle.std.proofs.Common.{◌≡◌, take}
use Rattle.elf_raw.specs.Written.{half_bytes, laid}
use Rattle.elf_raw.proofs.laying.put_halves.Given as goal

abbrev pub invariant-loop-place : goal.invariant-loop-place
invariant-loop-place l = l.file ≡ laid l.initial.file l.at (half_bytes (take l.place l.halves))
