use Rattle.std.proofs.Common.{◌≡◌, ◌+◌, drop}
use Rattle.elf_raw.specs.Inner.Zeros.{zero_place}
use Rattle.elf_raw.proofs.names.zero_place.Given as goal

abbrev pub invariant-loop-place : goal.invariant-loop-place
invariant-loop-place l = zero_place l.bytes ≡ l.place + zero_place (drop l.place l.bytes)
