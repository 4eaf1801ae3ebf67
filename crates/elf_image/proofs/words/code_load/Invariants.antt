use Rattle.std.proofs.Common.{◌≡◌, ◌-◌, length, drop, true}
use Rattle.std.specs.List.{find, list_any}
use Rattle.elf_image.specs.Loads.{is_code_load}
use Rattle.elf_image.proofs.words.code_load.Given as goal

abbrev pub invariant-loop-number : goal.invariant-loop-number
invariant-loop-number l =
    (list_any is_code_load (drop l.number l.segments) ≡ true) × (find is_code_load (drop l.number l.segments) ≡ find is_code_load l.segments)

abbrev pub decreases-loop-number : goal.decreases-loop-number
decreases-loop-number l = length l.segments - l.number
