use Rattle.std.proofs.Common.{◌≡◌, ◌+◌, ◌*◌, map}
use Rattle.std.specs.List.{range_with_len}
use Rattle.elf_image.specs.CodeWords.{value_at}
use Rattle.elf_image.proofs.words.range_of.Given as goal

abbrev pub invariant-loop-number : goal.invariant-loop-number
invariant-loop-number l = l.words.items ≡ map (λ number. value_at l.bytes (l.extent.start + 4 * number)) (range_with_len 0 l.number)
