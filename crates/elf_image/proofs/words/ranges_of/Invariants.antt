use Rattle.std.proofs.Common.{◌≡◌, map, take}
use Rattle.elf_image.specs.CodeWords.{range_of}
use Rattle.elf_image.proofs.words.ranges_of.Given as goal

abbrev pub invariant-loop-extent : goal.invariant-loop-extent
invariant-loop-extent l = l.ranges.items ≡ map (range_of l.bytes) (take l.extent-index l.extents)
