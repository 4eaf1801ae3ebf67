use Rattle.std.proofs.Common.{◌≡◌, map}
use Rattle.std.specs.List.{range_with_len}
use Rattle.elf_raw.specs.Segments.{segment_of}
use Rattle.elf_raw.proofs.tables.read_segments.Given as goal

abbrev pub invariant-loop-number : goal.invariant-loop-number
invariant-loop-number l = l.segments.items ≡ map (segment_of l.bytes) (range_with_len 0 l.number)
