use Rattle.std.proofs.Common.{◌≡◌, take}
use Rattle.std.specs.List.{All, flat_map}
use Rattle.elf_raw.specs.Segments.{segment_at}
use Rattle.elf_raw.specs.Written.{segment_bytes, laid}
use Rattle.elf_raw.proofs.writing.put_segments.Given as goal

abbrev pub invariant-loop-place : goal.invariant-loop-place
invariant-loop-place l =
    record {
      written : l.file ≡ laid l.initial.file l.offset (flat_map segment_bytes (take l.place l.segments));
      back : All (λ segment. segment_at (segment_bytes segment) 0 ≡ segment) (take l.place l.segments);
    }
