use Rattle.std.proofs.Common.{◌≡◌, ◌+◌, ◌*◌, length, arith, refl}
use Rattle.std.proofs.lemmas.List.Elements.{All-more}
use Rattle.elf_raw.specs.Segments.{segment_at}
use Rattle.elf_raw.specs.Written.{segment_bytes}
use Rattle.elf_raw.proofs.Ends.{end_within}
use Rattle.elf_raw.proofs.Laid.{row_laid}
use Rattle.elf_raw.proofs.RowBytes.{segment_bytes_length}
use Rattle.elf_raw.proofs.writing.put_segments.Goals as goal

pub loop-place-preserved : goal.loop-place-preserved
loop-place-preserved c =
    let segments = c.args.segments.now in
    let place = c.loop-place.place in
    let within = end_within c.args.offset (32 * length segments) (length c.args.file.now) (omega arith) c.requires.within in
    record {
      written =
          row_laid segment_bytes 32 segment_bytes_length c.args.file.now c.loop-place.file c.put_segment.new.file c.args.offset (c.args.offset + 32 * place) place
          segments _ c.loop-place-test.true (omega arith) refl c.loop-place.invariant.written c.put_segment.ensures.written;
      back =
          All-more (λ segment. segment_at (segment_bytes segment) 0 ≡ segment) segments place _ c.loop-place-test.true c.loop-place.invariant.back c.put_segment.ensures.back;
    }
