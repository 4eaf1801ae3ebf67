use Rattle.std.proofs.Common.{◌+◌, ◌*◌, arith, refl}
use Rattle.byteorder.specs.Endian.{little_bytes}
use Rattle.byteorder.specs.Numbers.{length-bytes_low_first}
use Rattle.elf_raw.proofs.Laid.{row_laid}
use Rattle.elf_raw.proofs.laying.put_halves.Goals as goal

pub loop-place-preserved : goal.loop-place-preserved
loop-place-preserved c =
    row_laid (little_bytes 2) 2 (length-bytes_low_first 0 2) c.args.file.now c.loop-place.file c.put_half.new.file c.args.at (c.args.at + 2 * c.loop-place.place) c.loop-place.place
    c.args.halves.now 0 c.loop-place-test.true (omega arith) refl c.loop-place.invariant c.put_half.ensures
