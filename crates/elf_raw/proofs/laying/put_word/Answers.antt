use Rattle.std.proofs.Common.{length, ◌-◌, refl}
use Rattle.byteorder.specs.Endian.{little_bytes}
use Rattle.elf_raw.proofs.Laid.{put_at}
use Rattle.elf_raw.proofs.laying.put_word.Goals as goal

pub returns : goal.returns
returns c =
    put_at c.args.at (length c.args.file.now - c.args.at) c.args.file.now (little_bytes 4 c.args.word) c.write_u32.new.buf c.requires refl c.write_u32.ensures
