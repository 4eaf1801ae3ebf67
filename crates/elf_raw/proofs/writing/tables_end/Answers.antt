use Rattle.std.proofs.Common.{rules}
use Rattle.elf_raw.proofs.HeaderBytes.{header_bytes_length}
use Rattle.elf_raw.proofs.writing.tables_end.Goals as goal

pub returns-clause-size : goal.returns-clause-size
returns-clause-size c = header_bytes_length c.args.header (search rules)
