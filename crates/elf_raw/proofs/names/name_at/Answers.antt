use Rattle.std.proofs.Common.{arith}
use Rattle.elf_raw.proofs.NamePlace.{name_found, name_missing}
use Rattle.elf_raw.proofs.names.name_at.Goals as goal

pub returns-then-zero-end : goal.returns-then-zero-end
returns-then-zero-end c =
    name_found c.args.bytes.now c.args.table.now c.args.place c.next-zero.result c.next-zero.ensures.place (omega arith) (omega arith)

pub returns-else-zero-end : goal.returns-else-zero-end
returns-else-zero-end c =
    name_missing c.args.bytes.now c.args.table.now c.args.place c.next-zero.result c.next-zero.ensures.place (omega arith) (omega arith)
