use Rattle.std.proofs.Common.{arith}
use Rattle.elf_raw.proofs.NextZero.{next_le}
use Rattle.elf_raw.proofs.names.next_zero_known.Goals as goal

pub returns-then-from-zero-clause-within : goal.returns-then-from-zero-clause-within
returns-then-from-zero-clause-within c =
    let is = c.requires.known c.if-from-zero.true in
    omega (arith, next_le c.args.bytes.now c.args.from c.requires.within)
