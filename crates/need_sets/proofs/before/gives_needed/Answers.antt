use Rattle.std.proofs.Common.{sym}
use Rattle.need_sets.proofs.Bits.{written_real}
use Rattle.need_sets.proofs.Backwards.{gives_written}
use Rattle.need_sets.proofs.before.gives_needed.Goals as goal

pub returns-in-Some : goal.returns-in-Some
returns-in-Some c =
    gives_written c.args.instr.now c.args.behind c.in-Some.register (sym c.in-Some.ensures) (written_real c.args.instr.now c.in-Some.register c.requires (sym c.in-Some.ensures)).1
