use Rattle.std.proofs.Common.{◌∙◌, ◌+◌}
use Rattle.regen_walk.proofs.Linked.{written_wrapped}
use Rattle.regen_walk.proofs.accesses.put_link.Goals as goal

pub returns : goal.returns
returns c = c.put_written.ensures ∙ written_wrapped c.args.registers.now (c.args.address + 4) c.args.instr.now
