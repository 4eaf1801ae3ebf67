use Rattle.std.proofs.Common.{arith}
use Rattle.rv_machine.proofs.TracerBytes.{tracers_above}
use Rattle.rv_machine.proofs.buffers.is_tracers.Goals as goal

pub returns-then-address-ge-TRACER_START : goal.returns-then-address-ge-TRACER_START
returns-then-address-ge-TRACER_START c = tracers_above c.args.address c.args.count (omega arith) (omega arith) (omega arith)
