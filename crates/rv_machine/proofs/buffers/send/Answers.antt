use Rattle.std.proofs.Common.{rules, refl, ◌∙◌, arith}
use Rattle.rv_memory.specs.Stretches.{memory_of}
use Rattle.rv_machine.proofs.Sent.{none_sent, more_sent, more_front, last_sent, last_front, all_sent, some_piece}
use Rattle.rv_machine.proofs.buffers.send.Goals as goal

pub loop-left-init : goal.loop-left-init
loop-left-init g c = record {
  sent = none_sent (memory_of c.args.memory.now) c.args.address c.args.count (g.K.Sink.told c.args.sink.now) (omega arith);
  same = refl;
  rest = g.met.K.Sink.rest_stays _;
}

pub returns-then-bytes-left-clause-all : goal.returns-then-bytes-left-clause-all
returns-then-bytes-left-clause-all g c =
    last_sent _ _ _ _ _ _ _ _ _ (omega arith) c.loop-left.invariant.sent c.bytes_from-bytes.ensures.bytes _ c.if-bytes-left.true c.write_all.ensures.all

pub returns-then-bytes-left-clause-front : goal.returns-then-bytes-left-clause-front
returns-then-bytes-left-clause-front g c =
    last_front _ _ _ _ _ _ _ _ _ (omega arith) c.loop-left.invariant.sent c.bytes_from-bytes.ensures.bytes _ c.if-bytes-left.true c.write_all.ensures.front

pub returns-in_err-write_all-clause-front : goal.returns-in_err-write_all-clause-front
returns-in_err-write_all-clause-front g c =
    let front = more_front _ _ _ _ _ _ _ _ _ (omega arith) c.loop-left.invariant.sent c.bytes_from-bytes.ensures.bytes _ (omega arith) c.write_all-in-loop-left.ensures.front in search rules

pub overflow_cast-here : goal.overflow_cast-here
overflow_cast-here g c = omega (arith, c.loop-left.invariant.sent.within)

pub loop-left-smaller : goal.loop-left-smaller
loop-left-smaller g c =
    let some = some_piece _ _ _ _ _ _ _ _ (omega arith) c.loop-left.invariant.sent c.requires c.loop-left-test.true c.bytes_from-bytes.ensures.empty in omega arith

pub loop-left-preserved : goal.loop-left-preserved
loop-left-preserved g c = record {
  sent = more_sent _ _ _ _ _ _ _ _ _ (omega arith) c.loop-left.invariant.sent c.bytes_from-bytes.ensures.bytes (omega arith) c.in_ok-write_all.ensures.all;
  same = c.in_ok-write_all.ensures.cause.same ∙ c.loop-left.invariant.same;
  rest = g.met.K.Sink.rest_joins _ _ _ c.loop-left.invariant.rest c.write_all-in-loop-left.ensures.rest;
}

pub returns-clause-all : goal.returns-clause-all
returns-clause-all g c = all_sent _ _ _ _ _ _ _ c.loop-left.invariant.sent (omega arith)
