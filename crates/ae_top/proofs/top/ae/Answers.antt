use Rattle.std.proofs.Common.{arith}
use Rattle.ae_top.specs.World.{port}
use Rattle.ae_top.proofs.Behind.{line_behind, risen_behind}
use Rattle.ae_top.proofs.top.ae.Goals as goal

pub returns-in_default-clause-answers : goal.returns-in_default-clause-answers
returns-in_default-clause-answers g c =
    let told = g.P.Sink.told in
    let faults = g.P.Sink.faults in
    let carried = c.carry_out-status in
    let carries = carried.ensures.carries in
    let mid = port (told carried.new.err) (faults carried.new.err) in
    let now = port (told c.tell.new.sink) (faults c.tell.new.sink) in
    let later = c.tell.ensures.later in
    record {
      err = mid;
      carries = carries;
      line = line_behind c.args.words.now carried.result mid now c.in_default.not-Done c.in_default.not-Faulted c.tell.ensures.line;
      store = carries.blames.store;
      input = carries.blames.input;
      out = carries.blames.out;
      err_fault = λ is. risen_behind (faults c.args.err.now) mid.faults now.faults (carries.blames.err.risen is) later;
      err_later = omega (arith, carries.blames.err.later, later);
      done = λ is. absurd (c.in_default.not-Done is);
      faulted = λ ending is. absurd (c.in_default.not-Faulted ending is);
    }
