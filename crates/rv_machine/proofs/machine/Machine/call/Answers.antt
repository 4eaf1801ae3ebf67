use Rattle.std.proofs.Common.{◌≢◌, arith}
use Rattle.rv_machine.proofs.Called.{answered, ended, is_read, is_write, is_exit, is_none_such, acts_as}
use Rattle.rv_machine.proofs.machine.Machine.call.Goals as goal

pub returns-in-63-clause-acts : goal.returns-in-63-clause-acts
returns-in-63-clause-acts g c =
    acts_as c.args.self.now c.call_read.new.self _ _ _ _ c.call_read.result (is_read c.args.self.now c.register.result c.register.ensures c.in-63.is)
    (c.call_read.ensures.acts (g.O.Sink.told c.args.out.now) (g.P.Sink.told c.args.err.now) (g.Q.Sink.told c.args.events.now))

pub returns-in-64-clause-acts : goal.returns-in-64-clause-acts
returns-in-64-clause-acts g c =
    acts_as c.args.self.now c.call_write.new.self _ _ _ _ c.call_write.result (is_write c.args.self.now c.register.result c.register.ensures c.in-64.is)
    (c.call_write.ensures.acts (g.I.Source.told c.args.input.now))

pub returns-in-93-clause-acts : goal.returns-in-93-clause-acts
returns-in-93-clause-acts g c =
    ended c.args.self.now _ _ _ (is_exit c.args.self.now c.register.result c.register.ensures c.register-in-93.result c.in-93.is c.register-in-93.ensures)

pub returns-in_default-clause-acts : goal.returns-in_default-clause-acts
returns-in_default-clause-acts g c =
    let no_read : c.register.result ≢ 63 = omega arith in
    let no_write : c.register.result ≢ 64 = omega arith in
    let no_exit : c.register.result ≢ 93 = omega arith in
    answered c.args.self.now c.set_and_go_on.new.self _ _ _ (is_none_such c.args.self.now c.register.result c.register.ensures no_read no_write no_exit) c.set_and_go_on.ensures
