use Rattle.std.proofs.Common.{ℕ, List, subst, rules}
use Rattle.std.specs.Prelude.{OnOk, OnErr}
use Rattle.ae_ports.specs.Content.{Appends, AppendsFront}
use Rattle.ae_nums.proofs.Written.{hands_on}
use Rattle.ae_nums.proofs.writer.LineWriter.hand_on.Goals as goal

pub returns-clause-written : goal.returns-clause-written
returns-clause-written g c =
    let sent = c.write_all-sent.result in
    let sink = g.K.Sink.told c.args.self.now.sink.now in
    let sink_now = g.K.Sink.told c.write_all-sent.new.sink in
    hands_on g.K.Sink.told g.K.Sink.faults _ _ sent c.requires c.clear.ensures (search rules) (search rules)
    (subst (λ (bytes : List ℕ). OnOk sent (Appends sink sink_now bytes)) c.bytes.ensures.same c.write_all-sent.ensures.all)
    (subst (λ (bytes : List ℕ). OnErr sent (AppendsFront sink sink_now bytes)) c.bytes.ensures.same c.write_all-sent.ensures.front)
    c.write_all-sent.ensures.cause
