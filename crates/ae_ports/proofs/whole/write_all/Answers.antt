use Rattle.std.proofs.Common.{rules, ◌∙◌}
use Rattle.std.proofs.lemmas.List.{take_rest}
use Rattle.ae_ports.proofs.LawsOfContent.{Appends-rest, AppendsFront-rest}
use Rattle.ae_ports.proofs.whole.write_all.Goals as goal

pub returns-in_err-sent-clause-front : goal.returns-in_err-sent-clause-front
returns-in_err-sent-clause-front g c =
    let front = AppendsFront-rest _ _ _ _ _ c.loop-sent.invariant.within c.loop-sent.invariant.sent (rw take_rest at c.in_err-sent.ensures.content) in search rules

pub loop-sent-preserved : goal.loop-sent-preserved
loop-sent-preserved g c = record {
  within = search rules;
  sent = Appends-rest _ _ _ _ _ _ c.loop-sent.invariant.sent (rw take_rest at c.in_ok-sent.ensures.content);
  same = c.in_ok-sent.ensures.cause.same ∙ c.loop-sent.invariant.same;
  rest = g.met.K.Sink.rest_joins _ _ _ c.loop-sent.invariant.rest c.write.ensures.rest;
}
