use Rattle.std.proofs.Common.{[], ◌++◌, ap, ◌∙◌}
use Rattle.ae_nums.specs.declared.writer.LineWriter.{LineWriter}
use Rattle.ae_nums.specs.scaffolding.Joining.{wrote_both}
use Rattle.ae_nums.proofs.Written.{gathers}
use Rattle.ae_nums.proofs.writer.LineWriter.gather.Goals as goal
use Rattle.ae_nums.proofs.writer.LineWriter.gather.Goals.{then-text-free+in_ok-hand_on, else-text-free}

pub returns-clause-ok : goal.returns-clause-ok
returns-clause-ok g c = elim c.if-text-free.branch [
  | then-text-free+in_ok-hand_on w ↦
      let emptied = w.in_ok-hand_on.ensures in
      let whole = ap (λ (s : LineWriter g.row.K.Denot). s.broken) w.self-is ∙ emptied.whole in
      wrote_both g.K.Sink.told g.K.Sink.faults _ _ _ [] _ emptied.written
      (gathers g.K.Sink.told g.K.Sink.faults _ _ _ emptied.whole whole (ap (λ (s : LineWriter g.row.K.Denot). s.sink.now) w.self-is)
      (c.push.ensures ∙ ap (λ (s : LineWriter g.row.K.Denot). s.waiting ++ c.args.text.now) w.self-is))
  | else-text-free w ↦
      gathers g.K.Sink.told g.K.Sink.faults _ _ _ c.requires.whole (ap (λ (s : LineWriter g.row.K.Denot). s.broken) w.self-is ∙ c.requires.whole)
      (ap (λ (s : LineWriter g.row.K.Denot). s.sink.now) w.self-is)
      (c.push.ensures ∙ ap (λ (s : LineWriter g.row.K.Denot). s.waiting ++ c.args.text.now) w.self-is)
]
