-- One word more is gathered.
use Rattle.std.proofs.Common.{sym, ◌∙◌, rules}
use Rattle.need_sets.proofs.Chained.{taken_more, none_more}
use Rattle.need_sets.proofs.sources.sources_in.Goals as goal
use Rattle.need_sets.proofs.sources.sources_in.Goals.{in-Some+in_ok-push-in-Some, in-None+in_ok-push-in-None}

pub loop-place-preserved : goal.loop-place-preserved
loop-place-preserved c = elim c.match-led_from.branch [
  | in-Some+in_ok-push-in-Some w ↦
      taken_more c.args.ranges.now c.args.taken c.loop-place.place w.in-Some.goal c.loop-place.last.items c.loop-place.before.items c.match-led_from.last.items c.match-led_from.before.items w.index.result.now
      (sym c.led_from.ensures.goal ∙ w.in-Some.is) (search rules) w.index.ensures (λ i. (w.last-is i).items) ((λ i. (w.before-is i).items) ∙ w.in_ok-push-in-Some.ensures.items) c.loop-place.invariant
  | in-None+in_ok-push-in-None w ↦
      none_more c.args.ranges.now c.args.taken c.loop-place.place c.loop-place.last.items c.loop-place.before.items c.match-led_from.last.items c.match-led_from.before.items
      (sym c.led_from.ensures.goal ∙ w.in-None.is) (λ i. (w.last-is i).items) ((λ i. (w.before-is i).items) ∙ w.in_ok-push-in-None.ensures.items) c.loop-place.invariant
]
