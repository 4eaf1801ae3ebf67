use Rattle.std.proofs.Common.{arith, rules, sym, ◌∙◌}
use Rattle.flow_graph.specs.Leaders.{starts_in}
use Rattle.flow_graph.proofs.Counted.{last_counted, other_counted, all_counted}
use Rattle.flow_graph.proofs.numbers.numbers_in.Goals as goal
use Rattle.flow_graph.proofs.numbers.numbers_in.Goals.{then-is_last, else-is_last}

pub loop-place-preserved : goal.loop-place-preserved
loop-place-preserved c = record {
  cells = search rules;
  below = elim c.if-is_last.branch [ then-is_last w ↦ omega (arith, c.loop-place.invariant.below) | else-is_last w ↦ omega (arith, c.loop-place.invariant.below) ];
  counted = λ entry named functions marked.
      elim c.if-is_last.branch [
        | then-is_last w ↦
            last_counted c.args.ranges.now (starts_in c.args.ranges.now entry named functions) c.loop-place.place c.address_at.result c.loop-place.numbers.items c.push.new.self.items c.loop-place.number c.if-is_last.number
            (sym c.address_at.ensures) (search rules) (sym (c.is_last.ensures (starts_in c.args.ranges.now entry named functions) marked) ∙ w.if-is_last.true) w.number-is
            (c.loop-place.invariant.counted entry named functions marked)
        | else-is_last w ↦
            other_counted c.args.ranges.now (starts_in c.args.ranges.now entry named functions) c.loop-place.place c.address_at.result c.loop-place.numbers.items c.push.new.self.items c.loop-place.number c.if-is_last.number
            (sym c.address_at.ensures) (search rules) (sym (c.is_last.ensures (starts_in c.args.ranges.now entry named functions) marked) ∙ w.if-is_last.false) w.number-is
            (c.loop-place.invariant.counted entry named functions marked)
      ];
}

pub returns-clause-numbers : goal.returns-clause-numbers
returns-clause-numbers c = λ entry named functions marked.
    all_counted c.args.ranges.now entry named functions c.loop-place.place c.loop-place.numbers.items c.loop-place.number c.requires.order c.requires.ends
    (omega (arith, c.count_in-place-end.ensures)) (c.loop-place.invariant.counted entry named functions marked)
