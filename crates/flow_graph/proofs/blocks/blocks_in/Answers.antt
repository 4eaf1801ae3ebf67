use Rattle.std.proofs.Common.{arith, rules, sym, ◌∙◌}
use Rattle.flow_graph.specs.Leaders.{starts_in}
use Rattle.flow_graph.proofs.Turns.{none_met, last_met, other_met, whole}
use Rattle.flow_graph.proofs.blocks.blocks_in.Goals as goal
use Rattle.flow_graph.proofs.blocks.blocks_in.Goals.{then-is_last+in_ok-push, else-is_last}

pub loop-place-init : goal.loop-place-init
loop-place-init c = λ entry named functions marked.
    none_met c.args.ranges.now entry named functions c.new-blocks.result.items c.requires.order c.requires.ends c.new-blocks.ensures.items

pub loop-place-preserved : goal.loop-place-preserved
loop-place-preserved c = λ entry named functions marked.
    elim c.if-is_last.branch [
      | then-is_last+in_ok-push w ↦
          last_met c.args.ranges.now entry named functions c.loop-place.place c.address_at-address.result c.unwrap_or-first.result c.loop-place.blocks.items c.if-is_last.blocks.items c.loop-place.leader c.if-is_last.leader
          c.requires.order c.requires.ends (sym c.address_at-address.ensures)
          (sym (c.is_last.ensures (starts_in c.args.ranges.now entry named functions) marked) ∙ w.if-is_last.true) c.unwrap_or-first.ensures (search rules) w.leader-is (c.loop-place.invariant entry named functions marked)
      | else-is_last w ↦
          other_met c.args.ranges.now entry named functions c.loop-place.place c.address_at-address.result c.unwrap_or-first.result c.loop-place.blocks.items c.if-is_last.blocks.items c.loop-place.leader c.if-is_last.leader
          c.requires.order c.requires.ends (sym c.address_at-address.ensures)
          (sym (c.is_last.ensures (starts_in c.args.ranges.now entry named functions) marked) ∙ w.if-is_last.false) c.unwrap_or-first.ensures (search rules) w.leader-is (c.loop-place.invariant entry named functions marked)
    ]

pub returns : goal.returns
returns c = λ entry named functions marked. whole c.args.ranges.now entry named functions c.loop-place.place c.loop-place.blocks.items c.loop-place.leader (omega (arith, c.count_in-place-end.ensures)) (c.loop-place.invariant entry named functions marked)
