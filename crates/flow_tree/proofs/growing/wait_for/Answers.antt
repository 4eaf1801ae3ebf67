use Rattle.std.proofs.Common.{get_or}
use Rattle.flow_tree.proofs.AmongLists.{at_place}
use Rattle.flow_tree.proofs.RowsWait.{first_waits, more_waits, all_wait}
use Rattle.flow_tree.proofs.growing.wait_for.Goals as goal

pub ranked-requires : goal.ranked-requires
ranked-requires c = c.requires (get_or c.args.row.now c.loop-number.number-index 0) (at_place c.args.row.now c.loop-number.number-index 0 c.loop-number-test.true)

pub loop-number-init : goal.loop-number-init
loop-number-init c = first_waits c.args.waiting.now

pub loop-number-preserved : goal.loop-number-preserved
loop-number-preserved c =
    more_waits c.args.weights.now c.args.waiting.now c.loop-number.waiting c.push.new.self c.args.row.now c.loop-number.number-index c.ranked.result c.loop-number-test.true c.ranked.ensures
    c.loop-number.invariant c.in_ok-push.ensures

pub returns : goal.returns
returns c = all_wait c.args.weights.now c.args.waiting.now c.loop-number.waiting c.args.row.now c.loop-number.number-index c.loop-number-test.false c.loop-number.invariant
