use Rattle.regen_path.proofs.Waiting.{both_more, both_all, both_few}
use Rattle.regen_path.proofs.growing.wait_ahead.Goals as goal

pub returns-clause-more : goal.returns-clause-more
returns-clause-more c =
    both_more c.args.ground.now.ways.items c.args.node c.args.number c.requires.within c.index-ways.result.now c.index-ways.ensures c.args.waiting.now.items c.wait_for.new.waiting.items c.wait_for-2.new.waiting.items
    c.in_ok-wait_for.ensures c.in_ok-wait_for-2.ensures

pub returns-clause-all : goal.returns-clause-all
returns-clause-all c =
    both_all c.args.ground.now.ways.items c.args.node c.args.number c.requires.within c.index-ways.result.now c.index-ways.ensures c.args.waiting.now.items c.wait_for.new.waiting.items c.wait_for-2.new.waiting.items
    c.in_ok-wait_for.ensures c.in_ok-wait_for-2.ensures

pub returns-clause-few : goal.returns-clause-few
returns-clause-few c =
    both_few c.args.ground.now.ways.items c.args.node c.args.number c.requires.within c.index-ways.result.now c.index-ways.ensures c.args.waiting.now.items c.wait_for.new.waiting.items c.wait_for-2.new.waiting.items
    c.in_ok-wait_for.ensures c.in_ok-wait_for-2.ensures
