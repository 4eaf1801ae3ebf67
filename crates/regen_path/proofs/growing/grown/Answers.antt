use Rattle.regen_path.proofs.Rooted.{rooted}
use Rattle.regen_path.proofs.growing.grown.Goals as goal

pub returns : goal.returns
returns c =
    rooted c.args.ground.now.ways.items c.grow_all.new.self.visits.items c.grow_all.new.self.numbers.items c.in_ok-grow_all.ensures.whole.0
    c.requires.forest c.in_ok-grow_all.ensures.whole.1 c.in_ok-grow_all.ensures.each
