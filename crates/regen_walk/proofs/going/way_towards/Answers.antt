use Rattle.regen_walk.proofs.Hops.{begins_by}
use Rattle.regen_walk.proofs.going.way_towards.Goals as goal

pub returns-clause-some : goal.returns-clause-some
returns-clause-some c =
    let first = c.in_ok-arc.ensures.some in
    begins_by c.args.paths.now c.args.here c.args.goal c.in_ok-arc.arc first.0 first.1.is
