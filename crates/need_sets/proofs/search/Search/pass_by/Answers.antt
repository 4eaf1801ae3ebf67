-- One word more is passed, and those before it are left.
use Rattle.std.proofs.Common.{◌<◌, Option, ℕ, length, sym, subst, rules, arith}
use Rattle.need_sets.proofs.Chain.{left_of, next_falls, passed_first, passed_more}
use Rattle.need_sets.proofs.search.Search.pass_by.Goals as goal

pub loop-next-init : goal.loop-next-init
loop-next-init c =
    passed_first c.args.ranges.now c.args.taken c.args.goal c.args.behind c.index-next.result.now c.args.sources.now.last.items c.args.sources.now.before.items c.args.self.now
    c.requires.sources c.requires.within c.index-next.ensures c.requires.sized

pub pass_to-requires-clause-within : goal.pass_to-requires-clause-within
pass_to-requires-clause-within c = (c.loop-next.invariant.here c.in-Some.source c.in-Some.is).0

pub index-next-requires-in-Some : goal.index-next-requires-in-Some
index-next-requires-in-Some c =
    let inside : c.in-Some.source < length c.args.sources.now.before.items =
    omega (arith, c.requires.sources.sources, (c.loop-next.invariant.here c.in-Some.source c.in-Some.is).0)
    in
    search rules

pub loop-next-smaller : goal.loop-next-smaller
loop-next-smaller c =
    let (inside, leads) = c.loop-next.invariant.here c.in-Some.source c.in-Some.is in
    subst (λ (o : Option ℕ). left_of c.index-next-in-Some.result.now < left_of o) (sym c.in-Some.is)
    (next_falls c.args.ranges.now c.args.taken c.args.goal c.in-Some.source c.index-next-in-Some.result.now c.args.sources.now.last.items c.args.sources.now.before.items
    c.requires.sources inside leads c.index-next-in-Some.ensures)

pub loop-next-preserved : goal.loop-next-preserved
loop-next-preserved c =
    passed_more c.args.ranges.now c.args.taken c.args.goal c.args.behind c.in-Some.source c.loop-next.next c.index-next-in-Some.result.now
    c.args.sources.now.last.items c.args.sources.now.before.items c.args.self.now c.loop-next.self c.pass_to.new.self
    c.requires.sources c.in-Some.is c.index-next-in-Some.ensures c.loop-next.invariant
    c.in_ok-pass_to.ensures.sized c.in_ok-pass_to.ensures.spreads c.in_ok-pass_to.ensures.passed c.in_ok-pass_to.ensures.sound
