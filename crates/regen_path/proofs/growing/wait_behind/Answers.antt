use Rattle.std.proofs.Common.{◌<◌, length, refl, sym, subst, rules, arith}
use Rattle.regen_path.proofs.Waiting.{WaitDownTo, wait_first, wait_more, wait_less, wait_all}
use Rattle.regen_path.proofs.growing.wait_behind.Goals as goal

pub loop-next-init : goal.loop-next-init
loop-next-init c =
    wait_first c.args.ground.now.ways.items c.args.kind c.args.node c.args.number c.index-next.result.now c.sources-sources.result.now.last.items c.sources-sources.result.now.before.items c.args.waiting.now.items
    c.sources-sources.ensures c.requires.within c.index-next.ensures

pub index-next-requires : goal.index-next-requires
index-next-requires c =
    let inside : c.args.node < length c.sources-sources.result.now.last.items = omega (arith, c.requires.within, c.sources-sources.ensures.goals) in
    search rules

pub index-next-requires-in-Some : goal.index-next-requires-in-Some
index-next-requires-in-Some c =
    let inside : c.in-Some.source < length c.sources-sources.result.now.before.items =
    omega (arith, (c.loop-next.invariant.here c.in-Some.source c.in-Some.is).0, c.sources-sources.ensures.sources)
    in
    search rules

pub loop-next-smaller : goal.loop-next-smaller
loop-next-smaller c =
    wait_less c.args.ground.now.ways.items c.args.kind c.args.node c.args.number c.loop-next.next c.index-next-in-Some.result.now c.in-Some.source c.sources-sources.result.now.last.items c.sources-sources.result.now.before.items
    c.args.waiting.now.items c.loop-next.waiting.items c.sources-sources.ensures c.in-Some.is c.index-next-in-Some.ensures c.loop-next.invariant

pub loop-next-preserved : goal.loop-next-preserved
loop-next-preserved c =
    subst (WaitDownTo c.args.ground.now.ways.items c.args.kind c.args.node c.args.number c.index-next-in-Some.result.now c.args.waiting.now.items) (sym c.in_ok-push.ensures.items)
    (wait_more c.args.ground.now.ways.items c.args.kind c.args.node c.args.number c.loop-next.next c.index-next-in-Some.result.now c.in-Some.source _ c.sources-sources.result.now.last.items c.sources-sources.result.now.before.items
    c.args.waiting.now.items c.loop-next.waiting.items c.sources-sources.ensures c.in-Some.is c.index-next-in-Some.ensures refl c.loop-next.invariant)

pub returns-clause-more : goal.returns-clause-more
returns-clause-more c = c.loop-next.invariant.more

pub returns-clause-all : goal.returns-clause-all
returns-clause-all c =
    wait_all c.args.ground.now.ways.items c.args.kind c.args.node c.args.number c.loop-next.next c.args.waiting.now.items c.loop-next.waiting.items c.in_default.is c.loop-next.invariant

pub returns-clause-few : goal.returns-clause-few
returns-clause-few c = omega (arith, c.loop-next.invariant.few)
