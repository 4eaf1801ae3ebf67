-- One node more is kept.
use Rattle.std.proofs.Common.{◌≡◌, ℕ, ◌+◌, length, take, refl, sym, subst, arith}
use Rattle.regen_path.specs.Inner.Spots.{AreSpotsBy}
use Rattle.regen_path.proofs.Spotted.{each_some, each_below, each_more, spots_all}
use Rattle.regen_path.proofs.paths.spots_of.Goals as goal

pub unwrap-number-requires : goal.unwrap-number-requires
unwrap-number-requires c = each_some c.args.ways.now c.args.numbers.now c.args.heights.now c.requires.numbers c.requires.each c.loop-node.node c.loop-node-test.true _

pub bounds-heights-number : goal.bounds-heights-number
bounds-heights-number c = each_below c.args.ways.now c.args.numbers.now c.args.heights.now c.requires.numbers c.requires.each c.loop-node.node c.loop-node-test.true _ c.unwrap-number.result c.unwrap-number.ensures

pub bounds-heights-number-in-loop-node : goal.bounds-heights-number-in-loop-node
bounds-heights-number-in-loop-node c = each_below c.args.ways.now c.args.numbers.now c.args.heights.now c.requires.numbers c.requires.each c.loop-node.node c.loop-node-test.true _ c.unwrap-number.result c.unwrap-number.ensures

pub loop-node-preserved : goal.loop-node-preserved
loop-node-preserved c =
    subst (AreSpotsBy (take (c.loop-node.node + 1) c.args.ways.now) c.args.numbers.now c.args.heights.now) (sym c.in_ok-push.ensures.items)
    (each_more c.args.ways.now c.args.numbers.now c.args.heights.now c.requires.numbers c.requires.each c.loop-node.node c.loop-node-test.true _ c.loop-node.spots.items _ c.unwrap-number.ensures refl refl refl c.loop-node.invariant)

pub returns : goal.returns
returns c =
    let equal : c.loop-node.node ≡ length c.args.ways.now = omega (arith, c.loop-node-test.false, c.loop-node.auto.node-end) in
    spots_all c.args.ways.now c.args.numbers.now c.args.heights.now c.loop-node.spots.items
    (subst (λ (n : ℕ). AreSpotsBy (take n c.args.ways.now) c.args.numbers.now c.args.heights.now c.loop-node.spots.items) equal c.loop-node.invariant)
