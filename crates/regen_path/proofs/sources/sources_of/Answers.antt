-- One node more is gathered.
use Rattle.std.proofs.Common.{◌<◌, rules, length, sym, ◌∙◌, arith}
use Rattle.regen_path.proofs.Chained.{led_more, none_more}
use Rattle.regen_path.proofs.Tabled.{way_read}
use Rattle.regen_path.proofs.sources.sources_of.Goals as goal
use Rattle.regen_path.proofs.sources.sources_of.Goals.{in-Some+in_ok-push-in-Some, in-None+in_ok-push-in-None}

pub loop-node-preserved : goal.loop-node-preserved
loop-node-preserved c = elim c.match-by.branch [
  | in-Some+in_ok-push-in-Some w ↦
      let way = way_read c.args.ways.now c.args.kind c.loop-node.node c.loop-node-test.true ∙ sym c.by.ensures ∙ w.in-Some.is in
      led_more c.args.ways.now c.args.kind c.loop-node.node w.in-Some.goal c.loop-node.last.items c.loop-node.before.items c.match-by.last.items c.match-by.before.items w.index.result.now
      way (c.requires.within c.args.kind c.loop-node.node w.in-Some.goal way) w.index.ensures (λ i. (w.last-is i).items) ((λ i. (w.before-is i).items) ∙ w.in_ok-push-in-Some.ensures.items) c.loop-node.invariant
  | in-None+in_ok-push-in-None w ↦
      let way = way_read c.args.ways.now c.args.kind c.loop-node.node c.loop-node-test.true ∙ sym c.by.ensures ∙ w.in-None.is in
      none_more c.args.ways.now c.args.kind c.loop-node.node c.loop-node.last.items c.loop-node.before.items c.match-by.last.items c.match-by.before.items
      way (λ i. (w.last-is i).items) ((λ i. (w.before-is i).items) ∙ w.in_ok-push-in-None.ensures.items) c.loop-node.invariant
]

pub index-requires : goal.index-requires
index-requires c =
    let way = way_read c.args.ways.now c.args.kind c.loop-node.node c.loop-node-test.true ∙ sym c.by.ensures ∙ c.in-Some.is in
    let inside : c.in-Some.goal < length c.loop-node.last.items = omega (arith, c.requires.within c.args.kind c.loop-node.node c.in-Some.goal way, c.loop-node.invariant.goals) in
    search rules

pub index_mut-requires : goal.index_mut-requires
index_mut-requires c =
    let way = way_read c.args.ways.now c.args.kind c.loop-node.node c.loop-node-test.true ∙ sym c.by.ensures ∙ c.in-Some.is in
    let inside : c.in-Some.goal < length c.loop-node.last.items = omega (arith, c.requires.within c.args.kind c.loop-node.node c.in-Some.goal way, c.loop-node.invariant.goals) in
    search rules
