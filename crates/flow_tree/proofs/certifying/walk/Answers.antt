use Rattle.std.proofs.Common.{◌++◌, ◌∷◌, [], ℕ, List, length, get_or, sym, ap, subst, arith, length-append}
use Rattle.std.proofs.lemmas.Option.{slice_get_within}
use Rattle.flow_tree.specs.WitnessEdges.{joins_forth}
use Rattle.flow_tree.specs.Inner.Walks.{IsWalked}
use Rattle.flow_tree.proofs.Checked.{filled_remains}
use Rattle.flow_tree.proofs.LawsOfJoins.{joins_within}
use Rattle.flow_tree.proofs.Leaves.{no_cell, leaf_edge}
use Rattle.flow_tree.proofs.Walks.{walk_begins, at_leaf, walks_on, names_taken, walked_few, walked_all}
use Rattle.flow_tree.proofs.certifying.walk.Goals as goal

pub settle_all-requires-clause-blocks : goal.settle_all-requires-clause-blocks
settle_all-requires-clause-blocks c = λ edge one other joined. let within = c.requires.blocks edge one other joined in omega (arith, within, c.fill.auto.cells)

pub loop-at-init : goal.loop-at-init
loop-at-init c =
    let remains = c.settle_all.ensures.remains c.args.witness.now
    (filled_remains c.args.edges.now c.args.witness.now (c.args.from ∷ c.args.to ∷ []) c.fill.new.cells c.in-Some.left c.requires.marks c.in-Some.ensures) in
    subst (λ (path : List ℕ). IsWalked c.args.edges.now c.args.witness.now c.settle_all.new.cells path c.args.from c.args.from c.args.to) (sym c.new-path.ensures.items)
    (walk_begins c.args.edges.now c.args.witness.now c.settle_all.new.cells c.settle_all.result c.args.from c.args.to remains c.settle_all.ensures.settled c.requires.joined)

pub strip-at-requires-clause-blocks : goal.strip-at-requires-clause-blocks
strip-at-requires-clause-blocks c = λ edge one other joined.
    let within = c.requires.blocks edge one other joined in omega (arith, within, c.fill.auto.cells, c.settle_all.auto.cells, c.loop-at.auto.cells)

pub strip-at-requires-clause-leaf : goal.strip-at-requires-clause-leaf
strip-at-requires-clause-leaf c =
    at_leaf c.args.edges.now c.args.witness.now c.loop-at.cells c.loop-at.path.items c.args.from c.loop-at.at c.args.to c.loop-at.invariant c.requires.cuts.no_cycle
    (λ edge one other joined. let within = c.requires.blocks edge one other joined in omega (arith, within, c.fill.auto.cells, c.settle_all.auto.cells, c.loop-at.auto.cells)) c.loop-at-test.true

pub bounds-cells-at : goal.bounds-cells-at
bounds-cells-at c =
    let leaf = at_leaf c.args.edges.now c.args.witness.now c.loop-at.cells c.loop-at.path.items c.args.from c.loop-at.at c.args.to c.loop-at.invariant c.requires.cuts.no_cycle
    (λ edge one other joined. let within = c.requires.blocks edge one other joined in omega (arith, within, c.fill.auto.cells, c.settle_all.auto.cells, c.loop-at.auto.cells)) c.loop-at-test.true in
    slice_get_within c.loop-at.cells c.loop-at.at (record { count = 1; sum = leaf.0 }) leaf.1

pub overflow_cast-cells : goal.overflow_cast-cells
overflow_cast-cells c =
    let leaf = at_leaf c.args.edges.now c.args.witness.now c.loop-at.cells c.loop-at.path.items c.args.from c.loop-at.at c.args.to c.loop-at.invariant c.requires.cuts.no_cycle
    (λ edge one other joined. let within = c.requires.blocks edge one other joined in omega (arith, within, c.fill.auto.cells, c.settle_all.auto.cells, c.loop-at.auto.cells)) c.loop-at-test.true in
    let known = leaf_edge c.args.edges.now c.loop-at.invariant.rest c.loop-at.cells c.loop-at.at c.loop-at.invariant.held leaf in
    let within = joins_within c.args.edges.now (get_or c.loop-at.cells c.loop-at.at no_cell).sum known.from known.to (joins_forth known.leads) in
    record { fits = omega (arith, within, c.requires.few) }

pub loop-at-preserved : goal.loop-at-preserved
loop-at-preserved c =
    let leaf = at_leaf c.args.edges.now c.args.witness.now c.loop-at.cells c.loop-at.path.items c.args.from c.loop-at.at c.args.to c.loop-at.invariant c.requires.cuts.no_cycle
    (λ edge one other joined. let within = c.requires.blocks edge one other joined in omega (arith, within, c.fill.auto.cells, c.settle_all.auto.cells, c.loop-at.auto.cells)) c.loop-at-test.true in
    let strips = c.strip-at.ensures c.loop-at.invariant.rest c.loop-at.invariant.held in
    let named = names_taken c.args.edges.now c.loop-at.invariant.rest c.loop-at.cells c.strip-at.new.cells c.loop-at.at c.strip-at.result c.loop-at.invariant.held leaf strips in
    subst (λ (path : List ℕ). IsWalked c.args.edges.now c.args.witness.now c.strip-at.new.cells path c.args.from c.strip-at.result c.args.to) (sym c.in_ok-push.ensures.items)
    (walks_on c.args.edges.now c.args.witness.now c.loop-at.cells c.loop-at.path.items c.args.from c.loop-at.at c.args.to c.loop-at.invariant c.requires.cuts.no_cycle
    (λ edge one other joined. let within = c.requires.blocks edge one other joined in omega (arith, within, c.fill.auto.cells, c.settle_all.auto.cells, c.loop-at.auto.cells)) c.loop-at-test.true
    c.strip-at.new.cells c.strip-at.result (get_or c.loop-at.cells c.loop-at.at no_cell).sum strips c.strip-at.auto.cells named)

pub loop-at-smaller : goal.loop-at-smaller
loop-at-smaller c =
    let leaf = at_leaf c.args.edges.now c.args.witness.now c.loop-at.cells c.loop-at.path.items c.args.from c.loop-at.at c.args.to c.loop-at.invariant c.requires.cuts.no_cycle
    (λ edge one other joined. let within = c.requires.blocks edge one other joined in omega (arith, within, c.fill.auto.cells, c.settle_all.auto.cells, c.loop-at.auto.cells)) c.loop-at-test.true in
    let strips = c.strip-at.ensures c.loop-at.invariant.rest c.loop-at.invariant.held in
    let named = names_taken c.args.edges.now c.loop-at.invariant.rest c.loop-at.cells c.strip-at.new.cells c.loop-at.at c.strip-at.result c.loop-at.invariant.held leaf strips in
    let walked = walks_on c.args.edges.now c.args.witness.now c.loop-at.cells c.loop-at.path.items c.args.from c.loop-at.at c.args.to c.loop-at.invariant c.requires.cuts.no_cycle
    (λ edge one other joined. let within = c.requires.blocks edge one other joined in omega (arith, within, c.fill.auto.cells, c.settle_all.auto.cells, c.loop-at.auto.cells)) c.loop-at-test.true
    c.strip-at.new.cells c.strip-at.result (get_or c.loop-at.cells c.loop-at.at no_cell).sum strips c.strip-at.auto.cells named in
    let few = walked_few c.args.edges.now c.args.witness.now c.strip-at.new.cells (c.loop-at.path.items ++ (get_or c.loop-at.cells c.loop-at.at no_cell).sum ∷ []) c.args.from c.strip-at.result c.args.to walked in
    let longer = length-append c.loop-at.path.items ((get_or c.loop-at.cells c.loop-at.at no_cell).sum ∷ []) in
    omega (arith, few, longer, ap (length {A = ℕ}) c.in_ok-push.ensures.items)

pub returns : goal.returns
returns c = walked_all c.args.edges.now c.args.witness.now c.loop-at.cells c.loop-at.path.items c.args.from c.loop-at.at c.args.to c.loop-at-test.false c.loop-at.invariant
