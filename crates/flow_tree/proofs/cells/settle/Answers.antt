use Rattle.std.proofs.Common.{inl, inr, arith}
use Rattle.std.proofs.lemmas.Bool.{cases_lt}
use Rattle.flow_tree.proofs.LawsOfJoins.{Joins-IsUndirected}
use Rattle.flow_tree.proofs.Settling.{have_fewer, remains_fewer, settled_but}
use Rattle.flow_tree.proofs.cells.settle.Goals as goal

pub loop-cells-init : goal.loop-cells-init
loop-cells-init c = record {
  cells = c.requires.cells;
  within = c.requires.block;
  remains = λ marks remains. remains;
  settled = λ before other most. elim (cases_lt other c.args.block) [ inl below ↦ inr (before other below) | inr above ↦ inl (omega arith) ];
}

pub strip-at-requires-clause-blocks : goal.strip-at-requires-clause-blocks
strip-at-requires-clause-blocks c = λ edge one other joined. let within = c.requires.blocks edge one other joined in omega (arith, within, c.loop-cells.auto.cells)

pub loop-cells-preserved : goal.loop-cells-preserved
loop-cells-preserved c =
    let have = c.loop-cells.invariant.cells in
    let strip = c.strip-at.ensures have.rest have.held in
    let far = c.requires.blocks strip.number c.strip-at.result c.loop-cells.at ((Joins-IsUndirected c.args.edges.now).turned strip.number c.loop-cells.at c.strip-at.result strip.joined) in
    record {
      cells = have_fewer c.args.edges.now c.loop-cells.cells c.strip-at.new.cells c.loop-cells.count c.loop-cells.at c.strip-at.result have c.strip-at.ensures;
      within = omega (arith, far, c.strip-at.auto.cells, c.loop-cells.auto.cells);
      remains = λ marks remains.
          remains_fewer c.args.edges.now marks c.args.stays.now c.loop-cells.cells c.strip-at.new.cells c.loop-cells.count c.loop-cells.at c.strip-at.result c.loop-cells-test.ensures.1 c.strip-at.ensures
          (c.loop-cells.invariant.remains marks remains);
      settled = λ before other most.
          settled_but c.args.edges.now c.args.stays.now c.loop-cells.cells c.strip-at.new.cells c.loop-cells.count c.loop-cells.at c.strip-at.result other have c.strip-at.auto.cells c.strip-at.ensures
          (c.loop-cells.invariant.settled before other most);
    }
