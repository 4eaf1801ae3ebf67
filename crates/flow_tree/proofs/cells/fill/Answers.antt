use Rattle.std.proofs.Common.{◌≡◌, ◌+◌, Bool, true, false, List, Some, sym, ap, ◌∙◌, subst, arith}
use Rattle.std.specs.Prelude.{slice_get}
use Rattle.std.proofs.lemmas.Option.{slice_get-get_or}
use Rattle.flow_tree.specs.declared.cells.Cell.{Cell}
use Rattle.flow_tree.specs.WitnessEdges.{IsUnmarked}
use Rattle.flow_tree.specs.Inner.Cells.{IsFilled}
use Rattle.flow_tree.proofs.Filled.{marked_filled, unmarked_filled, marked_apart}
use Rattle.flow_tree.proofs.cells.fill.Goals as goal
use Rattle.flow_tree.proofs.cells.fill.Goals.{then-not-witness-number+else-not-put_edge, else-not-witness-number}

pub put_edge-requires-clause-blocks : goal.put_edge-requires-clause-blocks
put_edge-requires-clause-blocks c = λ edge one other joined. let within = c.requires.blocks edge one other joined in omega (arith, within, c.loop-number.auto.cells)

pub returns-then-not-put_edge : goal.returns-then-not-put_edge
returns-then-not-put_edge c =
    let unmarked : IsUnmarked c.args.witness.now c.loop-number.number =
    slice_get-get_or c.args.witness.now c.loop-number.number false (omega (arith, c.loop-number-test.true, c.requires.marks)) ∙ ap (λ (b : Bool). Some b) c.if-not-witness-number.true
    in
    (c.loop-number.number, unmarked, c.if-not-put_edge.ensures)

pub loop-number-preserved : goal.loop-number-preserved
loop-number-preserved c =
    let read = slice_get-get_or c.args.witness.now c.loop-number.number false (omega (arith, c.loop-number-test.true, c.requires.marks)) in
    elim c.if-not-witness-number.branch [
      | then-not-witness-number+else-not-put_edge w ↦
          let unmarked : IsUnmarked c.args.witness.now c.loop-number.number = read ∙ ap (λ (b : Bool). Some b) w.if-not-witness-number.true in
          let filled = unmarked_filled c.args.edges.now c.args.witness.now c.loop-number.cells w.put_edge.new.cells c.loop-number.number c.loop-number.left unmarked c.loop-number.invariant w.if-not-put_edge.ensures in
          subst (λ (cells : List Cell). IsFilled c.args.edges.now c.args.witness.now cells (c.loop-number.number + 1) c.if-not-witness-number.left) (sym w.cells-is)
          (subst (IsFilled c.args.edges.now c.args.witness.now w.put_edge.new.cells (c.loop-number.number + 1)) (sym w.left-is) filled)
      | else-not-witness-number w ↦
          let marked : slice_get c.args.witness.now c.loop-number.number ≡ Some true = read ∙ ap (λ (b : Bool). Some b) w.if-not-witness-number.false in
          let filled = marked_filled c.args.edges.now c.args.witness.now c.loop-number.cells c.loop-number.number c.loop-number.left (marked_apart c.args.witness.now c.loop-number.number marked) c.loop-number.invariant in
          subst (λ (cells : List Cell). IsFilled c.args.edges.now c.args.witness.now cells (c.loop-number.number + 1) c.if-not-witness-number.left) (sym w.cells-is)
          (subst (IsFilled c.args.edges.now c.args.witness.now c.loop-number.cells (c.loop-number.number + 1)) (sym w.left-is) filled)
    ]
