-- the heads seen so far are those of the edges so far
use Rattle.std.proofs.Common.{true, false, List, sym, ap, ◌∙◌}
use Rattle.std.specs.Prelude.{min, nat_eq}
use Rattle.std.specs.Set.{distinct_count}
use Rattle.std.proofs.lemmas.List.{take_all}
use Rattle.flow_graph.specs.declared.edge.Edge.{Edge}
use Rattle.flow_tree.specs.Depth.{heads_among}
use Rattle.flow_tree.proofs.Seen.{seen_none, seen_turn, seen_count}
use Rattle.flow_tree.proofs.block_depth.depth_over.Goals as goal
use Rattle.flow_tree.proofs.block_depth.depth_over.Goals.{then-goes_back_past, else-goes_back_past}

pub loop-edge-init : goal.loop-edge-init
loop-edge-init c = rw c.new-heads.ensures seen_none

pub loop-edge-preserved : goal.loop-edge-preserved
loop-edge-preserved c =
    elim c.if-goes_back_past.branch [
      | then-goes_back_past w ↦
          seen_turn c.args.graph.now _ _ c.edges-edge-items.result.now _ _ _ true c.loop-edge-test.true (sym c.goes_back_past.ensures ∙ w.if-goes_back_past.true) (w.heads-is ∙ w.add.ensures) c.loop-edge.invariant
      | else-goes_back_past w ↦
          seen_turn c.args.graph.now _ _ c.edges-edge-items.result.now _ _ _ false c.loop-edge-test.true (sym c.goes_back_past.ensures ∙ w.if-goes_back_past.false) w.heads-is c.loop-edge.invariant
    ]

pub returns : goal.returns
returns c =
    c.len.ensures ∙ seen_count _ _ c.loop-edge.invariant
    ∙ ap (λ (edges : List Edge). min 6 (distinct_count nat_eq (heads_among c.args.graph.now c.args.address edges))) (take_all _ _ c.loop-edge-test.false ∙ c.edges-edge-items.ensures)
