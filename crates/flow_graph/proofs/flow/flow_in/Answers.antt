use Rattle.std.proofs.Common.{ap, sym, subst, ◌∙◌, ℕ, List, length, arith}
use Rattle.std.specs.Prelude.{flat_map}
use Rattle.std.specs.List.{enumerate_from}
use Rattle.flow_graph.specs.declared.block.Block.{Block}
use Rattle.flow_graph.specs.Edges.{edges_from}
use Rattle.flow_graph.specs.Leaders.{starts_in}
use Rattle.flow_graph.specs.Numbers.{AreNumbers}
use Rattle.flow_graph.proofs.Few.{few_blocks, length-marks_of}
use Rattle.flow_graph.proofs.flow.flow_in.Goals as goal

pub numbers_in-requires-clause-cells : goal.numbers_in-requires-clause-cells
numbers_in-requires-clause-cells c =
    ap length c.deref.ensures.value
    ∙ (ap length c.in_ok-marks.ensures ∙ length-marks_of c.args.ranges.now (starts_in c.args.ranges.now c.args.entry c.args.named.now c.args.functions.now))

pub blocks_in-requires-clause-cells : goal.blocks_in-requires-clause-cells
blocks_in-requires-clause-cells c =
    ap length c.deref-2.ensures.value
    ∙ (ap length c.in_ok-marks.ensures ∙ length-marks_of c.args.ranges.now (starts_in c.args.ranges.now c.args.entry c.args.named.now c.args.functions.now))

pub edges_in-requires-clause-blocks : goal.edges_in-requires-clause-blocks
edges_in-requires-clause-blocks c =
    let blocks = c.in_ok-blocks.ensures c.args.entry c.args.named.now c.args.functions.now (c.deref-2.ensures.value ∙ c.in_ok-marks.ensures) in
    omega (arith, ap length (c.deref-4.ensures.value ∙ blocks), few_blocks c.args.ranges.now (starts_in c.args.ranges.now c.args.entry c.args.named.now c.args.functions.now))

pub returns : goal.returns
returns c =
    let starts : List ℕ = starts_in c.args.ranges.now c.args.entry c.args.named.now c.args.functions.now in
    let blocks = c.in_ok-blocks.ensures c.args.entry c.args.named.now c.args.functions.now (c.deref-2.ensures.value ∙ c.in_ok-marks.ensures) in
    let numbers = c.in_ok-numbers.ensures.numbers c.args.entry c.args.named.now c.args.functions.now (c.deref.ensures.value ∙ c.in_ok-marks.ensures) in
    let edges = c.in_ok-edges.ensures starts (subst (λ (ns : List ℕ). AreNumbers c.args.ranges.now starts ns) (sym c.deref-3.ensures.value) numbers) in
    record {
      blocks = c.from_vec.ensures ∙ blocks;
      edges = c.from_vec-3.ensures ∙ (edges ∙ ap (λ (bs : List Block). flat_map (edges_from c.args.ranges.now starts) (enumerate_from 0 bs)) (c.deref-4.ensures.value ∙ blocks));
      cells = ap length c.from_vec-2.ensures ∙ c.in_ok-numbers.ensures.cells;
      numbers = subst (λ (ns : List ℕ). AreNumbers c.args.ranges.now starts ns) (sym c.from_vec-2.ensures) numbers;
    }
