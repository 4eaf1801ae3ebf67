use Rattle.std.proofs.Common.{Ok}
use Rattle.ae_nums.specs.Writer.{Puts}
use Rattle.flow_graph.specs.declared.block.Block.{Block}
use Rattle.flow_tree.specs.Depth.{depth_of}
use Rattle.ae_print.specs.GraphText.{block_line}
use Rattle.ae_print.proofs.Rows.{lines_before}
use Rattle.ae_print.proofs.block_lines.write_blocks.Given as goal

abbrev pub invariant-loop-number : goal.invariant-loop-number
invariant-loop-number g l =
    Puts g.K.Sink.told g.K.Sink.faults g.K.Sink.same_rest l.initial.lines l.lines (lines_before (λ number (block : Block). block_line (depth_of l.graph number) block) l.block-items l.number) (Ok tt)
