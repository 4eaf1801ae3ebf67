use Rattle.std.proofs.Common.{ℕ, List, Ok}
use Rattle.ae_nums.specs.Writer.{Puts}
use Rattle.flow_graph.specs.Edges.{edges_of}
use Rattle.ae_print.specs.GraphText.{AreCertificates}
use Rattle.ae_print.proofs.Rows.{lines_before}
use Rattle.ae_print.proofs.EdgeText.{line_by}
use Rattle.ae_print.proofs.edge_lines.write_edges.Given as goal

abbrev pub invariant-loop-number : goal.invariant-loop-number
invariant-loop-number g l = (path_of : ℕ → List ℕ) → AreCertificates (edges_of l.graph) l.forest.witness path_of →
    Puts g.K.Sink.told g.K.Sink.faults g.K.Sink.same_rest l.initial.lines l.lines (lines_before (line_by l.weights l.forest.witness path_of) l.edge-items l.number) (Ok tt)
