use Rattle.std.proofs.Common.{◌+◌, ◌<◌, Ok, length, get_or, refl, ap, ◌∙◌, arith}
use Rattle.std.specs.Prelude.{slice_index}
use Rattle.flow_graph.specs.declared.edge.Edge.{Edge}
use Rattle.flow_graph.specs.Edges.{edges_of}
use Rattle.flow_tree.specs.WitnessEdges.{IsCertificate}
use Rattle.flow_tree.proofs.LawsOfCertificates.{certificate_only}
use Rattle.ae_print.specs.Numbered.{numbered_lines}
use Rattle.ae_nums.proofs.LawsOfWriters.{Puts-none, Puts-both, Puts-front, Puts-same}
use Rattle.ae_print.proofs.EdgeText.{line_by, past_edges, same_line}
use Rattle.ae_print.proofs.Rows.{lines_before, lines_behind, one_more, all_before, before_behind}
use Rattle.ae_print.proofs.edge_lines.write_edges.Goals as goal

pub loop-number-init : goal.loop-number-init
loop-number-init g c = λ path_of are. Puts-none _ (g.met.K.Sink.rest_stays _)

pub returns-in-Err : goal.returns-in-Err
returns-in-Err g c = λ path_of are.
    let line_of = line_by c.args.weights.now c.args.forest.now.witness path_of in
    let items = c.edges_in-edge-items.result.now in
    let number = c.loop-number.number in (
      lines_before line_of items number,
      lines_behind line_of items number,
      before_behind line_of items number ∙ ap (numbered_lines line_of) c.edges_in-edge-items.ensures.edges,
      c.loop-number.invariant path_of are,
    )

pub returns-in-Err-write_edge : goal.returns-in-Err-write_edge
returns-in-Err-write_edge g c = λ path_of are.
    let edges = edges_of c.args.graph.now in
    let marks = c.args.forest.now.witness in
    let line_of = line_by c.args.weights.now marks path_of in
    let items = c.edges_in-edge-items.result.now in
    let number = c.loop-number.number in
    let within : number < length edges = omega (arith, c.loop-number-test.true, ap (length {A = Edge}) c.edges_in-edge-items.ensures.edges) in
    let is : IsCertificate edges marks number c.in-Ok.path.items = c.in-Ok.ensures in
    let only = certificate_only edges marks c.requires.grown number within c.in-Ok.path.items (path_of number) is (are number within) in
    let here = same_line c.as_slice-witness.result.now marks c.deref.result.now (path_of number) number (slice_index c.args.weights.now number) (get_or items number past_edges) c.as_slice-witness.ensures (c.deref.ensures.value ∙ only) in
    let both = Puts-both g.met.K.Sink.rest_joins _ _ _ (lines_before line_of items number) (line_of number (get_or items number past_edges)) _ _ (Ok tt) _ (c.loop-number.invariant path_of are) refl c.write_edge.ensures here in (
      c.in-Err-write_edge.ensures.broken,
      λ result.
          let front = Puts-front _ _ (lines_before line_of items (number + 1)) (lines_behind line_of items (number + 1)) _ _ result
          c.in-Err-write_edge.ensures.broken both (one_more line_of items number past_edges c.loop-number-test.true) in
          Puts-same _ _ _ _ _ front (before_behind line_of items (number + 1) ∙ ap (numbered_lines line_of) c.edges_in-edge-items.ensures.edges),
    )

pub loop-number-preserved : goal.loop-number-preserved
loop-number-preserved g c = λ path_of are.
    let edges = edges_of c.args.graph.now in
    let marks = c.args.forest.now.witness in
    let line_of = line_by c.args.weights.now marks path_of in
    let items = c.edges_in-edge-items.result.now in
    let number = c.loop-number.number in
    let within : number < length edges = omega (arith, c.loop-number-test.true, ap (length {A = Edge}) c.edges_in-edge-items.ensures.edges) in
    let is : IsCertificate edges marks number c.in-Ok.path.items = c.in-Ok.ensures in
    let only = certificate_only edges marks c.requires.grown number within c.in-Ok.path.items (path_of number) is (are number within) in
    let here = same_line c.as_slice-witness.result.now marks c.deref.result.now (path_of number) number (slice_index c.args.weights.now number) (get_or items number past_edges) c.as_slice-witness.ensures (c.deref.ensures.value ∙ only) in
    let both = Puts-both g.met.K.Sink.rest_joins _ _ _ (lines_before line_of items number) (line_of number (get_or items number past_edges)) _ _ (Ok tt) (Ok tt) (c.loop-number.invariant path_of are) refl c.in-Ok-write_edge.ensures here in
    Puts-same _ _ _ _ (Ok tt) both (one_more line_of items number past_edges c.loop-number-test.true)

pub returns : goal.returns
returns g c = λ path_of are.
    let line_of = line_by c.args.weights.now c.args.forest.now.witness path_of in
    Puts-same _ _ _ _ _ (c.loop-number.invariant path_of are)
    (all_before line_of c.edges_in-edge-items.result.now c.loop-number.number (omega arith) ∙ ap (numbered_lines line_of) c.edges_in-edge-items.ensures.edges)
