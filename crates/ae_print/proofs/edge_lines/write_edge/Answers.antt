use Rattle.std.proofs.Common.{◌++◌, refl}
use Rattle.ae_nums.specs.Trace.{newline}
use Rattle.ae_print.specs.GraphText.{edge_front, weight_text, mark_text}
use Rattle.ae_nums.proofs.LawsOfWriters.{Puts-both, Puts-front, Puts-more}
use Rattle.ae_print.proofs.edge_lines.write_edge.Goals as goal

pub returns-in_err-write_to_weight : goal.returns-in_err-write_to_weight
returns-in_err-write_to_weight g c =
    let broken = c.in_err-write_to_weight.ensures.broken in
    let front = Puts-front _ _ (edge_front c.args.number c.args.edge.now ++ weight_text c.args.weight) (mark_text c.args.is_witness c.args.edge.now.to c.args.path.now) _ _ c.from_residual.result
    broken c.write_to_weight.ensures refl in
    Puts-more _ _ _ newline _ broken front

pub returns-in_err-write_mark : goal.returns-in_err-write_mark
returns-in_err-write_mark g c =
    let both = Puts-both g.met.K.Sink.rest_joins _ _ _ (edge_front c.args.number c.args.edge.now ++ weight_text c.args.weight) (mark_text c.args.is_witness c.args.edge.now.to c.args.path.now) _ _ _ _
    c.write_to_weight.ensures refl c.write_mark.ensures refl in
    Puts-front _ _ ((edge_front c.args.number c.args.edge.now ++ weight_text c.args.weight) ++ mark_text c.args.is_witness c.args.edge.now.to c.args.path.now) newline _ _ _ c.in_err-write_mark.ensures.broken
    both refl

pub returns : goal.returns
returns g c =
    let both = Puts-both g.met.K.Sink.rest_joins _ _ _ (edge_front c.args.number c.args.edge.now ++ weight_text c.args.weight) (mark_text c.args.is_witness c.args.edge.now.to c.args.path.now) _ _ _ _
    c.write_to_weight.ensures refl c.write_mark.ensures refl in
    Puts-both g.met.K.Sink.rest_joins _ _ _ ((edge_front c.args.number c.args.edge.now ++ weight_text c.args.weight) ++ mark_text c.args.is_witness c.args.edge.now.to c.args.path.now) newline _ _ _ _
    both refl c.write.ensures.puts refl
