use Rattle.std.proofs.Common.{◌++◌, List, get_or, sym, ap, ◌∙◌}
use Rattle.std.proofs.lemmas.Option.{slice_get-get_or}
use Rattle.std.proofs.lemmas.Result.{IfOk-weaker}
use Rattle.flow_graph.specs.declared.edge.Edge.{Edge}
use Rattle.schema_form.specs.declared.word.SchemaWord.{SchemaWord}
use Rattle.schema_form.proofs.EdgesAt.{none_past, edges_there}
use Rattle.schema_form.proofs.edges.add_edges_at.Goals as goal

pub returns-then-place-words : goal.returns-then-place-words
returns-then-place-words c = none_past c.args.stretches.now c.args.words.now c.args.place c.args.edges.now.items c.if-place-words.true

pub returns-in-Some : goal.returns-in-Some
returns-in-Some c =
    let words = c.args.words.now in
    let none : SchemaWord = record { flags = 0; raw = 0; mask = 0 } in
    let there = slice_get-get_or words c.args.place none c.if-place-words.false in
    let same = edges_there c.args.stretches.now words c.args.place (get_or words c.args.place none) c.in-Some.address there (sym c.address_of.ensures ∙ c.in-Some.is) in
    IfOk-weaker c.add_edges_of.result _ _ (λ done added. added ∙ ap (λ (list : List Edge). c.args.edges.now.items ++ list) same) c.add_edges_of.ensures
