use Rattle.std.proofs.Common.{ap, sym, ◌∙◌, ◌≡◌, ◌+◌, ◌<◌, ◌++◌, ◌∷◌, [], List, length, take, arith}
use Rattle.std.proofs.lemmas.List.{take_more}
use Rattle.rv_code.specs.declared.image.Name.{Name}
use Rattle.flow_graph.specs.CodeParts.{first_seen}
use Rattle.flow_graph.specs.RoutineNames.{with_name}
use Rattle.flow_graph.proofs.Named.{first_seen_more}
use Rattle.flow_graph.proofs.routines.Routines.from_names.Goals as goal

pub loop-name-preserved : goal.loop-name-preserved
loop-name-preserved c =
    let names : List Name = c.args.names.now in
    let seen : List Name = take c.loop-name.name-index names in
    let name : Name = c.name-item.result in
    let within : c.loop-name.name-index < length names = omega arith in
    let more : take (c.loop-name.name-index + 1) names ≡ seen ++ name ∷ [] =
    take_more names c.loop-name.name-index name within ∙ ap (λ (last : Name). seen ++ last ∷ []) (sym c.name-item.is)
    in
    c.in_ok-add.ensures
    ∙ (ap (λ (before : List Name). with_name before name) c.loop-name.invariant
    ∙ (sym (first_seen_more seen name) ∙ ap first_seen (sym more)))
