use Rattle.std.proofs.Common.{ap, ◌∙◌, List}
use Rattle.rv_code.specs.declared.image.Name.{Name}
use Rattle.flow_graph.specs.CodeParts.{routine_named}
use Rattle.flow_graph.proofs.Named.{found_named}
use Rattle.flow_graph.proofs.routines.Routines.address.Goals as goal

pub returns : goal.returns
returns c =
    c.copied.ensures ∙ (c.get.ensures.value ∙ (found_named (λ key. key.items) c.args.text.now c.self.inside.addresses.entries
    ∙ ap (λ (names : List Name). routine_named names c.args.text.now) c.self.view_is))
