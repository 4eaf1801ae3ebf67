-- Each place below the number of code words has an address.
use Rattle.std.proofs.Common.{sym, ap, ◌∙◌}
use Rattle.std.specs.Prelude.{is_some}
use Rattle.std.proofs.lemmas.Bool.{lt-ltb}
use Rattle.rv_code.specs.Image.{word_count}
use Rattle.rv_code.proofs.LawsOfLookUps.{is_some-address_of}
use Rattle.flow_graph.proofs.walk.address_at.Goals as goal

pub unreachable-requires : goal.unreachable-requires
unreachable-requires c =
    let none = ap is_some (sym c.in-None.is ∙ c.address_in.ensures) ∙ is_some-address_of c.args.ranges.now c.args.place
    ∙ lt-ltb c.args.place (word_count c.args.ranges.now) c.requires.within in
    cc none
