use Rattle.std.proofs.Common.{List, get_or, sym, ap, ◌∙◌}
use Rattle.std.specs.Prelude.{nat_eq}
use Rattle.flow_graph.specs.declared.block.Block.{Block}
use Rattle.flow_graph.specs.Blocks.{blocks_of}
use Rattle.schema_form.proofs.MadeWords.{block_there, leader_test}
use Rattle.schema_form.proofs.of_image.is_leader.Goals as goal

pub returns : goal.returns
returns c =
    let parts = c.args.graph.now in
    let none : Block = record { leader = 0; last = 0 } in
    let there = block_there parts c.args.address c.in-Some.number none (c.blocks_are_runs_of_code_words.ensures.blocks parts c.requires.order c.requires.ends) c.requires.code (sym c.in-Some.ensures.block) in
    ap (λ (blocks : List Block). nat_eq (get_or blocks c.in-Some.number none).leader c.args.address) c.blocks-in-Some.ensures
    ∙ leader_test parts c.args.address (get_or (blocks_of parts) c.in-Some.number none) c.in-Some.number there
