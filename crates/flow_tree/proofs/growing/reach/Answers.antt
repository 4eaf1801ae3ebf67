use Rattle.std.proofs.Common.{ℕ, List, sym, ◌∙◌, subst, map, ◌++◌}
use Rattle.std.specs.List.Sorted.{IsPermutation}
use Rattle.std.proofs.lemmas.Result.{on_ok_weaker}
use Rattle.graph_paths.specs.Forests.{IsAmong}
use Rattle.flow_tree.specs.Inner.Growing.{ranked_of}
use Rattle.flow_tree.proofs.Taking.{row_read}
use Rattle.flow_tree.proofs.growing.reach.Goals as goal

pub wait_for-requires : goal.wait_for-requires
wait_for-requires c = λ number is.
    let row = row_read c.args.rows.now c.args.block c.index-rows-block.result c.requires.block c.index-rows-block.is in
    c.requires.rows c.args.block number (subst (λ (xs : List ℕ). IsAmong xs number) (c.deref.ensures.value ∙ sym row) is)

pub returns-clause-waiting : goal.returns-clause-waiting
returns-clause-waiting c =
    let row = row_read c.args.rows.now c.args.block c.index-rows-block.result c.requires.block c.index-rows-block.is in
    on_ok_weaker c.wait_for.result
    (λ put. subst (λ (xs : List ℕ). IsPermutation (c.args.waiting.now ++ map (ranked_of c.args.weights.now) xs) c.wait_for.new.waiting) (c.deref.ensures.value ∙ sym row) put)
    c.wait_for.ensures
