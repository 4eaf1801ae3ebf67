use Rattle.std.proofs.Common.{◌≡◌, ◌+◌, Bool, false, List, length, sym, subst, arith}
use Rattle.std.specs.Prelude.{slice_set}
use Rattle.std.proofs.lemmas.Result.{on_ok_weaker}
use Rattle.std.proofs.lemmas.Option.{slice_get_within}
use Rattle.flow_tree.specs.Inner.Growing.{IsGrown, IsGrowing, rows_left}
use Rattle.flow_tree.proofs.Taking.{on_both, stays_set, as_many_left}
use Rattle.flow_tree.proofs.Trees.{grows_on}
use Rattle.flow_tree.proofs.growing.take_in.Goals as goal

pub beyond-requires-clause-blocks : goal.beyond-requires-clause-blocks
beyond-requires-clause-blocks c = λ number one other joined. let within = c.requires.blocks number one other joined in omega (arith, c.requires.grown)

pub reach-requires-clause-block : goal.reach-requires-clause-block
reach-requires-clause-block c = let within = slice_get_within c.args.grown.now c.in-Some.block false c.in-Some.ensures.unreached in omega (arith, c.requires.grown)

pub returns-clause-grows : goal.returns-clause-grows
returns-clause-grows c = λ root growing first.
    on_both c.reach.result
    (λ grown_is put.
    subst (λ (grown : List Bool). IsGrowing c.args.edges.now c.args.weights.now grown (slice_set c.args.witness.now c.args.number false) c.reach.new.waiting root) (sym grown_is)
    (grows_on c.args.edges.now c.args.weights.now c.args.grown.now c.args.witness.now c.args.waiting.now root c.args.number c.in-Some.block growing first c.in-Some.ensures
    (omega (arith, c.requires.number, c.requires.witness)) c.args.rows.now c.requires.rows c.reach.new.waiting put))
    c.reach.ensures.grown c.reach.ensures.waiting

pub returns-clause-stays : goal.returns-clause-stays
returns-clause-stays c =
    on_ok_weaker c.reach.result
    (λ grown_is block on. subst (λ (grown : List Bool). IsGrown grown block) (sym grown_is)
    (stays_set c.args.grown.now c.in-Some.block (slice_get_within c.args.grown.now c.in-Some.block false c.in-Some.ensures.unreached) block on))
    c.reach.ensures.grown

pub returns-clause-left : goal.returns-clause-left
returns-clause-left c =
    on_both c.reach.result
    (λ grown_is put.
    subst (λ (grown : List Bool). length c.reach.new.waiting + rows_left c.args.rows.now grown ≡ length c.args.waiting.now + rows_left c.args.rows.now c.args.grown.now) (sym grown_is)
    (as_many_left c.args.weights.now c.args.rows.now c.args.grown.now c.args.waiting.now c.reach.new.waiting c.in-Some.block c.requires.grown c.in-Some.ensures.unreached put))
    c.reach.ensures.grown c.reach.ensures.waiting
