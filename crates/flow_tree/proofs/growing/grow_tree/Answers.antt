use Rattle.std.proofs.Common.{Bool, false, true, List, [], ◌∷◌, ◌++◌, map, inl, refl, sym, ◌∙◌, subst, arith}
use Rattle.std.specs.List.Sorted.{IsPermutation}
use Rattle.std.proofs.lemmas.List.Sorted.{length_permutation}
use Rattle.std.proofs.lemmas.Option.{slice_get_within}
use Rattle.rv_code.proofs.LawsOfElements.{set_here}
use Rattle.flow_tree.specs.declared.waiting.Ranked.{Ranked}
use Rattle.flow_tree.specs.Inner.Growing.{IsGrown, IsGrowing, ranked_of, row_of}
use Rattle.flow_tree.specs.Inner.Waiting.{ComesFirst}
use Rattle.flow_tree.proofs.AmongLists.{among_back}
use Rattle.flow_tree.proofs.Taking.{stays_set, by_rank}
use Rattle.flow_tree.proofs.Trees.{begins, waited_before, none_waits}
use Rattle.flow_tree.proofs.growing.grow_tree.Goals as goal

pub reach-requires-clause-rows : goal.reach-requires-clause-rows
reach-requires-clause-rows c = λ place number is. let within = c.requires.rows.within place number is in omega (arith, c.requires.weights)

pub reach-requires-clause-block : goal.reach-requires-clause-block
reach-requires-clause-block c = let within = slice_get_within c.args.grown.now c.args.root false c.requires.root in omega (arith, c.requires.grown)

pub loop-first-init : goal.loop-first-init
loop-first-init c =
    let within = slice_get_within c.args.grown.now c.args.root false c.requires.root in
    let put : IsPermutation ([] ++ map (ranked_of c.args.weights.now) (row_of c.args.rows.now c.args.root)) c.reach.new.waiting =
    subst (λ (xs : List Ranked). IsPermutation (xs ++ map (ranked_of c.args.weights.now) (row_of c.args.rows.now c.args.root)) c.reach.new.waiting) c.requires.waiting c.in_ok-reach.ensures.waiting
    in
    record {
      growing =
          subst (λ (grown : List Bool). IsGrowing c.args.edges.now c.args.weights.now grown c.args.witness.now c.reach.new.waiting c.args.root) (sym c.in_ok-reach.ensures.grown)
          (begins c.args.edges.now c.args.weights.now c.args.grown.now c.args.witness.now c.args.rows.now c.requires.rows c.args.root c.reach.new.waiting c.requires.before within c.requires.root put);
      stays = λ block on. subst (λ (grown : List Bool). IsGrown grown block) (sym c.in_ok-reach.ensures.grown) (stays_set c.args.grown.now c.args.root within block on);
      root = subst (λ (grown : List Bool). IsGrown grown c.args.root) (sym c.in_ok-reach.ensures.grown) (set_here c.args.grown.now c.args.root true within);
    }

pub take_in-requires-clause-number : goal.take_in-requires-clause-number
take_in-requires-clause-number c =
    let is = among_back c.loop-first.waiting (c.in-Some.first ∷ c.pop.new.self) c.in-Some.first c.in-Some.ensures.taken (inl refl) in
    (by_rank c.args.edges.now c.args.weights.now c.in-Some.first (c.loop-first.invariant.growing.items c.in-Some.first is)).0

pub loop-first-preserved : goal.loop-first-preserved
loop-first-preserved c =
    let is = among_back c.loop-first.waiting (c.in-Some.first ∷ c.pop.new.self) c.in-Some.first c.in-Some.ensures.taken (inl refl) in
    let rank = (by_rank c.args.edges.now c.args.weights.now c.in-Some.first (c.loop-first.invariant.growing.items c.in-Some.first is)).1 in
    let before = waited_before c.args.edges.now c.args.weights.now c.loop-first.grown c.loop-first.witness c.loop-first.waiting (c.in-Some.first ∷ c.pop.new.self) c.args.root
    c.in-Some.ensures.taken c.loop-first.invariant.growing in
    record {
      growing =
          c.in_ok-take_in.ensures.grows c.args.root
          (subst (λ (item : Ranked). IsGrowing c.args.edges.now c.args.weights.now c.loop-first.grown c.loop-first.witness (item ∷ c.pop.new.self) c.args.root) rank before)
          (subst (λ (item : Ranked). ComesFirst item c.pop.new.self) rank c.in-Some.ensures.first);
      stays = λ block on. c.in_ok-take_in.ensures.stays block (c.loop-first.invariant.stays block on);
      root = c.in_ok-take_in.ensures.stays c.args.root c.loop-first.invariant.root;
    }

pub loop-first-smaller : goal.loop-first-smaller
loop-first-smaller c =
    let longer = length_permutation c.loop-first.waiting (c.in-Some.first ∷ c.pop.new.self) c.in-Some.ensures.taken in
    omega (arith, longer, c.in_ok-take_in.ensures.left)

pub returns-clause-whole : goal.returns-clause-whole
returns-clause-whole c =
    none_waits c.args.edges.now c.args.weights.now c.loop-first.grown c.loop-first.witness c.args.root
    (subst (λ (waiting : List Ranked). IsGrowing c.args.edges.now c.args.weights.now c.loop-first.grown c.loop-first.witness waiting c.args.root) c.in_default.ensures.none c.loop-first.invariant.growing)

pub returns-clause-waiting : goal.returns-clause-waiting
returns-clause-waiting c = c.in_default.ensures.unchanged ∙ c.in_default.ensures.none
