use Rattle.std.proofs.Common.{◌≡◌, ℕ, Bool, true, false, List, length, replicate, sym, ap, ◌∙◌, subst, arith}
use Rattle.std.specs.declared.alloc.Global.{Global}
use Rattle.std.specs.declared.vec.Vec.{Vec}
use Rattle.flow_tree.specs.Inner.Growing.{HasGrown, IsSpanning}
use Rattle.flow_tree.proofs.Ends.{none_grown, all_grown}
use Rattle.flow_tree.proofs.RowsMade.{written_back}
use Rattle.flow_tree.proofs.growing.marks_off.Goals as goal

pub grow_forest-requires-clause-blocks : goal.grow_forest-requires-clause-blocks
grow_forest-requires-clause-blocks c = λ edge one other joined.
    let within = c.requires.blocks edge one other joined in
    omega (arith, within, c.in_ok-rows.ensures.count, ap (length {A = Vec ℕ Global}) c.deref.ensures.value)

pub grow_forest-requires-clause-before : goal.grow_forest-requires-clause-before
grow_forest-requires-clause-before c =
    let grown : c.deref_mut.result.now ≡ replicate c.args.blocks false = c.deref_mut.ensures.value ∙ c.in_ok-grown.ensures.items_if_clones_equal (λ y same. same) in
    let marks : c.deref_mut-2.result.now ≡ replicate (length c.args.edges.now) true = c.deref_mut-2.ensures.value ∙ c.in_ok-witness.ensures.items_if_clones_equal (λ y same. same) in
    subst (λ (g : List Bool). HasGrown c.args.edges.now c.args.weights.now g c.deref_mut-2.result.now) (sym grown)
    (subst (HasGrown c.args.edges.now c.args.weights.now (replicate c.args.blocks false)) (sym marks) (none_grown c.args.edges.now c.args.weights.now c.args.blocks (length c.args.edges.now)))

pub returns : goal.returns
returns c =
    let items : c.in_ok-witness.witness.items ≡ replicate (length c.args.edges.now) true = c.in_ok-witness.ensures.items_if_clones_equal (λ y same. same) in
    let same : length c.grow_forest.new.witness ≡ length c.in_ok-witness.witness.items = omega (arith, c.grow_forest.auto.witness, ap (length {A = Bool}) c.deref_mut-2.ensures.value) in
    let count : length c.grow_forest.new.witness ≡ length c.args.edges.now = omega (arith, same, c.in_ok-witness.ensures.len, c.deref_mut-2.ensures.len, ap (length {A = Bool}) c.deref_mut-2.ensures.value) in
    let len : c.in_ok-witness.witness.len ≡ length c.in_ok-witness.witness.items = omega (arith, c.deref_mut-2.ensures.len, ap (length {A = Bool}) c.deref_mut-2.ensures.value) in
    let rows : length c.deref.result.now ≡ c.args.blocks = ap (length {A = Vec ℕ Global}) c.deref.ensures.value ∙ c.in_ok-rows.ensures.count in
    subst (IsSpanning c.args.edges.now c.args.weights.now) (sym (written_back c.in_ok-witness.witness.items c.grow_forest.new.witness c.in_ok-witness.witness.len len same))
    (all_grown c.args.edges.now c.args.weights.now c.grow_forest.new.grown c.grow_forest.new.witness c.args.blocks c.in_ok-grow_forest.ensures.whole count
    (λ block within. c.in_ok-grow_forest.ensures.all block (omega (arith, within, rows))) c.requires.blocks)
