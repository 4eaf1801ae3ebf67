use Rattle.std.proofs.Common.{inl, inr, ℕ, sym, subst, arith}
use Rattle.std.proofs.lemmas.Bool.{cases_eq}
use Rattle.regen_path.specs.Inner.Growing.{IsNumbered}
use Rattle.regen_path.proofs.growing.Growth.grow_all.Goals as goal

pub loop-node-preserved : goal.loop-node-preserved
loop-node-preserved c = record {
  whole = c.in_ok-grow_tree.ensures.whole;
  each = λ node less. elim (cases_eq node c.loop-node.node) [
    | inl equal ↦ subst (λ (n : ℕ). (number : ℕ) × IsNumbered c.grow_tree.new.self.numbers.items n number) (sym equal) c.in_ok-grow_tree.ensures.root
    | inr apart ↦
        let old = c.loop-node.invariant.each node (omega arith) in
        (old.0, c.in_ok-grow_tree.ensures.kept node old.0 old.1)
  ];
}
