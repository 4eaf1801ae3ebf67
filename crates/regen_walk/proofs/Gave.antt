-- Items that a taker took one after the other, and a front of them.
use Rattle.std.proofs.Common.{inl, inr, List, [], ◌∷◌, ◌++◌, Result, Ok, Err, arith}
use Rattle.std.specs.Prelude.{OnOk, OnErr}
use Rattle.ae_ports.specs.declared.failed.Failed.{Failed}
use Rattle.ae_nums.specs.declared.item.Item.{Item}
use Rattle.ae_nums.specs.Taken.{TakesItem}
use Rattle.rv_machine.specs.Outcomes.{TookFront}

module _ (first second : Item) (took took_second took_both : List Item → Type 0) (join : (xs ys : List Item) → took xs → took_second ys → took_both (xs ++ ys)) (before : took (first ∷ [])) where
  pub all_of_two : (result : Result Unit Failed) → TakesItem took_second second result → OnOk result (took_both (first ∷ second ∷ []))
  all_of_two (Ok done) takes = join (first ∷ []) (second ∷ []) before takes
  all_of_two (Err failed) takes = tt

  pub front_of_two : (result : Result Unit Failed) → TakesItem took_second second result → OnErr result (TookFront took_both (first ∷ second ∷ []))
  front_of_two (Ok done) takes = tt
  front_of_two (Err failed) takes = elim takes [
    | inl none ↦ (1, omega arith, join (first ∷ []) [] before none)
    | inr one ↦ (2, omega arith, join (first ∷ []) (second ∷ []) before one)
  ]
