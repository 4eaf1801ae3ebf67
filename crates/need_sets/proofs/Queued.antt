-- Places that wait, and their marks.
use Rattle.std.proofs.Common.{◌≡◌, ℕ, ◌<◌, Bool, true, false, List, [], ◌∷◌, ◌++◌, length, get_or, set, sym, ap, subst, ◌∙◌, inl, inr, get_or-set_other, get_or-set_same, length-set}
use Rattle.std.specs.List.{Contains}
use Rattle.std.proofs.lemmas.Bool.{cases_eq}
use Rattle.need_sets.specs.Inner.Waiting.{AreMarked}
use Rattle.std.proofs.lemmas.List.Elements.{Contains-append_left, Contains-push, Contains-push_cases}

-- one more place
pub pushed_is_marked : (places : List ℕ) (marks : List Bool) (place : ℕ) → place < length marks → AreMarked places marks
    → AreMarked (places ++ place ∷ []) (set marks place true)
pushed_is_marked places marks place inside are = record {
  within = λ other here. elim (Contains-push_cases places place other here) [
    | inl before ↦ rw length-set (are.within other before)
    | inr same ↦ rw length-set (subst (λ n. n < length marks) same inside)
  ];
  marked = λ other mark. elim (cases_eq other place) [
    | inl same ↦ subst (λ n. Contains (places ++ place ∷ []) n) (sym same) (Contains-push places place)
    | inr apart ↦ Contains-append_left places (place ∷ []) other (are.marked other (sym (get_or-set_other marks place other true false (λ same. apart same)) ∙ mark))
  ];
}

-- one place less
pub popped_is_marked : (places : List ℕ) (marks : List Bool) (place : ℕ) → AreMarked (places ++ place ∷ []) marks
    → AreMarked places (set marks place false)
popped_is_marked places marks place are = record {
  within = λ other here. rw length-set (are.within other (Contains-append_left places (place ∷ []) other here));
  marked = λ other mark. elim (cases_eq other place) [
    | inl same ↦
        let clear : get_or (set marks place false) other false ≡ false =
        ap (λ n. get_or (set marks place false) n false) same ∙ get_or-set_same marks place false false (are.within place (Contains-push places place))
        in
        absurd (cc (sym mark ∙ clear))
    | inr apart ↦ elim (Contains-push_cases places place other (are.marked other (sym (get_or-set_other marks place other false false apart) ∙ mark))) [
      | inl before ↦ before
      | inr same ↦ absurd (apart (sym same))
    ]
  ];
}

pub popped_within : (places : List ℕ) (marks : List Bool) (place : ℕ) → AreMarked (places ++ place ∷ []) marks → place < length marks
popped_within places marks place are = are.within place (Contains-push places place)
