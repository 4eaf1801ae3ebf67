-- The last of the numbers at and under each node, found from the greatest number down.
use Rattle.std.proofs.Common.{◌≡◌, ◌≢◌, inl, inr, ℕ, ◌+◌, ◌<◌, ◌≤◌, List, length, get_or, set, Some, None, sym, ap, ◌∙◌, subst, arith, get_or-set_other, get_or-set_same, length-set}
use Rattle.std.specs.Prelude.{slice_get}
use Rattle.std.proofs.lemmas.Bool.{cases_eq}
use Rattle.std.proofs.lemmas.Option.{none-some, same_Some, slice_get_within}
use Rattle.regen_path.specs.declared.arcs.Ways.{Ways}
use Rattle.regen_path.specs.declared.growing.Visit.{Visit}
use Rattle.regen_path.specs.Inner.Growing.{IsAbove, same, under, parent_of, IsByDepth}
use Rattle.regen_path.specs.Inner.Heights.{AreLasts, LastsFrom}
use Rattle.regen_path.proofs.Above.{above_on}

pub lasts_own : (visits : List Visit) (lasts : List ℕ) → length lasts ≡ length visits → ((at : ℕ) → at < length visits → get_or lasts at 0 ≡ at) → LastsFrom visits (length visits) lasts
lasts_own visits lasts long own = record {
  long = long;
  under = λ number within. subst (IsAbove visits number) (sym (own number within)) same;
  most = λ number parent visit least is hangs. let within = slice_get_within visits number visit is in absurd (omega arith);
}

module _ (table : List Ways) (visits : List Visit) (order : IsByDepth table visits) (number : ℕ) (visit : Visit) (is : slice_get visits number ≡ Some visit) (lasts : List ℕ) (from : LastsFrom visits (number + 1) lasts) where
  pub lasts_root : parent_of visit.link ≡ None → LastsFrom visits number lasts
  lasts_root none = record {
    long = from.long;
    under = from.under;
    most = λ other parent v least at hangs. elim (cases_eq other number) [
      | inl equal ↦
          let same_visit : v ≡ visit = same_Some v visit (sym at ∙ ap (slice_get visits) equal ∙ is) in
          absurd (none-some parent (sym none ∙ ap (λ (w : Visit). parent_of w.link) (sym same_visit) ∙ hangs))
      | inr apart ↦ from.most other parent v (omega arith) at hangs
    ];
  }

  own_parent : (parent other found : ℕ) (v : Visit) → parent_of visit.link ≡ Some parent → other ≡ number → slice_get visits other ≡ Some v → parent_of v.link ≡ Some found → found ≡ parent
  own_parent parent other found v hangs equal at hung =
      let same_visit : v ≡ visit = same_Some v visit (sym at ∙ ap (slice_get visits) equal ∙ is) in
      same_Some found parent (sym hung ∙ ap (λ (w : Visit). parent_of w.link) same_visit ∙ hangs)

  pub lasts_kept : (parent : ℕ) → parent_of visit.link ≡ Some parent → get_or lasts number 0 ≤ get_or lasts parent 0 → LastsFrom visits number lasts
  lasts_kept parent hangs less = record {
    long = from.long;
    under = from.under;
    most = λ other found v least at hung. elim (cases_eq other number) [
      | inl equal ↦
          let parent_is = own_parent parent other found v hangs equal at hung in
          subst (λ (n : ℕ). get_or lasts n 0 ≤ get_or lasts found 0) (sym equal) (subst (λ (n : ℕ). get_or lasts number 0 ≤ get_or lasts n 0) (sym parent_is) less)
      | inr apart ↦ from.most other found v (omega arith) at hung
    ];
  }

  pub lasts_raised : (parent : ℕ) → parent_of visit.link ≡ Some parent → get_or lasts parent 0 < get_or lasts number 0 → LastsFrom visits number (set lasts parent (get_or lasts number 0))
  lasts_raised parent hangs less = record {
    long = length-set lasts parent (get_or lasts number 0) ∙ from.long;
    under = λ other inside. elim (cases_eq other parent) [
      | inl equal ↦
          let above : IsAbove visits parent (get_or lasts number 0) = above_on (under visit is hangs same) (from.under number within) in
          subst (λ (n : ℕ). IsAbove visits n (get_or (set lasts parent (get_or lasts number 0)) n 0)) (sym equal) (subst (IsAbove visits parent) (sym here_now) above)
      | inr apart ↦ subst (IsAbove visits other) (sym (elsewhere other apart)) (from.under other inside)
    ];
    most = λ other found v least at hung.
        let other_apart : other ≢ parent = λ equal. omega (arith, lower) in
        let reads = elsewhere other other_apart in
        elim (cases_eq other number) [
          | inl equal ↦
              let parent_is = own_parent parent other found v hangs equal at hung in
              let now : get_or (set lasts parent (get_or lasts number 0)) found 0 ≡ get_or lasts number 0 = ap (λ (n : ℕ). get_or (set lasts parent (get_or lasts number 0)) n 0) parent_is ∙ here_now in
              let mine : get_or lasts other 0 ≡ get_or lasts number 0 = ap (λ (n : ℕ). get_or lasts n 0) equal in
              omega (arith, reads, now, mine)
          | inr apart ↦
              let old = from.most other found v (omega arith) at hung in
              elim (cases_eq found parent) [
                | inl equal ↦
                    let now : get_or (set lasts parent (get_or lasts number 0)) found 0 ≡ get_or lasts number 0 = ap (λ (n : ℕ). get_or (set lasts parent (get_or lasts number 0)) n 0) equal ∙ here_now in
                    let was : get_or lasts found 0 ≡ get_or lasts parent 0 = ap (λ (n : ℕ). get_or lasts n 0) equal in
                    omega (arith, reads, now, was, old)
                | inr differ ↦ let now = elsewhere found differ in omega (arith, reads, now, old)
              ]
        ];
  }
    where
      within : number < length visits
      within = slice_get_within visits number visit is

      lower : parent < number
      lower = order.lower number parent visit is hangs

      here_now : get_or (set lasts parent (get_or lasts number 0)) parent 0 ≡ get_or lasts number 0
      here_now = get_or-set_same lasts parent (get_or lasts number 0) 0 (omega (arith, within, lower, from.long))

      elsewhere : (other : ℕ) → other ≢ parent → get_or (set lasts parent (get_or lasts number 0)) other 0 ≡ get_or lasts other 0
      elsewhere other apart = get_or-set_other lasts parent other (get_or lasts number 0) 0 apart

pub lasts_all : (visits : List Visit) (lasts : List ℕ) → LastsFrom visits 0 lasts → AreLasts visits lasts
lasts_all visits lasts from = record {
  long = from.long;
  under = from.under;
  most = λ number parent visit is hangs. from.most number parent visit (omega arith) is hangs;
}
