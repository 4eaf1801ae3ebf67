-- More that is known: what one more mask changes, and what changes one behind the other.
use Rattle.std.proofs.Common.{◌≡◌, ℕ, zero, suc, ◌+◌, ◌^◌, ◌<◌, ◌≤◌, false, List, [], ◌∷◌, length, get_or, set, refl, sym, ap, subst, ◌∙◌, inl, inr, arith, get_or-set_other, get_or-set_same}
use Rattle.std.specs.Prelude.{◌⊎◌, bit_or}
use Rattle.std.specs.Int.{bit_at}
use Rattle.std.specs.List.{Contains}
use Rattle.std.proofs.lemmas.Bool.{cases_eq}
use Rattle.std.proofs.lemmas.Nat.{le_or_l}
use Rattle.std.proofs.lemmas.Nat.Bits.{bit_at-lt, bit_at_or}
use Rattle.need_sets.specs.declared.search.Search.{Search}
use Rattle.need_sets.specs.Inner.Search.{mask_in, slack, Spreads}

slack-set : (masks : List ℕ) (place mask : ℕ) → place < length masks → get_or masks place 0 < mask → mask ≤ 2 ^ 32 → slack (set masks place mask) + 1 ≤ slack masks
slack-set [] place mask inside more fits = absurd (omega arith)
slack-set (known ∷ masks) zero mask inside more fits = omega arith
slack-set (known ∷ masks) (suc place) mask inside more fits = omega (arith, slack-set masks place mask (omega arith) more fits)

-- what an or keeps
pub or_keeps : (known mask register : ℕ) → bit_at known register ≡ 1 → bit_at (bit_or known mask) register ≡ 1
or_keeps known mask register set = bit_at_or known mask register ∙ omega (arith, set, bit_at-lt mask register)

pub or_adds : (known mask register : ℕ) → bit_at mask register ≡ 1 → bit_at (bit_or known mask) register ≡ 1
or_adds known mask register set = bit_at_or known mask register ∙ omega (arith, set, bit_at-lt known register)

pub or_has : (known mask register : ℕ) → bit_at (bit_or known mask) register ≡ 1 → (bit_at known register ≡ 1) ⊎ (bit_at mask register ≡ 1)
or_has known mask register set = elim (cases_eq (bit_at known register) 1) [
  | inl here ↦ inl here
  | inr other ↦ inr (omega (arith, bit_at_or known mask register, set, bit_at-lt known register, bit_at-lt mask register))
]

-- one mask grows, and its place waits
pub need_spreads : (old new : Search) (place known mask : ℕ) → known ≡ mask_in old place → place < length old.masks.items
    → new.masks.items ≡ set old.masks.items place (bit_or known mask) → new.used.items ≡ old.used.items
    → (bit_or known mask ≡ known → ⊥) → bit_or known mask < 2 ^ 32
    → Contains new.waiting.places place → ((other : ℕ) → Contains old.waiting.places other → Contains new.waiting.places other)
    → length new.waiting.places ≤ length old.waiting.places + 1 → Spreads old new
need_spreads old new place known mask is inside masks_are used_are more fits added kept longer =
    let here : mask_in new place ≡ bit_or known mask =
    ap (λ masks. get_or masks place 0) masks_are ∙ get_or-set_same old.masks.items place (bit_or known mask) 0 inside
    in
    let other : (p : ℕ) → (p ≡ place → ⊥) → mask_in new p ≡ mask_in old p =
    λ p apart. ap (λ masks. get_or masks p 0) masks_are ∙ get_or-set_other old.masks.items place p (bit_or known mask) 0 apart
    in
    record {
      masks = λ p register set. elim (cases_eq p place) [
        | inl same ↦
            ap (λ n. bit_at n register) (ap (mask_in new) same ∙ here)
            ∙ or_keeps known mask register (ap (λ n. bit_at n register) (is ∙ ap (mask_in old) (sym same)) ∙ set)
        | inr apart ↦ ap (λ n. bit_at n register) (other p apart) ∙ set
      ];
      used = λ p set. ap (λ used. get_or used p false) used_are ∙ set;
      waiting = kept;
      changed = λ p. elim (cases_eq p place) [
        | inl same ↦ inr (subst (λ n. Contains new.waiting.places n) (sym same) added)
        | inr apart ↦ inl (other p apart)
      ];
      less =
          let grows : known < bit_or known mask = elim (cases_eq known (bit_or known mask)) [
            | inl same ↦ absurd (more (sym same))
            | inr apart ↦ omega (arith, le_or_l known mask)
          ] in
          let falls = slack-set old.masks.items place (bit_or known mask) inside (omega (arith, grows, is)) (omega arith) in
          omega (arith, falls, ap slack masks_are, longer);
    }

pub spreads_none : (search : Search) → Spreads search search
spreads_none search = record {
  masks = λ p register set. set;
  used = λ p set. set;
  waiting = λ p here. here;
  changed = λ p. inl refl;
  less = omega arith;
}

pub spreads_on : (old mid new : Search) → Spreads old mid → Spreads mid new → Spreads old new
spreads_on old mid new first second = record {
  masks = λ p register set. second.masks p register (first.masks p register set);
  used = λ p set. second.used p (first.used p set);
  waiting = λ p here. second.waiting p (first.waiting p here);
  changed = λ p. elim (second.changed p) [
    | inl same ↦ elim (first.changed p) [
      | inl before ↦ inl (same ∙ before)
      | inr waits ↦ inr (second.waiting p waits)
    ]
    | inr waits ↦ inr waits
  ];
  less = omega (arith, first.less, second.less);
}
