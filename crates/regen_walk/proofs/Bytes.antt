-- A byte among some from an address on.
use Rattle.std.proofs.Common.{◌≡◌, inl, inr, ℕ, zero, suc, ◌+◌, ◌-◌, ◌%◌, ◌^◌, ◌<◌, Bool, true, false, eqb, ltb, refl, sym, ap, ◌∙◌, arith}
use Rattle.std.specs.Prelude.{◌||◌}
use Rattle.std.specs.Cmp.{both_ways}
use Rattle.std.specs.List.{list_any}
use Rattle.std.proofs.lemmas.Bool.{eq-eqb, ltb-true, lt-ltb, cases_eq, ne_eqb}
use Rattle.rv_memory.specs.Memory.{span}

or_else : (b : Bool) {c : Bool} → c ≡ true → (b || c) ≡ true
or_else true is = refl
or_else false is = is

module _ (byte : ℕ) (small : byte < 2 ^ 32) where
  -- so many bytes behind an address stands the byte
  abbrev behind : (address : ℕ) → ℕ
  behind address = (byte + (2 ^ 32 - address)) % 2 ^ 32

  here : (address : ℕ) → address < 2 ^ 32 → address ≡ byte → behind address ≡ 0
  here address low is = omega (arith, low, small, is)

  further : (address : ℕ) → address < 2 ^ 32 → (address ≡ byte → ⊥) → behind address ≡ behind ((address + 1) % 2 ^ 32) + 1
  further address low apart = omega (arith, low, small, apart)

  there : (size address : ℕ) → address < 2 ^ 32 → behind address < size → list_any (λ touched. eqb touched byte) (span address size) ≡ true
  there zero address low less = absurd (omega (arith, less))
  there (suc size) address low less = elim (cases_eq address byte) [
    | inl is ↦ ap (λ b. b || list_any (λ touched. eqb touched byte) (span ((address + 1) % 2 ^ 32) size)) (eq-eqb address byte is)
    | inr apart ↦
        let next = further address low apart in
        or_else (eqb address byte) (there size ((address + 1) % 2 ^ 32) (omega arith) (omega (arith, next, less)))
  ]

  among : (size address : ℕ) → address < 2 ^ 32 → list_any (λ touched. eqb touched byte) (span address size) ≡ true → behind address < size
  among zero address low is = absurd (let clash : false ≡ true = is in cc)
  among (suc size) address low is = elim (cases_eq address byte) [
    | inl same ↦ let none = here address low same in omega (arith, none)
    | inr apart ↦
        let next = further address low apart in
        let later : list_any (λ touched. eqb touched byte) (span ((address + 1) % 2 ^ 32) size) ≡ true =
        ap (λ b. b || list_any (λ touched. eqb touched byte) (span ((address + 1) % 2 ^ 32) size)) (sym (ne_eqb _ _ apart)) ∙ is in
        let rest = among size ((address + 1) % 2 ^ 32) (omega arith) later in
        omega (arith, next, rest)
  ]

  -- so it is among them where it stands fewer behind
  pub is_among : (address size : ℕ) → address < 2 ^ 32 → ltb (behind address) size ≡ list_any (λ touched. eqb touched byte) (span address size)
  is_among address size low = both_ways _ _
      (λ is. there size address low (ltb-true (behind address) size is))
      (λ is. lt-ltb (behind address) size (among size address low is))
