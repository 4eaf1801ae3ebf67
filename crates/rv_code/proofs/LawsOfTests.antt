-- Laws of tests and of what may be there.
use Rattle.std.proofs.Common.{◌≡◌, ℕ, ◌<◌, Bool, true, false, Option, Some, None, is_some, refl, sym, arith}
use Rattle.std.specs.Prelude.{◌==◌}
use Rattle.std.proofs.lemmas.Bool.{eqb-false}

-- two tests of which each passes where the other does
pub same_answers : (one other : Bool) → (one ≡ true → other ≡ true) → (other ≡ true → one ≡ true) → one ≡ other
same_answers true other to from = sym (to refl)
same_answers false true to from = from refl
same_answers false false to from = refl

-- what is there, where something is
pub some_there : {X : Type 0} (found : Option X) → is_some found ≡ true → (x : X) × (found ≡ Some x)
some_there None is = absurd (cc is)
some_there (Some x) is = (x, refl)

pub none_there : {X : Type 0} (found : Option X) → is_some found ≡ false → found ≡ None
none_there None is = refl
none_there (Some x) is = absurd (cc is)

-- only one thing is found
pub same_found : {X : Type 0} (one other : X) (found : Option X) → found ≡ Some one → found ≡ Some other → one ≡ other
same_found one other found is is_too = cc (is, is_too)

-- a number that isn't 0
pub not_zero : (n : ℕ) → (n == 0) ≡ false → 0 < n
not_zero n is = let differ = eqb-false n 0 is in omega (arith, differ)
