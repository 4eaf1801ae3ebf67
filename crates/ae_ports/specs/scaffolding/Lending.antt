-- That a file is there has one proof, and what two calls keep of the files of a store, both keep.
use Rattle.std.specs.Prelude.{◌≡◌, ℕ, List, Option, None, Some, refl}
use Rattle.std.specs.Coded.{Unit-prop}
use Rattle.std.proofs.Common.{◌∙◌, sym, subst}
use mathlib.Core.Bool.{Bool-set}
use Rattle.ae_ports.specs.Files.{Files, IsThere, SameFiles, SameOthers}

-- that a file is there has one proof
pub IsThere-prop : (told : Option Files) (name : List ℕ) → IsProp (IsThere told name)
IsThere-prop None name = Unit-prop
IsThere-prop (Some files) name = Bool-set _ _

pub SameOthers-stays : (told : Option Files) (name : List ℕ) → SameOthers told told name
SameOthers-stays None name = tt
SameOthers-stays (Some files) name = λ other differs. refl

joins : (one two three : Option Files) (name : List ℕ) → SameOthers one two name → SameOthers two three name → SameOthers one three name
joins None None three name first second = second
joins None (Some two) three name first second = absurd first
joins (Some one) None three name first second = absurd first
joins (Some one) (Some two) None name first second = second
joins (Some one) (Some two) (Some three) name first second = λ other differs. second other differs ∙ first other differs

pub SameOthers-joins : (one two three : Option Files) (name name_now : List ℕ) → name ≡ name_now → SameOthers one two name → SameOthers two three name_now → SameOthers one three name
SameOthers-joins one two three name name_now named first second =
    let others : List ℕ → Type 0 = λ n. SameOthers two three n in
    joins one two three name first (subst others (sym named) second)

pub SameFiles-stays : (told : Option Files) → SameFiles told told
SameFiles-stays None = tt
SameFiles-stays (Some files) = λ name. refl

pub SameFiles-joins : (one two three : Option Files) → SameFiles one two → SameFiles two three → SameFiles one three
SameFiles-joins None None three first second = second
SameFiles-joins None (Some two) three first second = absurd first
SameFiles-joins (Some one) None three first second = absurd first
SameFiles-joins (Some one) (Some two) None first second = second
SameFiles-joins (Some one) (Some two) (Some three) first second = λ name. second name ∙ first name
