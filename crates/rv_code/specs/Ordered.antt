-- Lists in the order of a number of each element.
use Rattle.std.specs.Prelude.{ℕ, List, [], ◌∷◌, if◌then◌else◌, nat_eq, nat_le}
use Rattle.std.specs.List.{dedup}

-- an element put before the first one whose number isn't below its own
abbrev pub put_in : {X : Type 0} → (X → ℕ) → X → List X → List X
put_in key x [] = x ∷ []
put_in key x (y ∷ ys) = if nat_le (key x) (key y) then x ∷ y ∷ ys else y ∷ put_in key x ys

-- the list in the order of its elements' numbers; elements with equal numbers stay as they stood
abbrev pub ordered : {X : Type 0} → (X → ℕ) → List X → List X
ordered key [] = []
ordered key (x ∷ xs) = put_in key x (ordered key xs)

-- the numbers in order, each once
abbrev pub rising : List ℕ → List ℕ
rising numbers = dedup nat_eq (ordered (λ n. n) numbers)
