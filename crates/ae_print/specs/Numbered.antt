-- The lines of a list's items, each of which begins with its item's place.
use Rattle.std.specs.Prelude.{ℕ, List}
use Rattle.std.specs.List.{flat_map, enumerate_from}

-- the lines of the items, in order; places are counted from 0
abbrev pub numbered_lines : {T : Type 0} → (line_of : ℕ → T → List ℕ) → List T → List ℕ
numbered_lines line_of items = flat_map (λ numbered. line_of numbered.0 numbered.1) (enumerate_from 0 items)
