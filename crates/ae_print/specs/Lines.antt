-- Texts of lines, where it is said of each line what it has to say, and not which line it is.
use Rattle.std.specs.Prelude.{◌≡◌, ℕ, List, [], ◌∷◌, ◌++◌}

-- the lines of these items, in order, one behind the other
abbrev pub AreLines : (is_line : ℕ → List ℕ → Type 0) → (items text : List ℕ) → Type 0
AreLines is_line [] text = text ≡ []
AreLines is_line (item ∷ items) text = (line : List ℕ) × (rest : List ℕ) × is_line item line × AreLines is_line items rest × (text ≡ line ++ rest)

-- the lines of the first so many of these items, all or none of them too
pub record AreFirstLines (is_line : ℕ → List ℕ → Type 0) (items text : List ℕ) : Type 0 where
  pub first : List ℕ
  pub others : List ℕ
  pub are : first ++ others ≡ items
  pub lines : AreLines is_line first text
