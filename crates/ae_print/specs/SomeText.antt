-- What a sink got, where it is said which texts are meant and not which text it is.
use Rattle.std.specs.Prelude.{ℕ, List, Option}
use Rattle.ae_ports.specs.Content.{Appends, AppendsFront}

-- the bytes taken grow by such a text
abbrev pub AppendsSome : (is_text : List ℕ → Type 0) → (before now : Option (List ℕ)) → Type 0
AppendsSome is_text before now = (text : List ℕ) × is_text text × Appends before now text

-- the bytes taken grow by a front of such a text
abbrev pub AppendsFrontOfSome : (is_text : List ℕ → Type 0) → (before now : Option (List ℕ)) → Type 0
AppendsFrontOfSome is_text before now = (text : List ℕ) × is_text text × AppendsFront before now text
