-- What an object over a file of a lent store keeps.
use Rattle.std.specs.Prelude.{◌≡◌, ℕ, List}

-- the same loan of a store whose rest is kept, the same name, and what is kept of the files
pub record SameLoan {N : Type 0} (lent lent_now : N) (store_rest : Type 0) (name name_now : List ℕ) (kept : Type 0) : Type 0 where
  pub loan : lent ≡ lent_now
  pub rest : store_rest
  pub named : name ≡ name_now
  pub files : kept
