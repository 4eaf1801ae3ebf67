-- Reading a file of a store, where the store tells its files. A store that doesn't tell may give any bytes.
use Rattle.std.specs.Prelude.{◌≡◌, ℕ, ◌≤◌, List, length, take, ⊤, Option, MatchOption}
use Rattle.ae_ports.specs.Files.{Files}

-- the bytes are the first so many of the file of this name, or the whole file where it has fewer
abbrev pub IsRead : Option Files → List ℕ → ℕ → List ℕ → Type 0
IsRead told name size bytes = MatchOption told ⊤ (λ files. MatchOption (files name) ⊥ (λ all. bytes ≡ take size all))

-- the file of this name ends at this place or before it
abbrev pub EndsBy : Option Files → List ℕ → ℕ → Type 0
EndsBy told name place = MatchOption told ⊤ (λ files. MatchOption (files name) ⊥ (λ all. length all ≤ place))
