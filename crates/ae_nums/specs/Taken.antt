-- What a call does to the items that a taker has taken. `took` says of a list of items that between two moments these
-- were taken, in order, and no others; a taker that doesn't tell may say so of every list.
use Rattle.std.specs.Prelude.{◌⊎◌, List, [], ◌∷◌, Result, MatchResult}
use Rattle.ae_ports.specs.declared.failed.Failed.{Failed}
use Rattle.ae_nums.specs.declared.item.Item.{Item}

-- A take took the item. After Failed it took the item or nothing.
abbrev pub TakesItem : (took : List Item → Type 0) → Item → Result Unit Failed → Type 0
TakesItem took item result = MatchResult result (λ _. took (item ∷ [])) (λ _. took [] ⊎ took (item ∷ []))
