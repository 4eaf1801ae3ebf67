-- Edges that wait, by their ranks.
use Rattle.std.specs.Prelude.{◌≡◌, false, List}
use Rattle.std.specs.declared.cmp.Ordering.{Ordering}
use Rattle.std.specs.List.{AllByRecursion}
use Rattle.std.specs.Ordering.{is_lt, nat_cmp, ordering_then}
use Rattle.flow_tree.specs.declared.waiting.Ranked.{Ranked}

-- by weight, and of equal weights the lower number is the greater
abbrev pub rank_order : Ranked → Ranked → Ordering
rank_order one other = ordering_then (nat_cmp one.weight other.weight) (nat_cmp other.number.0 one.number.0)

-- no other is above this one
abbrev pub ComesFirst : Ranked → List Ranked → Type 0
ComesFirst first others = AllByRecursion (λ (other : Ranked). is_lt (rank_order first other) ≡ false) others
