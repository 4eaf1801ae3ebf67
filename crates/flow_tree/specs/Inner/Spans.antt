-- Where loops begin and where they end, each in order.
use Rattle.std.specs.Prelude.{◌≡◌, ℕ, ◌+◌, ◌≤◌, count_by, nat_eq, nat_le, nat_lt}
use Rattle.std.specs.List.Sorted.{IsNonDecreasing}
use Rattle.std.specs.Set.{distinct_count}
use Rattle.flow_graph.specs.CodeParts.{CodeParts}
use Rattle.flow_graph.specs.Edges.{edges_of}
use Rattle.flow_tree.specs.declared.spans.Spans.{Spans}
use Rattle.flow_tree.specs.Depth.{heads_among}

-- how many begin at this address or before it
abbrev pub begun_by : Spans → (address : ℕ) → ℕ
begun_by spans address = count_by (λ head. nat_le head address) spans.heads.items

-- how many end before it
abbrev pub ended_before : Spans → (address : ℕ) → ℕ
ended_before spans address = count_by (λ end. nat_lt end address) spans.ends.items

pub record SpansAreInOrder (spans : Spans) : Type 0 where
  pub heads : IsNonDecreasing spans.heads.items
  pub ends : IsNonDecreasing spans.ends.items
  pub fewer : (address : ℕ) → ended_before spans address ≤ begun_by spans address

-- what has begun by an address and hasn't ended before it are as many as the heads to which edges go back past it
pub record AreSpans (parts : CodeParts) (spans : Spans) : Type 0 where
  pub order : SpansAreInOrder spans
  pub count : (address : ℕ) → ended_before spans address + distinct_count nat_eq (heads_among parts address (edges_of parts)) ≡ begun_by spans address
