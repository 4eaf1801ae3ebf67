use Rattle.std.proofs.Common.{◌≡◌, ℕ, [], length}
use Rattle.flow_tree.specs.Inner.Growing.{row_of}
use Rattle.flow_tree.proofs.rows.empty_rows.Given as goal

abbrev pub invariant-loop : goal.invariant-loop
invariant-loop l = record { count : length l.rows.items ≡ l.counter; empty : (block : ℕ) → row_of l.rows.items block ≡ [] }
