-- Addresses in room for as many as a block can be deep.
use Rattle.std.specs.Prelude.{ℕ, ◌||◌, List, [], ◌∷◌, ◌++◌, length, nat_eq, nat_le, if◌then◌else◌}
use Rattle.std.specs.Set.{is_member}
use Rattle.flow_tree.specs.declared.limit.TheConstants.{DEPTH_LIMIT}

-- the addresses, and one more, unless it is there or the room is full
abbrev pub with_head : List ℕ → ℕ → List ℕ
with_head heads head = if is_member nat_eq heads head || nat_le DEPTH_LIMIT (length heads) then heads else heads ++ head ∷ []
