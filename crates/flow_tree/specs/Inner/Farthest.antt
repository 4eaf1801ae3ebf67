-- The farthest place from which an edge goes back to each head.
use Rattle.std.specs.Prelude.{◌≡◌, ℕ, Bool, true, false, ◌&&◌, List, Option, Some, None, max, nat_eq, nat_le, if◌then◌else◌}
use Rattle.std.specs.BTreeMap.{BTreeMap, get}
use Rattle.std.specs.Option.{option_map_or}
use Rattle.std.specs.Ordering.{nat_cmp}
use Rattle.std.specs.Set.{is_member}
use Rattle.flow_graph.specs.declared.edge.Edge.{Edge}
use Rattle.flow_graph.specs.CodeParts.{CodeParts}
use Rattle.flow_tree.specs.Depth.{heads_among}

-- the source, if there is one, is at this address or behind it
abbrev pub reaches : ℕ → Option ℕ → Bool
reaches address source = option_map_or (λ (source : ℕ). nat_le address source) source false

-- the farther of two sources, of which the first may be none
abbrev pub farther : Option ℕ → ℕ → ℕ
farther None source = source
farther (Some other) source = max other source

-- the map has this source of this head too
abbrev pub Widens : BTreeMap ℕ ℕ → (head source : ℕ) → BTreeMap ℕ ℕ → Type 0
Widens old head source new =
    (other : ℕ) → get nat_cmp new other ≡ (if nat_eq other head then Some (farther (get nat_cmp old head) source) else get nat_cmp old other)

-- By the sources of heads it is known which heads edges go back to past any address; no source is before its head.
pub record AreFarthest (parts : CodeParts) (edges : List Edge) (sources : BTreeMap ℕ ℕ) : Type 0 where
  pub reached : (address head : ℕ) → (nat_le head address && reaches address (get nat_cmp sources head)) ≡ is_member nat_eq (heads_among parts address edges) head
  pub forward : (head : ℕ) → option_map_or (λ (source : ℕ). nat_le head source) (get nat_cmp sources head) true ≡ true
