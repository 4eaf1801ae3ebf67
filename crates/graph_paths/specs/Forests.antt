-- Sets and lists of edges without a cycle, and the edges that are kept of a list so that no cycle is left.
use Rattle.std.specs.Prelude.{◌≡◌, ◌≢◌, ◌⊎◌, ℕ, ◌≤◌, ⊤, List, [], ◌∷◌}
use Rattle.graph_paths.specs.Paths.{Closes}

-- no edge of the set closes over the others of it
abbrev pub HasNoCycle : {E B : Type 0} → (joins : E → B → B → Type 0) → (set : E → Type 0) → Type 0
HasNoCycle {E} joins set = (edge : E) → set edge → Closes joins (λ other. set other × (other ≢ edge)) edge → ⊥

-- the edge is one of the list
abbrev pub IsAmong : {E : Type 0} → List E → E → Type 0
IsAmong [] edge = ⊥
IsAmong (first ∷ rest) edge = (edge ≡ first) ⊎ IsAmong rest edge

-- no edge of the list closes over those behind it
abbrev pub ClosesNone : {E B : Type 0} → (joins : E → B → B → Type 0) → List E → Type 0
ClosesNone joins [] = ⊤
ClosesNone joins (edge ∷ rest) = (Closes joins (IsAmong rest) edge → ⊥) × ClosesNone joins rest

-- no edge stands twice in the list
abbrev pub StandOnce : {E : Type 0} → List E → Type 0
StandOnce [] = ⊤
StandOnce (edge ∷ rest) = (IsAmong rest edge → ⊥) × StandOnce rest

-- a forest of a list's edges: no cycle, and no edge twice
pub record IsForest {E B : Type 0} (joins : E → B → B → Type 0) (list forest : List E) : Type 0 where
  pub within : (edge : E) → IsAmong forest edge → IsAmong list edge
  pub once : StandOnce forest
  pub no_cycle : HasNoCycle joins (IsAmong forest)

-- What is kept of a list: each edge but those that close over the edges behind them. In a list whose best edges stand last, that is a
-- forest of the best.
pub data Retains {E B : Type 0} (joins : E → B → B → Type 0) : List E → List E → Type 0 where
  none : Retains joins [] []
  dropped : {edge : E} {rest kept : List E} → Closes joins (IsAmong rest) edge → Retains joins rest kept → Retains joins (edge ∷ rest) kept
  chosen : {edge : E} {rest kept : List E} → (Closes joins (IsAmong rest) edge → ⊥) → Retains joins rest kept → Retains joins (edge ∷ rest) (edge ∷ kept)

-- these edges lead one after another from one place to another
abbrev pub Trail : {E B : Type 0} → (joins : E → B → B → Type 0) → List E → B → B → Type 0
Trail joins [] one two = one ≡ two
Trail {B = B} joins (edge ∷ rest) one two = (mid : B) × joins edge one mid × Trail joins rest mid two

-- A direction of the edges: where one leads from a place to another it joins the two, and it leads from one place to one place only.
pub record IsDirection {E B : Type 0} (joins leads : E → B → B → Type 0) : Type 0 where
  pub joined : (edge : E) (from to : B) → leads edge from to → joins edge from to
  pub one_way : (edge : E) (from to other other_to : B) → leads edge from to → leads edge other other_to → (from ≡ other) × (to ≡ other_to)

-- the best edges of the list stand last
abbrev pub BestLast : {E : Type 0} → (weight : E → ℕ) → List E → Type 0
BestLast weight [] = ⊤
BestLast {E} weight (edge ∷ rest) = ((other : E) → IsAmong rest other → weight edge ≤ weight other) × BestLast weight rest

-- Edges and places can be told apart, and the ends of an edge can be read, or there are none.
pub record IsReadable {E B : Type 0} (joins : E → B → B → Type 0) : Type 0 where
  pub same_edge : (one two : E) → (one ≡ two) ⊎ (one ≢ two)
  pub same_place : (one two : B) → (one ≡ two) ⊎ (one ≢ two)
  pub ends : (edge : E) → ((from : B) × (to : B) × joins edge from to) ⊎ ((from to : B) → joins edge from to → ⊥)
