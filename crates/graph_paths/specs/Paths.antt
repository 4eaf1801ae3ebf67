-- Paths over the edges of a graph. What an edge joins is a parameter: `joins edge one other` says that the edge leads from one place
-- to another. Places are what edges join, as blocks or code words. An edge that leads out of the graph joins nothing.
use Rattle.std.specs.Prelude.{◌≡◌, ◌⊎◌}

-- a path from one place to another over edges that are allowed: none, or an edge and then a path
pub data Path {E B : Type 0} (joins : E → B → B → Type 0) (allowed : E → Type 0) : B → B → Type 0 where
  here : {place : B} → Path joins allowed place place
  over : {from mid to : B} (edge : E) → allowed edge → joins edge from mid → Path joins allowed mid to → Path joins allowed from to

-- an edge closes over others where a path over these joins its two ends
pub record Closes {E B : Type 0} (joins : E → B → B → Type 0) (allowed : E → Type 0) (edge : E) : Type 0 where
  pub from : B
  pub to : B
  pub ends : joins edge from to
  pub path : Path joins allowed from to

-- A relation that joins without direction: each edge joins the same two places only, both ways round.
pub record IsUndirected {E B : Type 0} (joins : E → B → B → Type 0) : Type 0 where
  pub turned : (edge : E) (one other : B) → joins edge one other → joins edge other one
  pub ends : (edge : E) (one other three four : B) → joins edge one other → joins edge three four → ((one ≡ three) × (other ≡ four)) ⊎ ((one ≡ four) × (other ≡ three))
