-- Laws of paths. They have no code, and proofs of every crate may cite them.
use Rattle.std.proofs.Common.{◌≡◌, ◌⊎◌, inl, inr, sym, subst}
use Rattle.graph_paths.specs.Paths.{Path, here, over, Closes, IsUndirected}

module _ {E B : Type 0} {joins : E → B → B → Type 0} {allowed : E → Type 0} where
  -- a path, and another from its end on
  pub Path-append : {one two three : B} → Path joins allowed one two → Path joins allowed two three → Path joins allowed one three
  Path-append here more = more
  Path-append (over edge is joined rest) more = over edge is joined (Path-append rest more)

  -- an edge alone is a path
  pub Path-edge : (edge : E) (one two : B) → allowed edge → joins edge one two → Path joins allowed one two
  Path-edge edge one two is joined = over edge is joined here

  -- a path over an undirected relation, from its end to its start
  pub Path-turned : IsUndirected joins → {one two : B} → Path joins allowed one two → Path joins allowed two one
  Path-turned undirected here = here
  Path-turned undirected (over {from} {mid} edge is joined rest) =
      Path-append (Path-turned undirected rest) (over edge is (undirected.turned edge from mid joined) here)

module _ {E B : Type 0} {joins : E → B → B → Type 0} {allowed more : E → Type 0} where
  -- where the ends of each edge are joined by a path over others, so are the ends of a path
  pub Path-instead : ((edge : E) (one two : B) → allowed edge → joins edge one two → Path joins more one two) → {one two : B} → Path joins allowed one two → Path joins more one two
  Path-instead instead here = here
  Path-instead instead (over {from} {mid} edge is joined rest) = Path-append (instead edge from mid is joined) (Path-instead instead rest)

  -- a path over some edges is one over more
  pub Path-wider : ((edge : E) → allowed edge → more edge) → {one two : B} → Path joins allowed one two → Path joins more one two
  Path-wider wider here = here
  Path-wider wider (over edge is joined rest) = over edge (wider edge is) joined (Path-wider wider rest)

  pub Closes-wider : ((edge : E) → allowed edge → more edge) → (edge : E) → Closes joins allowed edge → Closes joins more edge
  Closes-wider wider edge closes = record {
    from = closes.from;
    to = closes.to;
    ends = closes.ends;
    path = Path-wider wider closes.path;
  }

-- A path that goes over one edge more: over others to one end of the edge, and from its other end on.
pub record Through {E B : Type 0} (joins : E → B → B → Type 0) (allowed : E → Type 0) (edge : E) (one two : B) : Type 0 where
  pub from : B
  pub to : B
  pub ends : joins edge from to
  pub first : Path joins allowed one from
  pub last : Path joins allowed to two

pub Through-wider : {E B : Type 0} {joins : E → B → B → Type 0} {allowed more : E → Type 0} {edge : E} {one two : B} → ((other : E) → allowed other → more other) → Through joins allowed edge one two → Through joins more edge one two
Through-wider wider through = record {
  from = through.from;
  to = through.to;
  ends = through.ends;
  first = Path-wider wider through.first;
  last = Path-wider wider through.last;
}

module _ {E B : Type 0} {joins : E → B → B → Type 0} {allowed : E → Type 0} (undirected : IsUndirected joins) (edge : E) where
  before_through : (one mid two : B) (other : E) → allowed other → joins other one mid → Path joins allowed mid two ⊎ Through joins allowed edge mid two → Path joins allowed one two ⊎ Through joins allowed edge one two
  before_through one mid two other is joined (inl path) = inl (over other is joined path)
  before_through one mid two other is joined (inr through) = inr (record {
    from = through.from;
    to = through.to;
    ends = through.ends;
    first = over other is joined through.first;
    last = through.last;
  })

  -- the edge, and then a path that may go over it again
  after_edge : (one mid two : B) → joins edge one mid → Path joins allowed mid two ⊎ Through joins allowed edge mid two → Path joins allowed one two ⊎ Through joins allowed edge one two
  after_edge one mid two joined (inl path) = inr (record { from = one; to = mid; ends = joined; first = here; last = path })
  after_edge one mid two joined (inr through) = elim (undirected.ends edge one mid through.from through.to joined through.ends) [
    | inl same ↦ inr (record {
      from = one;
      to = mid;
      ends = joined;
      first = here;
      last = subst (λ (place : B). Path joins allowed place two) (sym same.1) through.last;
    })
    | inr turned ↦ inl (subst (λ (place : B). Path joins allowed place two) (sym turned.0) through.last)
  ]

  -- The exchange law: a path over some edges and one more is a path without it, or goes over it once.
  pub Path-through : {one two : B} → Path joins (λ other. (other ≡ edge) ⊎ allowed other) one two → Path joins allowed one two ⊎ Through joins allowed edge one two
  Path-through here = inl here
  Path-through {two = two} (over {from} {mid} other (inl is) joined rest) =
      after_edge from mid two (subst (λ (e : E). joins e from mid) is joined) (Path-through rest)
  Path-through {two = two} (over {from} {mid} other (inr is) joined rest) = before_through from mid two other is joined (Path-through rest)

module _ {E B : Type 0} {joins : E → B → B → Type 0} {allowed : E → Type 0} (undirected : IsUndirected joins) where
  -- what an edge closes over joins its ends, whichever is named first
  pub Closes-path : (edge : E) (one two : B) → joins edge one two → Closes joins allowed edge → Path joins allowed one two
  Closes-path edge one two joined closes = elim (undirected.ends edge one two closes.from closes.to joined closes.ends) [
    | inl same ↦
        subst (λ (place : B). Path joins allowed place two) (sym same.0) (subst (λ (place : B). Path joins allowed closes.from place) (sym same.1) closes.path)
    | inr turned ↦
        let back = Path-turned undirected closes.path in
        subst (λ (place : B). Path joins allowed place two) (sym turned.0) (subst (λ (place : B). Path joins allowed closes.to place) (sym turned.1) back)
  ]

  -- where an edge's ends are joined through another, it is this that closes over the two paths and the edge
  pub Closes-exchanged : (edge other : E) (one two : B) → allowed other → joins other one two → Through joins allowed edge one two → Closes joins allowed edge
  Closes-exchanged edge other one two is joined through = record {
    from = through.from;
    to = through.to;
    ends = through.ends;
    path = Path-append (Path-turned undirected through.first) (over other is joined (Path-turned undirected through.last));
  }
