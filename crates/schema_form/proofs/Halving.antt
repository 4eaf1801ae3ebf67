-- What the search of the first edge that closes a cycle knows of the edges, and the name that it gives.
use Rattle.std.proofs.Common.{◌≡◌, ℕ, ◌*◌, ◌^◌, ◌<◌, ◌≤◌, List, [], ◌∷◌, length, get_or, refl, sym, ap, ◌∙◌, subst, arith}
use Rattle.std.specs.List.{AllByRecursion}
use Rattle.std.proofs.lemmas.Option.{slice_get_read}
use Rattle.rv_code.specs.declared.extent.Extent.{Extent}
use Rattle.flow_graph.specs.declared.edge.Edge.{Edge}
use Rattle.flow_tree.proofs.LawsOfJoins.{joins_within}
use Rattle.schema_form.specs.declared.word.SchemaWord.{SchemaWord}
use Rattle.schema_form.specs.FreeEdges.{free_edges, HaveNoCycle, IsFirstToClose, NamesFirstToClose, edge_name}
use Rattle.schema_form.specs.Inner.Inners.{IsInner}
use Rattle.schema_form.specs.Valid.{AreStretches, AreSchemaWords}
use Rattle.schema_form.proofs.Below.{all_get_or}
use Rattle.schema_form.proofs.Halved.{no_edge}
use Rattle.schema_form.proofs.InnerEdges.{free_edges_inner, free_edges_few}

-- edges that have a cycle are some
pub some_edge : (edges : List Edge) → (HaveNoCycle edges → ⊥) → 0 < length edges
some_edge [] cycle = absurd (cycle (no_edge []))
some_edge (edge ∷ edges) cycle = omega arith

pub first_within : (edges : List Edge) (number : ℕ) → IsFirstToClose edges number → number < length edges
first_within edges number first = joins_within edges number first.closes.from first.closes.to first.closes.ends

module _ (edges : List Edge) (number : ℕ) (edge : Edge) (within : number < length edges) (is : edge ≡ get_or edges number edge) where
  -- the word of an inner edge lies low
  pub low_at : (count : ℕ) → AllByRecursion (IsInner count) edges → edge.from < 2 ^ 31
  low_at count all = subst (λ (e : Edge). e.from < 2 ^ 31) (sym is) (all_get_or (IsInner count) edges number edge within all).low

  pub names_first : (name : ℕ) → IsFirstToClose edges number → name ≡ edge_name edge → NamesFirstToClose edges name
  names_first name first named = record {
    number = number;
    edge = edge;
    there = slice_get_read edges (length edges) number edge refl within is;
    first = first;
    named = named;
  }

-- the edges of a schema's code words
module _ (stretches : List Extent) (words : List SchemaWord) (edges : List Edge) (same : edges ≡ free_edges stretches words) where
  pub edges_inner : (count : ℕ) → AreStretches stretches → AreSchemaWords stretches words → count ≡ length words → AllByRecursion (IsInner count) edges
  edges_inner count are fit long =
      subst (λ (list : List Edge). AllByRecursion (IsInner count) list) (sym same)
      (subst (λ (n : ℕ). AllByRecursion (IsInner n) (free_edges stretches words)) (sym (long ∙ fit.count)) (free_edges_inner stretches are words fit))

  pub edges_few : length edges ≤ 2 * length words
  edges_few = omega (arith, ap (length {A = Edge}) same, free_edges_few stretches words)
