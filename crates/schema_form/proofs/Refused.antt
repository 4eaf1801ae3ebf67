-- No bytes are refused in two ways, and none that say a schema.
use Rattle.std.proofs.Common.{◌≡◌, ℕ, List, length, sym, ap, subst, ◌∙◌, inl, inr}
use Rattle.std.specs.Prelude.{slice_get}
use Rattle.std.proofs.lemmas.Bool.{cases_order}
use Rattle.std.proofs.lemmas.Option.{same_Some, none-some, slice_get_within}
use Rattle.flow_graph.specs.declared.edge.Edge.{Edge}
use Rattle.schema_form.specs.declared.fault.SchemaFault.{SchemaFault}
use Rattle.schema_form.specs.declared.fault.SchemaFault.TheVariants.{NotAForest}
use Rattle.schema_form.specs.FreeEdges.{free_edges, HaveNoCycle, IsFirstToClose, NamesFirstToClose, edge_name}
use Rattle.schema_form.specs.SchemaParts.{SchemaParts}
use Rattle.schema_form.specs.Spells.{parts_from, Spells, RefusedBy, by_form, by_edges}
use Rattle.schema_form.proofs.Halved.{none_closes}

-- no edge is the first to close where there is no cycle
no_first : (edges : List Edge) (name : ℕ) → HaveNoCycle edges → NamesFirstToClose edges name → ⊥
no_first edges name forest names =
    none_closes edges (length edges) names.number forest (slice_get_within edges names.number names.edge names.there) names.first.closes

same_first : (edges : List Edge) (one other : ℕ) → IsFirstToClose edges one → IsFirstToClose edges other → one ≡ other
same_first edges one other first again = elim (cases_order one other) [
  | inl same ↦ same
  | inr apart ↦ elim apart [
    | inl less ↦ absurd (again.none_before one less first.closes)
    | inr more ↦ absurd (first.none_before other more again.closes)
  ]
]

same_name : (edges : List Edge) (one other : ℕ) → NamesFirstToClose edges one → NamesFirstToClose edges other → one ≡ other
same_name edges one other names again =
    let number = same_first edges names.number again.number names.first again.first in
    let edge : names.edge ≡ again.edge = same_Some names.edge again.edge (sym names.there ∙ ap (slice_get edges) number ∙ again.there) in
    names.named ∙ ap edge_name edge ∙ sym again.named

not_both : (bytes : List ℕ) (parts : SchemaParts) (fault : SchemaFault) → Spells bytes parts → RefusedBy bytes fault → ⊥
not_both bytes parts fault spells (by_form is) = none-some fault (sym spells.taken ∙ is)
not_both bytes parts fault spells (by_edges name none names same) =
    no_first (free_edges (parts_from bytes).stretches (parts_from bytes).words) name
    (subst (λ (p : SchemaParts). HaveNoCycle (free_edges p.stretches p.words)) spells.says spells.forest) names

only_one : (bytes : List ℕ) (one other : SchemaFault) → RefusedBy bytes one → RefusedBy bytes other → one ≡ other
only_one bytes one other (by_form is) (by_form again) = same_Some one other (sym is ∙ again)
only_one bytes one other (by_form is) (by_edges name none names same) = absurd (none-some one (sym none ∙ is))
only_one bytes one other (by_edges name none names same) (by_form is) = absurd (none-some other (sym none ∙ is))
only_one bytes one other (by_edges name none names same) (by_edges again none_too named same_too) =
    same ∙ ap NotAForest (same_name (free_edges (parts_from bytes).stretches (parts_from bytes).words) name again names named) ∙ sym same_too

pub refusals_exact : (bytes : List ℕ) (parts : SchemaParts) (one other : SchemaFault)
    → (Spells bytes parts → RefusedBy bytes one → ⊥) × (RefusedBy bytes one → RefusedBy bytes other → one ≡ other)
refusals_exact bytes parts one other = (not_both bytes parts one, only_one bytes one other)
