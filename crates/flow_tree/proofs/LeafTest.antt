-- Telling leaves.
use Rattle.std.proofs.Common.{◌≡◌, inl, inr, ℕ, ◌<◌, Bool, true, false, not, eqb, List, [], ◌∷◌, length, get_or, Some, refl, sym, ap, ◌∙◌, subst}
use Rattle.std.specs.Prelude.{MatchBool, ◌||◌, ◌==◌}
use Rattle.std.specs.List.{list_any}
use Rattle.std.proofs.lemmas.Bool.{cases_eq, eq-eqb, ne_eqb}
use Rattle.std.proofs.lemmas.Option.{slice_get-get_or, same_Some}
use Rattle.graph_paths.specs.Forests.{IsAmong}
use Rattle.flow_tree.specs.declared.cells.Cell.{Cell}
use Rattle.flow_tree.specs.Inner.Cells.{IsLeaf, IsSettled}
use Rattle.flow_tree.proofs.Leaves.{no_cell, same_cell}

any_among : (stays : List ℕ) (block : ℕ) → list_any (λ stay. stay == block) stays ≡ true → IsAmong stays block
any_among [] block is = absurd (let clash : false ≡ true = is in cc)
any_among (first ∷ rest) block is = elim (cases_eq first block) [
  | inl same ↦ inl (sym same)
  | inr differ ↦ inr (any_among rest block (sym (ap (λ (b : Bool). b || list_any (λ stay. stay == block) rest) (ne_eqb first block differ)) ∙ is))
]

among_any : (stays : List ℕ) (block : ℕ) → IsAmong stays block → list_any (λ stay. stay == block) stays ≡ true
among_any [] block is = absurd is
among_any (first ∷ rest) block (inl same) = ap (λ (b : Bool). b || list_any (λ stay. stay == block) rest) (eq-eqb first block (sym same))
among_any (first ∷ rest) block (inr behind) = elim (cases_eq first block) [
  | inl same ↦ ap (λ (b : Bool). b || list_any (λ stay. stay == block) rest) (eq-eqb first block same)
  | inr differ ↦ ap (λ (b : Bool). b || list_any (λ stay. stay == block) rest) (ne_eqb first block differ) ∙ among_any rest block behind
]

pub one_end_test : (cells : List Cell) (stays : List ℕ) (block : ℕ) (found : Bool) → block < length cells → (get_or cells block no_cell).count ≡ 1 → found ≡ list_any (λ stay. stay == block) stays
    → MatchBool (not found) (IsLeaf cells block × (IsAmong stays block → ⊥)) (IsSettled stays cells block)
one_end_test cells stays block true within one is = inl (any_among stays block (sym is))
one_end_test cells stays block false within one is = (
  (
    (get_or cells block no_cell).sum,
    slice_get-get_or cells block no_cell within
        ∙ ap (λ (cell : Cell). Some cell) (same_cell (get_or cells block no_cell).count (get_or cells block no_cell).sum 1 (get_or cells block no_cell).sum one refl),
  ),
  λ among. absurd (let clash : false ≡ true = is ∙ among_any stays block among in cc),
)

pub other_ends_test : (cells : List Cell) (stays : List ℕ) (block : ℕ) → block < length cells → ((get_or cells block no_cell).count ≡ 1 → ⊥)
    → MatchBool (eqb (get_or cells block no_cell).count 1) (IsLeaf cells block × (IsAmong stays block → ⊥)) (IsSettled stays cells block)
other_ends_test cells stays block within differ =
    subst (λ (b : Bool). MatchBool b (IsLeaf cells block × (IsAmong stays block → ⊥)) (IsSettled stays cells block)) (sym (ne_eqb (get_or cells block no_cell).count 1 differ))
    (inr (λ is.
    let same : get_or cells block no_cell ≡ record { count = 1; sum = is.0 } = same_Some (get_or cells block no_cell) (record { count = 1; sum = is.0 }) (sym (slice_get-get_or cells block no_cell within) ∙ is.1) in
    differ (ap (λ (cell : Cell). cell.count) same)))
