-- Nodes above others in trees that are numbered by depth.
use Rattle.std.proofs.Common.{◌≡◌, ◌⊎◌, inl, inr, ℕ, zero, suc, ◌+◌, ◌-◌, ◌<◌, ◌≤◌, List, Some, refl, sym, ap, ◌∙◌, subst, arith}
use Rattle.std.specs.Prelude.{slice_get}
use Rattle.std.proofs.lemmas.Option.{same_Some}
use Rattle.regen_path.specs.declared.arcs.Ways.{Ways}
use Rattle.regen_path.specs.declared.growing.Visit.{Visit}
use Rattle.regen_path.specs.Inner.Growing.{IsAbove, same, under, parent_of, IsByDepth}

pub above_wider : (visits more : List Visit) → ((at : ℕ) (visit : Visit) → slice_get visits at ≡ Some visit → slice_get more at ≡ Some visit) → {high low : ℕ} → IsAbove visits high low → IsAbove more high low
above_wider visits more wider same = same
above_wider visits more wider (under {low} visit is hangs rest) = under visit (wider low visit is) hangs (above_wider visits more wider rest)

module _ {visits : List Visit} where
  pub above_on : {top high low : ℕ} → IsAbove visits top high → IsAbove visits high low → IsAbove visits top low
  above_on first same = first
  above_on first (under visit is hangs rest) = under visit is hangs (above_on first rest)

  -- what is above a node is the node, or above its parent
  pub above_parent : {high low : ℕ} → IsAbove visits high low → (parent : ℕ) (visit : Visit) → slice_get visits low ≡ Some visit → parent_of visit.link ≡ Some parent → (high ≡ low) ⊎ IsAbove visits high parent
  above_parent same parent visit is hangs = inl refl
  above_parent {high} (under {low} {parent = found} other at hung rest) parent visit is hangs =
      let same_visit : other ≡ visit = same_Some other visit (sym at ∙ is) in
      let same_parent : found ≡ parent = same_Some found parent (sym hung ∙ ap (λ (v : Visit). parent_of v.link) same_visit ∙ hangs) in
      inr (subst (IsAbove visits high) same_parent rest)

  -- a node above another has a lower number
  pub above_less : {table : List Ways} → IsByDepth table visits → {high low : ℕ} → IsAbove visits high low → high ≤ low
  above_less order same = omega arith
  above_less order (under {low} {parent} visit is hangs rest) = let less = order.lower low parent visit is hangs in let more = above_less order rest in omega arith

  -- a node that is above another is above the node with the number before
  step_back : {table : List Ways} → IsByDepth table visits → {high low : ℕ} → IsAbove visits high low → high < low → IsAbove visits high (low - 1)
  step_back order same less = absurd (omega arith)
  step_back order (under {low} {parent} visit is hangs rest) less = above_on rest (order.after low parent visit is hangs)

  -- and so above all whose numbers lie between
  pub above_between : {table : List Ways} → IsByDepth table visits → (gap high mid low : ℕ) → low ≡ mid + gap → high ≤ mid → IsAbove visits high low → IsAbove visits high mid
  above_between order zero high mid low is less above = let equal : low ≡ mid = omega arith in subst (IsAbove visits high) equal above
  above_between order (suc gap) high mid low is less above =
      let back = step_back order above (omega arith) in
      above_between order gap high mid (low - 1) (omega arith) less back
