-- The heights of nodes, found from the least number up.
use Rattle.std.proofs.Common.{◌≡◌, inl, inr, ℕ, ◌+◌, ◌<◌, List, [], ◌∷◌, ◌++◌, length, Some, refl, sym, ap, ◌∙◌, arith, length-append}
use Rattle.std.specs.Prelude.{slice_get}
use Rattle.std.proofs.lemmas.Bool.{cases_lt}
use Rattle.std.proofs.lemmas.Option.{same_Some, slice_get_within}
use Rattle.std.proofs.Math.ListN.{get_or-append}
use Rattle.std.proofs.Math.Seq.{get_or-append_seam}
use Rattle.regen_path.specs.declared.arcs.Ways.{Ways}
use Rattle.regen_path.specs.declared.growing.Link.{Link}
use Rattle.regen_path.specs.declared.growing.Link.TheVariants.{Root, Up, Down}
use Rattle.regen_path.specs.declared.growing.Visit.{Visit}
use Rattle.regen_path.specs.declared.heights.Span.{Span}
use Rattle.regen_path.specs.declared.heights.Heights.{Heights}
use Rattle.regen_path.specs.Inner.Growing.{parent_of, IsByDepth}
use Rattle.regen_path.specs.Inner.Heights.{AreHeights, span_at, no_heights, heights_at, heights_by}

-- as far up as this number
pub record HeightsTo (visits : List Visit) (lasts : List ℕ) (number : ℕ) (heights : List Heights) : Type 0 where
  pub long : length heights ≡ number
  pub each : (at : ℕ) (visit : Visit) → at < number → slice_get visits at ≡ Some visit → heights_at heights at ≡ heights_by (span_at lasts at) heights visit.link

pub heights_none : (visits : List Visit) (lasts : List ℕ) → HeightsTo visits lasts 0 []
heights_none visits lasts = record { long = refl; each = λ at visit less is. absurd (omega arith) }

still_by : (own : Span) (heights : List Heights) (more : Heights) (link : Link) → ((parent : ℕ) → parent_of link ≡ Some parent → parent < length heights) → heights_by own (heights ++ more ∷ []) link ≡ heights_by own heights link
still_by own heights more Root within = refl
still_by own heights more (Up parent) within = ap (λ (h : Heights). record { rise = h.rise; sink = own }) (get_or-append heights (more ∷ []) no_heights parent (within parent refl))
still_by own heights more (Down parent) within = ap (λ (h : Heights). record { rise = own; sink = h.sink }) (get_or-append heights (more ∷ []) no_heights parent (within parent refl))

pub heights_more : (table : List Ways) (visits : List Visit) → IsByDepth table visits → (lasts : List ℕ) (number : ℕ) (visit : Visit) (heights : List Heights) (more : Heights)
    → slice_get visits number ≡ Some visit → more ≡ heights_by (span_at lasts number) heights visit.link → HeightsTo visits lasts number heights → HeightsTo visits lasts (number + 1) (heights ++ more ∷ [])
heights_more table visits order lasts number visit heights more is more_is to = record {
  long = length-append heights (more ∷ []) ∙ ap (λ n. n + 1) to.long;
  each = λ at v less at_is. elim (cases_lt at number) [
    | inl earlier ↦
        get_or-append heights (more ∷ []) no_heights at (omega (arith, to.long))
        ∙ to.each at v earlier at_is
        ∙ sym (still_by (span_at lasts at) heights more v.link (λ parent hangs. let lower = order.lower at parent v at_is hangs in omega (arith, to.long)))
    | inr later ↦
        let equal : at ≡ number = omega arith in
        let same_visit : v ≡ visit = same_Some v visit (sym at_is ∙ ap (slice_get visits) equal ∙ is) in
        ap (heights_at (heights ++ more ∷ [])) (equal ∙ sym to.long)
        ∙ get_or-append_seam heights more [] no_heights
        ∙ more_is
        ∙ sym (still_by (span_at lasts number) heights more visit.link (λ parent hangs. let lower = order.lower number parent visit is hangs in omega (arith, to.long)))
        ∙ ap (λ (w : Visit). heights_by (span_at lasts number) (heights ++ more ∷ []) w.link) (sym same_visit)
        ∙ ap (λ (n : ℕ). heights_by (span_at lasts n) (heights ++ more ∷ []) v.link) (sym equal)
  ];
}

pub heights_all : (visits : List Visit) (lasts : List ℕ) (heights : List Heights) → HeightsTo visits lasts (length visits) heights → AreHeights visits lasts heights
heights_all visits lasts heights to = record { long = to.long; each = λ number visit is. to.each number visit (slice_get_within visits number visit is) is }

-- the parent of a node has its heights already
pub parent_within : (table : List Ways) (visits : List Visit) → IsByDepth table visits → (lasts : List ℕ) (number : ℕ) (visit : Visit) (heights : List Heights) → slice_get visits number ≡ Some visit
    → HeightsTo visits lasts number heights → (parent : ℕ) → parent_of visit.link ≡ Some parent → parent < length heights
parent_within table visits order lasts number visit heights is to parent hangs = let lower = order.lower number parent visit is hangs in omega (arith, to.long)
