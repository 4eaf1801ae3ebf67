-- How many bytes are mapped below the tracer's, by the program headers and by the regions.
use Rattle.std.proofs.Common.{◌≡◌, ℕ, ◌+◌, Bool, cond, List, [], ◌∷◌, get_or, map, None, refl, sym, ap, ◌∙◌, inl, inr, arith}
use Rattle.std.specs.Prelude.{◌&&◌, nat_lt, sum, sum_by}
use Rattle.std.specs.List.{All, filter}
use Rattle.std.proofs.lemmas.Bool.{cases_Bool}
use Rattle.std.proofs.lemmas.List.Elements.{All-head, All-tail}
use Rattle.std.proofs.lemmas.List.Folds.{fold-map}
use Rattle.std.proofs.lemmas.List.Recursion.{is_sum_by}
use Rattle.std.proofs.lemmas.List.Sorted.{sum_by-IsPermutation}
use Rattle.std.proofs.lemmas.List.Sums.{sum_by-cons}
use Rattle.elf_raw.specs.declared.segment.RawSegment.{RawSegment}
use Rattle.elf_raw.specs.Refusal.{IsSound}
use Rattle.elf_raw.specs.Segments.{segments_of}
use Rattle.rv_code.specs.declared.image.Region.{Region}
use Rattle.rv_code.specs.Addresses.{tracer_start}
use Rattle.rv_code.specs.Image.{region_length, mapped_length}
use Rattle.rv_code.proofs.LawsOfLists.{ordered-IsPermutation}
use Rattle.elf_image.specs.Loads.{is_load, has_note, bad_program_header, region_of, regions_of}
use Rattle.elf_image.specs.Inner.Loaded.{is_mapped_load, loaded_length}
use Rattle.elf_image.proofs.RegionsKept.{whole_loads, region_length_is}

-- a sum over those that pass a test
abbrev sum_of : {X : Type 0} → (X → Bool) → (X → ℕ) → List X → ℕ
sum_of p f xs = sum_by (λ x. cond (p x) (f x) 0) xs

sum-filter : {X : Type 0} (p : X → Bool) (f : X → ℕ) (xs : List X) → sum (map f (filter p xs)) ≡ sum_of p f xs
sum-filter p f xs = is_sum_by (λ xs. sum (map f (filter p xs))) (λ x. cond (p x) (f x) 0) refl (step p f) xs
  where
    step : {X : Type 0} (p : X → Bool) (f : X → ℕ) (x : X) (xs : List X) → sum (map f (filter p (x ∷ xs))) ≡ cond (p x) (f x) 0 + sum (map f (filter p xs))
    step p f x xs = elim (cases_Bool (p x)) [
      | inl passes ↦ rw passes (sum_by-cons (λ n. n) (f x) (map f (filter p xs)))
      | inr fails ↦ rw fails (omega arith)
    ]

sums_agree : {X : Type 0} (f g : X → ℕ) (xs : List X) → All (λ x. f x ≡ g x) xs → sum_by f xs ≡ sum_by g xs
sums_agree f g [] agree = refl
sums_agree f g (x ∷ xs) agree =
    sum_by-cons f x xs
    ∙ (λ i. All-head (λ x. f x ≡ g x) x xs agree i + sums_agree f g xs (All-tail (λ x. f x ≡ g x) x xs agree) i)
    ∙ sym (sum_by-cons g x xs)

-- of two tests, one after the other
sum_of-filter : {X : Type 0} (p q : X → Bool) (f : X → ℕ) (xs : List X) → sum_of q f (filter p xs) ≡ sum_of (λ x. p x && q x) f xs
sum_of-filter p q f xs = is_sum_by (λ xs. sum_of q f (filter p xs)) (λ x. cond (p x && q x) (f x) 0) refl (step p q f) xs
  where
    step : {X : Type 0} (p q : X → Bool) (f : X → ℕ) (x : X) (xs : List X) → sum_of q f (filter p (x ∷ xs)) ≡ cond (p x && q x) (f x) 0 + sum_of q f (filter p xs)
    step p q f x xs = elim (cases_Bool (p x)) [
      | inl passes ↦ rw passes (sum_by-cons (λ x. cond (q x) (f x) 0) x (filter p xs))
      | inr fails ↦ rw fails (omega arith)
    ]

pub mapped_length_is : (bytes : List ℕ) → IsSound bytes → bad_program_header bytes ≡ None → mapped_length (regions_of bytes) ≡ loaded_length (segments_of bytes)
mapped_length_is bytes sound none =
    let loads = filter is_load (segments_of bytes) in
    let low : Region → Bool = λ region. nat_lt region.start tracer_start in
    let low_load : RawSegment → Bool = λ load. nat_lt load.vaddr tracer_start in
    let whole = whole_loads bytes sound none in
    sum-filter low region_length (regions_of bytes)
    ∙ sum_by-IsPermutation (λ region. cond (low region) (region_length region) 0) (map (region_of bytes) loads) (regions_of bytes)
    (ordered-IsPermutation (λ (region : Region). region.start) (map (region_of bytes) loads))
    ∙ fold-map (λ n (region : Region). n + cond (low region) (region_length region) 0) (region_of bytes) 0 loads
    ∙ sums_agree (λ load. cond (low_load load) (region_length (region_of bytes load)) 0) (λ load. cond (low_load load) load.memsz 0) loads
    (λ k d inside. ap (λ n. cond (low_load (get_or loads k d)) n 0) (region_length_is bytes (has_note (segments_of bytes)) (get_or loads k d) (whole k d inside)))
    ∙ sum_of-filter is_load low_load (λ load. load.memsz) (segments_of bytes)
    ∙ sym (sum-filter is_mapped_load (λ load. load.memsz) (segments_of bytes))
