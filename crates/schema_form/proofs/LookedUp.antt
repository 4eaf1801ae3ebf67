-- Look-ups that go over stretches one by one.
use Rattle.std.proofs.Common.{◌≡◌, ℕ, ◌+◌, ◌-◌, ◌*◌, ◌/◌, ◌%◌, ◌<◌, ◌≤◌, true, false, cond, List, ◌∷◌, length, take, drop, get_or, Some, sym, ap, ◌∙◌}
use Rattle.std.specs.Option.{option_map}
use Rattle.std.proofs.lemmas.Bool.{lt-ltb, le-ltb}
use Rattle.std.proofs.lemmas.List.{drop_more}
use Rattle.std.proofs.lemmas.List.Sums.{sum_by_more, sum_by-take-le}
use Rattle.rv_code.specs.declared.extent.Extent.{Extent}
use Rattle.rv_code.specs.Code.{is_word_of}
use Rattle.rv_code.specs.Places.{IsCodeExtent, address_of, place_of}
use Rattle.rv_code.proofs.LawsOfLookUps.{address_of-cons, place_of-cons}
use Rattle.schema_form.specs.Layout.{words_total}
use Rattle.schema_form.specs.Valid.{AreStretches}
use Rattle.schema_form.proofs.Below.{all_get_or}

module _ (items : List Extent) (index : ℕ) (item : Extent) (within : index < length items) (is : item ≡ get_or items index item) where
  dropped : drop index items ≡ item ∷ drop (index + 1) items
  dropped = drop_more items index item within ∙ ap (λ first. first ∷ drop (index + 1) items) (sym is)

  -- the words of one stretch more
  pub total_more : words_total (take (index + 1) items) ≡ words_total (take index items) + item.count
  total_more =
      sum_by_more (λ (stretch : Extent). stretch.count) items index item within ∙ ap (λ (stretch : Extent). words_total (take index items) + stretch.count) (sym is)

  pub total_less : words_total (take (index + 1) items) ≤ words_total items
  total_less = sum_by-take-le (λ (stretch : Extent). stretch.count) items (index + 1)

  pub address_here : (left : ℕ) → left < item.count → address_of (drop index items) left ≡ Some (item.start + 4 * left)
  address_here left less =
      ap (λ list. address_of list left) dropped
      ∙ address_of-cons item (drop (index + 1) items) left
      ∙ ap (λ t. cond t (Some (item.start + 4 * left)) (address_of (drop (index + 1) items) (left - item.count))) (lt-ltb left item.count less)

  pub address_later : (left : ℕ) → item.count ≤ left → address_of (drop index items) left ≡ address_of (drop (index + 1) items) (left - item.count)
  address_later left more =
      ap (λ list. address_of list left) dropped
      ∙ address_of-cons item (drop (index + 1) items) left
      ∙ ap (λ t. cond t (Some (item.start + 4 * left)) (address_of (drop (index + 1) items) (left - item.count))) (le-ltb left item.count more)

  pub place_here : (address : ℕ) → item.start % 4 ≡ 0 → is_word_of item address ≡ true → place_of (drop index items) address ≡ Some ((address - item.start) / 4)
  place_here address aligned here =
      ap (λ list. place_of list address) dropped
      ∙ place_of-cons item (drop (index + 1) items) address aligned
      ∙ ap (λ t. cond t (Some ((address - item.start) / 4)) (option_map (λ place. item.count + place) (place_of (drop (index + 1) items) address))) here

  pub place_later : (address : ℕ) → item.start % 4 ≡ 0 → is_word_of item address ≡ false
      → place_of (drop index items) address ≡ option_map (λ place. item.count + place) (place_of (drop (index + 1) items) address)
  place_later address aligned elsewhere =
      ap (λ list. place_of list address) dropped
      ∙ place_of-cons item (drop (index + 1) items) address aligned
      ∙ ap (λ t. cond t (Some ((address - item.start) / 4)) (option_map (λ place. item.count + place) (place_of (drop (index + 1) items) address))) elsewhere

-- a stretch starts at a multiple of 4
pub aligned_at : (items : List Extent) (index : ℕ) (item : Extent) → index < length items → item ≡ get_or items index item → AreStretches items → item.start % 4 ≡ 0
aligned_at items index item within is are =
    ap (λ (stretch : Extent). stretch.start % 4) is ∙ (all_get_or IsCodeExtent items index item within are.extents.each).aligned
