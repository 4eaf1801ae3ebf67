-- The texts of the first of a list's items, and of one more.
use Rattle.std.proofs.Common.{◌≡◌, ℕ, ◌+◌, ◌<◌, ◌≤◌, List, [], ◌++◌, length, take, drop, get_or, sym, ap, ◌∙◌, take-append-drop}
use Rattle.std.proofs.lemmas.Grind.{flat_map-append}
use Rattle.std.proofs.lemmas.List.{take_more, take_all, flat_map_more}
use Rattle.std.specs.List.{flat_map}

module _ {T : Type 0} (text_of : T → List ℕ) (items : List T) where
  -- the texts of so many items
  abbrev pub texts_before : ℕ → List ℕ
  texts_before count = flat_map text_of (take count items)

  pub one_more_text : (count : ℕ) (none : T) → count < length items → texts_before count ++ text_of (get_or items count none) ≡ texts_before (count + 1)
  one_more_text count none inside =
      flat_map_more text_of [] (take count items) (get_or items count none) ∙ ap (flat_map text_of) (sym (take_more items count none inside))

  -- those of all items
  pub all_texts : (count : ℕ) → length items ≤ count → texts_before count ≡ flat_map text_of items
  all_texts count all = ap (flat_map text_of) (take_all count items all)

  -- and those of the rest
  abbrev pub texts_behind : ℕ → List ℕ
  texts_behind count = flat_map text_of (drop count items)

  pub texts_split : (count : ℕ) → texts_before count ++ texts_behind count ≡ flat_map text_of items
  texts_split count = sym (flat_map-append text_of (take count items) (drop count items)) ∙ ap (flat_map text_of) (take-append-drop count items)
