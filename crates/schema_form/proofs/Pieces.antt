-- The bytes of the first of a list's items, and of one more.
use Rattle.std.proofs.Common.{◌≡◌, ℕ, ◌+◌, ◌<◌, ◌≤◌, List, [], ◌++◌, length, take, drop, get_or, sym, ap, ◌∙◌, take-append-drop}
use Rattle.std.proofs.lemmas.Grind.{flat_map-append}
use Rattle.std.proofs.lemmas.List.{take_more, take_all, flat_map_more}
use Rattle.std.specs.List.{flat_map}

module _ {T : Type 0} (bytes_by : T → List ℕ) (items : List T) where
  -- the bytes of so many items
  abbrev pub bytes_before : ℕ → List ℕ
  bytes_before count = flat_map bytes_by (take count items)

  -- and those of the rest
  abbrev pub bytes_behind : ℕ → List ℕ
  bytes_behind count = flat_map bytes_by (drop count items)

  pub one_item_more : (count : ℕ) (item : T) → count < length items → bytes_before count ++ bytes_by (get_or items count item) ≡ bytes_before (count + 1)
  one_item_more count item within =
      flat_map_more bytes_by [] (take count items) (get_or items count item) ∙ ap (flat_map bytes_by) (sym (take_more items count item within))

  pub all_items : (count : ℕ) → length items ≤ count → bytes_before count ≡ flat_map bytes_by items
  all_items count all = ap (flat_map bytes_by) (take_all count items all)

  pub items_split : (count : ℕ) → bytes_before count ++ bytes_behind count ≡ flat_map bytes_by items
  items_split count = sym (flat_map-append bytes_by (take count items) (drop count items)) ∙ ap (flat_map bytes_by) (take-append-drop count items)
