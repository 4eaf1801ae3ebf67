-- The lines of the first of a list's items, and of one more, where each line begins with its item's place.
use Rattle.std.proofs.Common.{◌≡◌, ℕ, ◌+◌, ◌<◌, ◌≤◌, List, ◌++◌, length, get_or, sym, ap, ◌∙◌, arith, zero-add}
use Rattle.std.proofs.lemmas.List.FromFn.{length-enumerate_from, get_or-enumerate_from}
use Rattle.std.specs.List.{enumerate_from}
use Rattle.ae_print.specs.Numbered.{numbered_lines}
use Rattle.ae_print.proofs.Joined.{texts_before, texts_behind, one_more_text, all_texts, texts_split}

module _ {T : Type 0} (line_of : ℕ → T → List ℕ) (items : List T) where
  abbrev line_at : ℕ × T → List ℕ
  line_at numbered = line_of numbered.0 numbered.1

  -- the lines of so many items
  abbrev pub lines_before : ℕ → List ℕ
  lines_before count = texts_before (λ numbered. line_of numbered.0 numbered.1) (enumerate_from 0 items) count

  pub one_more : (count : ℕ) (none : T) → count < length items → lines_before count ++ line_of count (get_or items count none) ≡ lines_before (count + 1)
  one_more count none inside =
      let all = enumerate_from 0 items in
      let here : get_or all count (0, none) ≡ (count, get_or items count none) =
      get_or-enumerate_from 0 items count (0, none) inside ∙ ap (λ (place : ℕ). (place, get_or items count none)) (zero-add count) in
      ap (λ (numbered : ℕ × T). lines_before count ++ line_at numbered) (sym here)
      ∙ one_more_text line_at all count (0, none) (omega (arith, length-enumerate_from 0 items, inside))

  -- those of all items
  pub all_before : (count : ℕ) → length items ≤ count → lines_before count ≡ numbered_lines line_of items
  all_before count all = all_texts line_at (enumerate_from 0 items) count (omega (arith, length-enumerate_from 0 items, all))

  -- and those of the rest
  abbrev pub lines_behind : ℕ → List ℕ
  lines_behind count = texts_behind (λ numbered. line_of numbered.0 numbered.1) (enumerate_from 0 items) count

  pub before_behind : (count : ℕ) → lines_before count ++ lines_behind count ≡ numbered_lines line_of items
  before_behind count = texts_split line_at (enumerate_from 0 items) count
