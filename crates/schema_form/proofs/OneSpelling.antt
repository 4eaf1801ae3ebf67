-- Bytes that aren't refused are the bytes of what they say.
use Rattle.std.proofs.Common.{◌≡◌, ℕ, zero, suc, ◌+◌, ◌/◌, ◌%◌, ◌<◌, ◌≤◌, List, [], ◌∷◌, ◌++◌, length, map, take, drop, get_or, refl, sym, ap, ◌∙◌, append_assoc, take-append-drop, arith}
use Rattle.std.specs.Prelude.{flat_map}
use Rattle.std.specs.List.{range_with_len}
use Rattle.std.proofs.lemmas.List.{drop-drop}
use Rattle.rv_code.specs.Numbers.{bytes_of, number_of}
use Rattle.schema_form.specs.Layout.{word_from, stretch_offset, stretch_from, word_offset, schema_word_from}
use Rattle.schema_form.specs.Spelling.{stretch_bytes, schema_word_bytes}
use Rattle.schema_form.proofs.Words.{four_bytes}

bytes_again : (a b c d : ℕ) → a < 256 → b < 256 → c < 256 → d < 256 → bytes_of 4 (number_of (a ∷ b ∷ c ∷ d ∷ [])) ≡ a ∷ b ∷ c ∷ d ∷ []
bytes_again a b c d one two three four =
    let n = number_of (a ∷ b ∷ c ∷ d ∷ []) in
    let first : n % 256 ≡ a = omega arith in
    let second : n / 256 % 256 ≡ b = omega arith in
    let third : n / 256 / 256 % 256 ≡ c = omega arith in
    let fourth : n / 256 / 256 / 256 % 256 ≡ d = omega arith in
    cc (first, second, third, fourth)

module _ (bytes : List ℕ) (small : (i : ℕ) → get_or bytes i 0 < 256) where
  -- the word at an offset is spelled there, before what follows
  pub word_spelled : (offset next : ℕ) → next ≡ offset + 4 → next ≤ length bytes → bytes_of 4 (word_from bytes offset) ++ drop next bytes ≡ drop offset bytes
  word_spelled offset next is whole =
      let four = four_bytes bytes offset (omega arith) in
      let same : bytes_of 4 (word_from bytes offset) ≡ take 4 (drop offset bytes) =
      ap (λ list. bytes_of 4 (number_of list)) four
      ∙ bytes_again (get_or bytes offset 0) (get_or bytes (offset + 1) 0) (get_or bytes (offset + 2) 0) (get_or bytes (offset + 3) 0)
      (small offset) (small (offset + 1)) (small (offset + 2)) (small (offset + 3))
      ∙ sym four in
      let behind : drop next bytes ≡ drop 4 (drop offset bytes) = ap (λ n. drop n bytes) is ∙ sym (drop-drop 4 offset bytes) in
      (λ i. same i ++ behind i) ∙ take-append-drop 4 (drop offset bytes)

  stretch_spelled : (number next : ℕ) → next ≡ stretch_offset number + 8 → next ≤ length bytes → stretch_bytes (stretch_from bytes number) ++ drop next bytes ≡ drop (stretch_offset number) bytes
  stretch_spelled number next is whole =
      append_assoc (bytes_of 4 (word_from bytes (stretch_offset number))) (bytes_of 4 (word_from bytes (stretch_offset number + 4))) (drop next bytes)
      ∙ ap (λ list. bytes_of 4 (word_from bytes (stretch_offset number)) ++ list) (word_spelled (stretch_offset number + 4) next (omega arith) whole)
      ∙ word_spelled (stretch_offset number) (stretch_offset number + 4) refl (omega arith)

  schema_word_spelled : (offset next : ℕ) → next ≡ offset + 12 → next ≤ length bytes → schema_word_bytes (schema_word_from bytes offset) ++ drop next bytes ≡ drop offset bytes
  schema_word_spelled offset next is whole =
      append_assoc (bytes_of 4 (word_from bytes offset) ++ bytes_of 4 (word_from bytes (offset + 4))) (bytes_of 4 (word_from bytes (offset + 8))) (drop next bytes)
      ∙ append_assoc (bytes_of 4 (word_from bytes offset)) (bytes_of 4 (word_from bytes (offset + 4))) (bytes_of 4 (word_from bytes (offset + 8)) ++ drop next bytes)
      ∙ ap (λ list. bytes_of 4 (word_from bytes offset) ++ (bytes_of 4 (word_from bytes (offset + 4)) ++ list)) (word_spelled (offset + 8) next (omega arith) whole)
      ∙ ap (λ list. bytes_of 4 (word_from bytes offset) ++ list) (word_spelled (offset + 4) (offset + 8) (omega arith) (omega arith))
      ∙ word_spelled offset (offset + 4) refl (omega arith)

  -- stretches from a number on are spelled at its offset
  pub stretches_spelled : (from count behind : ℕ) → behind ≡ from + count → stretch_offset behind ≤ length bytes
      → flat_map stretch_bytes (map (stretch_from bytes) (range_with_len from count)) ++ drop (stretch_offset behind) bytes ≡ drop (stretch_offset from) bytes
  stretches_spelled from zero behind is whole = let same : behind ≡ from = omega arith in ap (λ n. drop (stretch_offset n) bytes) same
  stretches_spelled from (suc count) behind is whole =
      append_assoc (stretch_bytes (stretch_from bytes from)) (flat_map stretch_bytes (map (stretch_from bytes) (range_with_len (from + 1) count))) (drop (stretch_offset behind) bytes)
      ∙ ap (λ list. stretch_bytes (stretch_from bytes from) ++ list) (stretches_spelled (from + 1) count behind (omega arith) whole)
      ∙ stretch_spelled from (stretch_offset (from + 1)) (omega arith) (omega arith)

  module _ (first : ℕ) where
    -- so are code words
    pub words_spelled : (from count behind : ℕ) → behind ≡ from + count → word_offset first behind ≤ length bytes
        → flat_map schema_word_bytes (map (λ place. schema_word_from bytes (word_offset first place)) (range_with_len from count)) ++ drop (word_offset first behind) bytes
        ≡ drop (word_offset first from) bytes
    words_spelled from zero behind is whole = let same : behind ≡ from = omega arith in ap (λ n. drop (word_offset first n) bytes) same
    words_spelled from (suc count) behind is whole =
        append_assoc (schema_word_bytes (schema_word_from bytes (word_offset first from)))
        (flat_map schema_word_bytes (map (λ place. schema_word_from bytes (word_offset first place)) (range_with_len (from + 1) count))) (drop (word_offset first behind) bytes)
        ∙ ap (λ list. schema_word_bytes (schema_word_from bytes (word_offset first from)) ++ list) (words_spelled (from + 1) count behind (omega arith) whole)
        ∙ schema_word_spelled (word_offset first from) (word_offset first (from + 1)) (omega arith) (omega arith)
