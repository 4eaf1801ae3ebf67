-- What bytes say is a schema, and they are its bytes.
use Rattle.std.proofs.Common.{◌≡◌, ℕ, zero, suc, ◌<◌, List, [], ◌∷◌, ◌++◌, length, take, drop, get_or, None, refl, sym, ap, subst, ◌∙◌, append_assoc, take-append-drop, arith}
use Rattle.std.specs.Prelude.{flat_map}
use Rattle.std.specs.List.{AllByRecursion}
use Rattle.std.proofs.lemmas.List.{drop_all, append-nil}
use Rattle.std.proofs.lemmas.List.FromFn.{length-map-range_with_len}
use Rattle.std.proofs.lemmas.Slice.Eq.{bytes_eq-Decides}
use Rattle.rv_code.specs.Numbers.{IsByte, bytes_of}
use Rattle.rv_code.proofs.LawsOfRows.{none_first, none_second}
use Rattle.schema_form.specs.FreeEdges.{free_edges, HaveNoCycle}
use Rattle.schema_form.specs.Inner.Heads.{AreHeadOf}
use Rattle.schema_form.specs.Layout.{stretch_count, stretch_offset, stretch_from, stretches_from, words_total, word_offset}
use Rattle.schema_form.specs.Refusal.{front_refusal, stretch_refusal, head_refusal, body_refusal, form_refusal}
use Rattle.schema_form.specs.SchemaParts.{SchemaParts}
use Rattle.schema_form.specs.Spelling.{schema_magic, stretch_bytes, schema_word_bytes, head_bytes, schema_bytes}
use Rattle.schema_form.specs.Spells.{parts_from, Spells}
use Rattle.schema_form.specs.Valid.{IsSchema}
use Rattle.schema_form.proofs.OneSpelling.{word_spelled, stretches_spelled, words_spelled}
use Rattle.schema_form.proofs.Says.{header_fits, are_head, words_fit, words_whole, end_fits, schema_is}

small_at : (bytes : List ℕ) → AllByRecursion IsByte bytes → (i : ℕ) → get_or bytes i 0 < 256
small_at [] all i = omega arith
small_at (byte ∷ bytes) all zero = omega (arith, all.0)
small_at (byte ∷ bytes) all (suc i) = small_at bytes all.1 i

module _ (bytes : List ℕ) (small : (i : ℕ) → get_or bytes i 0 < 256) (none : form_refusal bytes ≡ None) where
  abbrev parts : SchemaParts
  parts = parts_from bytes

  abbrev first : ℕ
  first = stretch_offset (stretch_count bytes)

  head_none : head_refusal bytes ≡ None
  head_none = none_first (head_refusal bytes) (body_refusal bytes (stretches_from bytes (stretch_count bytes)) (stretch_offset (stretch_count bytes))) none

  pub body : body_refusal bytes (stretches_from bytes (stretch_count bytes)) (stretch_offset (stretch_count bytes)) ≡ None
  body = none_second (head_refusal bytes) (body_refusal bytes (stretches_from bytes (stretch_count bytes)) (stretch_offset (stretch_count bytes))) none

  front_none : front_refusal bytes ≡ None
  front_none = none_first (front_refusal bytes) (stretch_refusal bytes (stretch_count bytes)) head_none

  rows_none : stretch_refusal bytes (stretch_count bytes) ≡ None
  rows_none = none_second (front_refusal bytes) (stretch_refusal bytes (stretch_count bytes)) head_none

  pub head : AreHeadOf bytes (stretches_from bytes (stretch_count bytes))
  head = are_head bytes (stretches_from bytes (stretch_count bytes)) front_none rows_none refl

  header_spelled : head_bytes parts ++ drop 12 bytes ≡ bytes
  header_spelled =
      let fits = header_fits bytes front_none in
      let whole = fits.whole in
      let count : length parts.stretches ≡ stretch_count bytes = length-map-range_with_len (stretch_from bytes) 0 (stretch_count bytes) in
      let magic : take 4 bytes ≡ schema_magic = (bytes_eq-Decides (take 4 bytes) schema_magic).0 fits.magic in
      append_assoc (schema_magic ++ bytes_of 4 parts.entry) (bytes_of 4 (length parts.stretches)) (drop 12 bytes)
      ∙ ap (λ n. (schema_magic ++ bytes_of 4 parts.entry) ++ (bytes_of 4 n ++ drop 12 bytes)) count
      ∙ ap (λ list. (schema_magic ++ bytes_of 4 parts.entry) ++ list) (word_spelled bytes small 8 12 refl whole)
      ∙ append_assoc schema_magic (bytes_of 4 parts.entry) (drop 8 bytes)
      ∙ ap (λ list. schema_magic ++ list) (word_spelled bytes small 4 8 refl (omega (arith, whole)))
      ∙ ap (λ list. list ++ drop 4 bytes) (sym magic)
      ∙ take-append-drop 4 bytes

  pub same_bytes : bytes ≡ schema_bytes parts
  same_bytes =
      let whole = words_whole bytes small (stretches_from bytes (stretch_count bytes)) first (words_fit bytes (stretches_from bytes (stretch_count bytes)) first body) head.whole
      (words_total (stretches_from bytes (stretch_count bytes))) (omega arith) in
      let last = end_fits bytes (stretches_from bytes (stretch_count bytes)) first body in
      let none_left : drop (word_offset first (words_total (stretches_from bytes (stretch_count bytes)))) bytes ≡ [] = drop_all _ bytes last in
      let words : flat_map schema_word_bytes parts.words ≡ drop first bytes =
      sym (append-nil (flat_map schema_word_bytes parts.words)) ∙ ap (λ list. flat_map schema_word_bytes parts.words ++ list) (sym none_left)
      ∙ words_spelled bytes small first 0 (words_total (stretches_from bytes (stretch_count bytes))) (words_total (stretches_from bytes (stretch_count bytes))) (omega arith) whole
      ∙ (let start : word_offset first 0 ≡ first = omega arith in ap (λ n. drop n bytes) start) in
      let rows : flat_map stretch_bytes parts.stretches ++ drop first bytes ≡ drop 12 bytes = stretches_spelled bytes small 0 (stretch_count bytes) (stretch_count bytes) (omega arith) head.whole in
      sym (append_assoc (head_bytes parts) (flat_map stretch_bytes parts.stretches) (flat_map schema_word_bytes parts.words)
      ∙ ap (λ list. head_bytes parts ++ (flat_map stretch_bytes parts.stretches ++ list)) words
      ∙ ap (λ list. head_bytes parts ++ list) rows
      ∙ header_spelled)

pub one_spelling : (bytes : List ℕ) (parts : SchemaParts) → AllByRecursion IsByte bytes → Spells bytes parts → IsSchema parts × (bytes ≡ schema_bytes parts)
one_spelling bytes parts all spells =
    let small = small_at bytes all in
    let is : IsSchema (parts_from bytes) = schema_is bytes (stretches_from bytes (stretch_count bytes)) small (head bytes small spells.taken) (body bytes small spells.taken) (forest_at spells.says spells.forest) in
    (subst IsSchema (sym spells.says) is, same_bytes bytes small spells.taken ∙ ap schema_bytes (sym spells.says))
  where
    forest_at : parts ≡ parts_from bytes → HaveNoCycle (free_edges parts.stretches parts.words) → HaveNoCycle (free_edges (parts_from bytes).stretches (parts_from bytes).words)
    forest_at says forest = subst (λ (p : SchemaParts). HaveNoCycle (free_edges p.stretches p.words)) says forest
