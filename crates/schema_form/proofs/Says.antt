-- What bytes say that aren't refused is a schema.
use Rattle.std.proofs.Common.{◌≡◌, ℕ, zero, suc, ◌+◌, ◌<◌, ◌≤◌, ◌^◌, true, false, List, [], ◌∷◌, length, take, get_or, Some, None, Option, sym, ap, subst, ◌∙◌, arith}
use Rattle.std.specs.Prelude.{◌||◌, ◌==◌, not, nat_lt, slice_get}
use Rattle.std.specs.List.{find, range_with_len}
use Rattle.std.specs.Option.{option_map_or, option_or}
use Rattle.std.specs.Str.{bytes_eq}
use Rattle.std.proofs.lemmas.Bool.{or_parts, not-false, ltb-false}
use Rattle.std.proofs.lemmas.List.FromFn.{length-map-range_with_len}
use Rattle.std.proofs.lemmas.Option.{slice_get-get_or, same_Some, slice_get_within}
use Rattle.std.proofs.lemmas.List.FromFn.{get_or-map-range_with_len}
use Rattle.rv_code.specs.declared.extent.Extent.{Extent}
use Rattle.rv_code.specs.Code.{is_code}
use Rattle.rv_code.specs.Numbers.{IsWord, number_of}
use Rattle.rv_code.specs.Limits.{ranges_limit}
use Rattle.rv_code.specs.Places.{address_of}
use Rattle.rv_code.proofs.LawsOfRows.{none_left, none_mapped, none_first, none_second, each_fails}
use Rattle.rv_code.proofs.LawsOfTests.{not_zero}
use Rattle.schema_form.specs.declared.fault.SchemaFault.{SchemaFault}
use Rattle.schema_form.specs.declared.fault.SchemaFault.TheVariants.{NotSchema, BadEntry, TooLarge}
use Rattle.schema_form.specs.declared.limits.TheConstants.{SCHEMA_LIMIT}
use Rattle.schema_form.specs.declared.word.SchemaWord.{SchemaWord}
use Rattle.schema_form.specs.FreeEdges.{free_edges, HaveNoCycle}
use Rattle.schema_form.specs.Inner.Heads.{AreHeadOf}
use Rattle.schema_form.specs.Layout.{word_from, entry_from, stretch_count, stretch_offset, stretch_from, stretches_from, words_total, word_offset, schema_word_from, schema_words_from}
use Rattle.schema_form.specs.Refusal.{header_misfits, front_refusal, stretch_refusal, word_offends, word_refusal, end_refusal, body_refusal}
use Rattle.schema_form.specs.Rules.{word_misfits}
use Rattle.schema_form.specs.Spelling.{schema_magic}
use Rattle.schema_form.specs.Valid.{AreStretches, AreNumbersOfWord, AreSchemaWords, IsSchema}
use Rattle.schema_form.proofs.Heads.{are_stretches, are_whole}
use Rattle.schema_form.proofs.Rows.{all_map}
use Rattle.schema_form.proofs.Words.{four_bytes}

-- what is known of the header of bytes that aren't refused for it
pub record HeaderFits (bytes : List ℕ) : Type 0 where
  pub few : length bytes ≤ SCHEMA_LIMIT
  pub magic : bytes_eq (take 4 bytes) schema_magic ≡ true
  pub whole : 12 ≤ length bytes
  pub some : 0 < stretch_count bytes
  pub ranges : stretch_count bytes ≤ ranges_limit

pub header_fits : (bytes : List ℕ) → front_refusal bytes ≡ None → HeaderFits bytes
header_fits bytes none =
    let small = none_left (nat_lt SCHEMA_LIMIT (length bytes)) TooLarge _ none in
    let magic = none_left (not (bytes_eq (take 4 bytes) schema_magic)) NotSchema _ small.1 in
    let header = none_left (header_misfits bytes) (BadEntry 0) None magic.1 in
    let two = or_parts (nat_lt (length bytes) (stretch_offset 0) || (stretch_count bytes == 0)) (nat_lt ranges_limit (stretch_count bytes)) header.0 in
    let one = or_parts (nat_lt (length bytes) (stretch_offset 0)) (stretch_count bytes == 0) two.0 in
    record {
      few = ltb-false SCHEMA_LIMIT (length bytes) small.0;
      magic = not-false (bytes_eq (take 4 bytes) schema_magic) magic.0;
      whole = let whole = ltb-false (length bytes) (stretch_offset 0) one.0 in omega (arith, whole);
      some = not_zero (stretch_count bytes) one.1;
      ranges = ltb-false ranges_limit (stretch_count bytes) two.1;
    }

-- the stretches of bytes that aren't refused up to the last of them
pub are_head : (bytes : List ℕ) (stretches : List Extent) → front_refusal bytes ≡ None → stretch_refusal bytes (stretch_count bytes) ≡ None
    → stretches ≡ stretches_from bytes (stretch_count bytes) → AreHeadOf bytes stretches
are_head bytes stretches front none same =
    let fits = header_fits bytes front in
    record {
      taken = ap (λ (o : Option SchemaFault). option_or o (stretch_refusal bytes (stretch_count bytes))) front ∙ none;
      same = same;
      are = subst AreStretches (sym same) (are_stretches bytes (stretch_count bytes) none);
      whole = are_whole bytes (stretch_count bytes) fits.whole none;
      some = fits.some;
      few = fits.ranges;
    }

word_is : (a b c d : ℕ) → a < 256 → b < 256 → c < 256 → d < 256 → number_of (a ∷ b ∷ c ∷ d ∷ []) < 2 ^ 32
word_is a b c d one two three four = omega arith

module _ (bytes : List ℕ) (small : (i : ℕ) → get_or bytes i 0 < 256) where
  -- a word at an offset is one
  pub word_from-IsWord : (offset : ℕ) → offset + 4 ≤ length bytes → IsWord (word_from bytes offset)
  word_from-IsWord offset whole =
      subst (λ (list : List ℕ). number_of list < 2 ^ 32) (sym (four_bytes bytes offset whole))
      (word_is (get_or bytes offset 0) (get_or bytes (offset + 1) 0) (get_or bytes (offset + 2) 0) (get_or bytes (offset + 3) 0)
      (small offset) (small (offset + 1)) (small (offset + 2)) (small (offset + 3)))

  numbers_of_word : (offset : ℕ) → offset + 12 ≤ length bytes → AreNumbersOfWord (schema_word_from bytes offset)
  numbers_of_word offset whole = record {
    flags = word_from-IsWord offset (omega arith);
    raw = word_from-IsWord (offset + 4) (omega arith);
    mask = word_from-IsWord (offset + 8) (omega arith);
  }

  module _ (stretches : List Extent) (first : ℕ) (none : word_refusal bytes stretches first ≡ None) where
    fits_at : (place : ℕ) → place < words_total stretches → word_offends bytes stretches first place ≡ false
    fits_at place within =
        each_fails (word_offends bytes stretches first) (words_total stretches)
        (none_mapped (λ place. BadEntry (word_offset first place)) (find (word_offends bytes stretches first) (range_with_len 0 (words_total stretches))) none) place within

    whole_at : (place : ℕ) → place < words_total stretches → word_offset first place + 12 ≤ length bytes
    whole_at place within =
        let parts = or_parts (nat_lt (length bytes) (word_offset first place + 12)) _ (fits_at place within) in
        ltb-false (length bytes) (word_offset first place + 12) parts.0

    pub words_whole : first ≤ length bytes → (count : ℕ) → count ≤ words_total stretches → word_offset first count ≤ length bytes
    words_whole header zero within = omega arith
    words_whole header (suc count) within = let whole = whole_at count (omega arith) in omega (arith, whole)

    allowed_at : (place address : ℕ) → place < words_total stretches → address_of stretches place ≡ Some address
        → word_misfits stretches address (schema_word_from bytes (word_offset first place)) ≡ false
    allowed_at place address within is =
        let parts = or_parts (nat_lt (length bytes) (word_offset first place + 12)) _ (fits_at place within) in
        sym (ap (λ (o : Option ℕ). option_map_or (λ at. word_misfits stretches at (schema_word_from bytes (word_offset first place))) o true) is) ∙ parts.1

    word_there : (count place : ℕ) (word : SchemaWord) → slice_get (schema_words_from bytes first count) place ≡ Some word
        → (place < count) × (word ≡ schema_word_from bytes (word_offset first place))
    word_there count place word is =
        let row : ℕ → SchemaWord = λ place. schema_word_from bytes (word_offset first place) in
        let long = length-map-range_with_len row 0 count in
        let inside = slice_get_within (schema_words_from bytes first count) place word is in
        let within : place < count = omega (arith, long, inside) in
        let read = slice_get-get_or (schema_words_from bytes first count) place word inside in
        let there = get_or-map-range_with_len row 0 count place place word within (omega arith) in
        (within, same_Some word (row place) (sym is ∙ read ∙ ap (λ (w : SchemaWord). Some w) there))

    pub are_schema_words : AreSchemaWords stretches (schema_words_from bytes first (words_total stretches))
    are_schema_words = record {
      count = length-map-range_with_len (λ place. schema_word_from bytes (word_offset first place)) 0 (words_total stretches);
      numbers = all_map AreNumbersOfWord (λ place. schema_word_from bytes (word_offset first place)) 0 (words_total stretches)
          (λ place low high. numbers_of_word (word_offset first place) (whole_at place (omega arith)));
      each = λ place address word at is.
          let there = word_there (words_total stretches) place word is in
          subst (λ (w : SchemaWord). word_misfits stretches address w ≡ false) (sym there.1) (allowed_at place address there.0 at);
    }

-- the parts of body_refusal
pub entry_fits : (bytes : List ℕ) (stretches : List Extent) (first : ℕ) → body_refusal bytes stretches first ≡ None → is_code stretches (entry_from bytes) ≡ true
entry_fits bytes stretches first none = not-false (is_code stretches (entry_from bytes)) (none_left (not (is_code stretches (entry_from bytes))) (BadEntry 4) _ none).0

pub words_fit : (bytes : List ℕ) (stretches : List Extent) (first : ℕ) → body_refusal bytes stretches first ≡ None → word_refusal bytes stretches first ≡ None
words_fit bytes stretches first none =
    none_first (word_refusal bytes stretches first) (end_refusal bytes (word_offset first (words_total stretches)))
    (none_left (not (is_code stretches (entry_from bytes))) (BadEntry 4) _ none).1

pub end_fits : (bytes : List ℕ) (stretches : List Extent) (first : ℕ) → body_refusal bytes stretches first ≡ None → length bytes ≤ word_offset first (words_total stretches)
end_fits bytes stretches first none =
    let last = none_second (word_refusal bytes stretches first) (end_refusal bytes (word_offset first (words_total stretches)))
    (none_left (not (is_code stretches (entry_from bytes))) (BadEntry 4) _ none).1 in
    ltb-false (word_offset first (words_total stretches)) (length bytes) (none_left (nat_lt (word_offset first (words_total stretches)) (length bytes)) (BadEntry (word_offset first (words_total stretches))) None last).0

-- a schema of its parts
pub schema_is : (bytes : List ℕ) (stretches : List Extent) → ((i : ℕ) → get_or bytes i 0 < 256) → AreHeadOf bytes stretches
    → body_refusal bytes stretches (stretch_offset (stretch_count bytes)) ≡ None
    → HaveNoCycle (free_edges stretches (schema_words_from bytes (stretch_offset (stretch_count bytes)) (words_total stretches)))
    → IsSchema (record { entry = entry_from bytes; stretches = stretches; words = schema_words_from bytes (stretch_offset (stretch_count bytes)) (words_total stretches) })
schema_is bytes stretches small head none forest =
    let first = stretch_offset (stretch_count bytes) in
    let long : length stretches ≡ stretch_count bytes = ap (length {A = Extent}) head.same ∙ length-map-range_with_len (stretch_from bytes) 0 (stretch_count bytes) in
    record {
      some = let some = head.some in omega (arith, some, long);
      ranges = let few = head.few in omega (arith, few, long);
      stretches = head.are;
      entry = entry_fits bytes stretches first none;
      words = are_schema_words bytes small stretches first (words_fit bytes stretches first none);
      forest = forest;
    }
