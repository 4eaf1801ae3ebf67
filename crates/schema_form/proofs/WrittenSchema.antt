-- The parts of a schema are found in its bytes, and none of them is refused.
use Rattle.std.proofs.Common.{◌≡◌, inl, inr, ℕ, zero, suc, ◌+◌, ◌-◌, ◌*◌, ◌%◌, ◌<◌, ◌≤◌, true, false, List, [], ◌∷◌, ◌++◌, length, map, take, Some, None, Option, refl, sym, ap, subst, ◌∙◌, append_assoc, arith}
use Rattle.std.specs.Prelude.{◌==◌, not, nat_lt, flat_map, slice_get, sum_by}
use Rattle.std.specs.List.{range_with_len}
use Rattle.std.specs.Option.{option_map, option_map_or, option_or}
use Rattle.std.proofs.lemmas.Bool.{or_from, and_left, and_right, not_from_true, le-ltb, lt-leb, ne_eqb, eq-eqb, cond-false, cases_lt}
use Rattle.std.proofs.lemmas.List.{length-append}
use Rattle.std.proofs.lemmas.List.FromFn.{take-map-range_with_len}
use Rattle.std.proofs.lemmas.List.Sums.{sum_by-take-le}
use Rattle.rv_code.specs.declared.extent.Extent.{Extent}
use Rattle.rv_code.specs.declared.limits.TheConstants.{WORDS_LIMIT}
use Rattle.rv_code.specs.Addresses.{stack_start}
use Rattle.rv_code.specs.Code.{extent_end, is_code}
use Rattle.rv_code.specs.Limits.{ranges_limit}
use Rattle.rv_code.specs.Numbers.{IsWord, bytes_of}
use Rattle.rv_code.specs.Places.{IsCodeExtent, ExtentsRise, code_addresses}
use Rattle.schema_form.specs.declared.fault.SchemaFault.{SchemaFault}
use Rattle.schema_form.specs.declared.fault.SchemaFault.TheVariants.{BadEntry, TooLarge}
use Rattle.schema_form.specs.declared.limits.TheConstants.{SCHEMA_LIMIT}
use Rattle.schema_form.specs.declared.word.SchemaWord.{SchemaWord}
use Rattle.schema_form.specs.Layout.{word_from, entry_from, stretch_count, stretch_offset, stretch_from, stretches_from, words_total, word_offset, schema_word_from, schema_words_from}
use Rattle.schema_form.specs.Refusal.{header_misfits, front_refusal, stretch_misfits, is_too_many, stretch_offends, stretch_fault, stretch_refusal, head_refusal, word_offends, word_refusal, end_refusal, body_refusal, form_refusal}
use Rattle.schema_form.specs.Rules.{word_misfits}
use Rattle.schema_form.specs.SchemaParts.{SchemaParts}
use Rattle.schema_form.specs.Spelling.{schema_magic, stretch_bytes, schema_word_bytes, head_bytes, schema_bytes}
use Rattle.schema_form.specs.Spells.{parts_from, Spells}
use Rattle.schema_form.specs.Valid.{EndsBelowStack, AreNumbersOfWord, IsSchema}
use Rattle.schema_form.proofs.InnerEdges.{words_total-code_addresses}
use Rattle.schema_form.proofs.ReadBack.{word_back, row_at, length-rows, rows_same, none_when}
use Rattle.schema_form.proofs.Below.{is_code_small}
use Rattle.schema_form.proofs.Heads.{StretchFits}
use Rattle.schema_form.proofs.Rows.{all_at}

-- an extent below the stack has words for numbers
extent_words : (stretch : Extent) → IsCodeExtent stretch → EndsBelowStack stretch → IsWord stretch.start × IsWord stretch.count
extent_words stretch is below = (omega arith, omega arith)

rise_at : (stretches : List Extent) (place : ℕ) (one next : Extent) → ExtentsRise stretches → slice_get stretches place ≡ Some one → slice_get stretches (suc place) ≡ Some next
    → extent_end one < next.start
rise_at [] place one next rise at after = absurd (cc at)
rise_at (stretch ∷ []) zero one next rise at after = absurd (cc after)
rise_at (stretch ∷ []) (suc place) one next rise at after = absurd (cc at)
rise_at (stretch ∷ other ∷ stretches) zero one next rise at after =
    let same : stretch ≡ one = cc at in
    let later : other ≡ next = cc after in
    subst (λ (s : Extent). extent_end s < next.start) same (subst (λ (s : Extent). extent_end stretch < s.start) later rise.0)
rise_at (stretch ∷ other ∷ stretches) (suc place) one next rise at after = rise_at (other ∷ stretches) place one next rise.1 at after

there : {X : Type 0} (xs : List X) (place : ℕ) → place < length xs → (x : X) × (slice_get xs place ≡ Some x)
there [] place within = absurd (omega arith)
there (x ∷ xs) zero within = (x, refl)
there (y ∷ xs) (suc place) within = there xs place (omega arith)

-- the front of a row of numbers
sum_front : (f : Extent → ℕ) (xs : List Extent) (count : ℕ) → count ≤ length xs → (g : ℕ → Extent) → map g (range_with_len 0 (length xs)) ≡ xs
    → sum_by f (map g (range_with_len 0 count)) ≤ sum_by f xs
sum_front f xs count within g all =
    let taken : take count xs ≡ map g (range_with_len 0 count) = ap (take count) (sym all) ∙ take-map-range_with_len g 0 (length xs) count within in
    let less = sum_by-take-le f xs count in
    subst (λ (list : List Extent). sum_by f list ≤ sum_by f xs) taken less

-- lists in other groups
rows_regroup : (h f r b l : List ℕ) → (h ++ (f ++ (r ++ b))) ++ l ≡ (h ++ f) ++ (r ++ (b ++ l))
rows_regroup h f r b l = append_assoc h (f ++ (r ++ b)) l ∙ ap (λ list. h ++ list) (append_assoc f (r ++ b) l ∙ ap (λ list. f ++ list) (append_assoc r b l)) ∙ sym (append_assoc h f (r ++ (b ++ l)))

head_regroup : (m e c r l : List ℕ) → ((m ++ e ++ c) ++ r) ++ l ≡ (m ++ e) ++ (c ++ (r ++ l))
head_regroup m e c r l = append_assoc (m ++ e ++ c) r l ∙ append_assoc (m ++ e) c (r ++ l)

-- a test of a stretch that fits
misfits_false : (bytes : List ℕ) (number : ℕ) → StretchFits bytes number → stretch_misfits bytes number ≡ false
misfits_false bytes number fits =
    or_from _ _
    (or_from _ _
    (or_from _ _
    (or_from _ _ (le-ltb (length bytes) (stretch_offset number + 8) fits.whole)
    (not_from_true _ (eq-eqb ((stretch_from bytes number).start % 4) 0 fits.aligned)))
    (ne_eqb (stretch_from bytes number).count 0 (λ none. let some = fits.some in absurd (omega (arith, some, none)))))
    (le-ltb stack_start (extent_end (stretch_from bytes number)) fits.below))
    (elim (cases_lt 0 number) [
      | inl later ↦ and_right (nat_lt 0 number) _ (lt-leb (stretch_from bytes number).start (extent_end (stretch_from bytes (number - 1))) (fits.behind later))
      | inr first ↦ and_left (nat_lt 0 number) _ (le-ltb 0 number first)
    ])

module _ (parts : SchemaParts) (is : IsSchema parts) where
  abbrev text : List ℕ
  text = schema_bytes parts

  abbrev rows : List ℕ
  rows = flat_map stretch_bytes parts.stretches

  abbrev last : List ℕ
  last = flat_map schema_word_bytes parts.words

  abbrev count : ℕ
  count = length parts.stretches

  abbrev first : ℕ
  first = stretch_offset count

  rows_long : length rows ≡ 8 * count
  rows_long = length-rows stretch_bytes 8 (λ stretch. refl) parts.stretches

  last_long : length last ≡ 12 * length parts.words
  last_long = length-rows schema_word_bytes 12 (λ word. refl) parts.words

  text_long : length text ≡ word_offset first (length parts.words)
  text_long =
      let all = length-append (head_bytes parts ++ rows) last in
      let front = length-append (head_bytes parts) rows in
      omega (arith, all, front, rows_long, last_long)

  entry_back : entry_from text ≡ parts.entry
  entry_back =
      ap (λ (bytes : List ℕ). word_from bytes 4) (head_regroup schema_magic (bytes_of 4 parts.entry) (bytes_of 4 count) rows last)
      ∙ word_back schema_magic parts.entry (bytes_of 4 count ++ (rows ++ last)) 4 refl (let low = is_code_small parts.stretches parts.entry is.stretches.below is.entry in omega (arith, low))

  count_back : stretch_count text ≡ count
  count_back =
      ap (λ (bytes : List ℕ). word_from bytes 8) (head_regroup schema_magic (bytes_of 4 parts.entry) (bytes_of 4 count) rows last)
      ∙ word_back (schema_magic ++ bytes_of 4 parts.entry) count (rows ++ last) 8 refl (let few = is.ranges in omega (arith, few))

  -- each stretch is what is said at its offset
  stretch_back : (number : ℕ) (stretch : Extent) → slice_get parts.stretches number ≡ Some stretch → stretch_from text number ≡ stretch
  stretch_back number stretch at =
      let row = row_at stretch_bytes 8 (λ s. refl) parts.stretches number stretch at in
      let small = extent_words stretch (all_at IsCodeExtent parts.stretches number stretch is.stretches.extents.each at) (all_at EndsBelowStack parts.stretches number stretch is.stretches.below at) in
      let regrouped : text ≡ (head_bytes parts ++ row.front) ++ (stretch_bytes stretch ++ (row.back ++ last)) =
      ap (λ list. (head_bytes parts ++ list) ++ last) row.split ∙ rows_regroup (head_bytes parts) row.front (stretch_bytes stretch) row.back last in
      let long = length-append (head_bytes parts) row.front in
      let front_long : length (head_bytes parts ++ row.front) ≡ stretch_offset number = let at_row = row.long in omega (arith, long, at_row) in
      let more = length-append (head_bytes parts ++ row.front) (bytes_of 4 stretch.start) in
      let next_long : length ((head_bytes parts ++ row.front) ++ bytes_of 4 stretch.start) ≡ stretch_offset number + 4 = omega (arith, more, front_long) in
      let start : word_from text (stretch_offset number) ≡ stretch.start =
      ap (λ (bytes : List ℕ). word_from bytes (stretch_offset number)) (regrouped ∙ ap (λ list. (head_bytes parts ++ row.front) ++ list) (append_assoc (bytes_of 4 stretch.start) (bytes_of 4 stretch.count) (row.back ++ last)))
      ∙ word_back (head_bytes parts ++ row.front) stretch.start (bytes_of 4 stretch.count ++ (row.back ++ last)) (stretch_offset number) front_long small.0 in
      let words : word_from text (stretch_offset number + 4) ≡ stretch.count =
      ap (λ (bytes : List ℕ). word_from bytes (stretch_offset number + 4))
      (regrouped ∙ ap (λ list. (head_bytes parts ++ row.front) ++ list) (append_assoc (bytes_of 4 stretch.start) (bytes_of 4 stretch.count) (row.back ++ last))
      ∙ sym (append_assoc (head_bytes parts ++ row.front) (bytes_of 4 stretch.start) (bytes_of 4 stretch.count ++ (row.back ++ last))))
      ∙ word_back ((head_bytes parts ++ row.front) ++ bytes_of 4 stretch.start) stretch.count (row.back ++ last) (stretch_offset number + 4) next_long small.1 in
      (λ i. record { start = start i; count = words i })

  stretches_back : stretches_from text count ≡ parts.stretches
  stretches_back = rows_same (stretch_from text) 0 parts.stretches (λ number stretch at. let here : 0 + number ≡ number = omega arith in ap (stretch_from text) here ∙ stretch_back number stretch at)

  word_small : (place : ℕ) (word : SchemaWord) → slice_get parts.words place ≡ Some word → AreNumbersOfWord word
  word_small place word at = all_at AreNumbersOfWord parts.words place word is.words.numbers at

  -- each code word is what is said at its offset
  schema_word_back : (place : ℕ) (word : SchemaWord) → slice_get parts.words place ≡ Some word → schema_word_from text (word_offset first place) ≡ word
  schema_word_back place word at =
      let row = row_at schema_word_bytes 12 (λ w. refl) parts.words place word at in
      let small = word_small place word at in
      let front : List ℕ = (head_bytes parts ++ rows) ++ row.front in
      let regrouped : text ≡ front ++ (schema_word_bytes word ++ row.back) =
      ap (λ list. (head_bytes parts ++ rows) ++ list) row.split ∙ sym (append_assoc (head_bytes parts ++ rows) row.front (schema_word_bytes word ++ row.back)) in
      let flat : text ≡ front ++ (bytes_of 4 word.flags ++ (bytes_of 4 word.raw ++ (bytes_of 4 word.mask ++ row.back))) =
      regrouped ∙ ap (λ list. front ++ list)
      (append_assoc (bytes_of 4 word.flags ++ bytes_of 4 word.raw) (bytes_of 4 word.mask) row.back ∙ append_assoc (bytes_of 4 word.flags) (bytes_of 4 word.raw) (bytes_of 4 word.mask ++ row.back)) in
      let head_long = length-append (head_bytes parts) rows in
      let long = length-append (head_bytes parts ++ rows) row.front in
      let front_long : length front ≡ word_offset first place = let at_row = row.long in omega (arith, long, head_long, rows_long, at_row) in
      let more = length-append front (bytes_of 4 word.flags) in
      let raw_long : length (front ++ bytes_of 4 word.flags) ≡ word_offset first place + 4 = omega (arith, more, front_long) in
      let most = length-append (front ++ bytes_of 4 word.flags) (bytes_of 4 word.raw) in
      let mask_long : length ((front ++ bytes_of 4 word.flags) ++ bytes_of 4 word.raw) ≡ word_offset first place + 8 = omega (arith, most, raw_long) in
      let at_raw : text ≡ (front ++ bytes_of 4 word.flags) ++ (bytes_of 4 word.raw ++ (bytes_of 4 word.mask ++ row.back)) =
      flat ∙ sym (append_assoc front (bytes_of 4 word.flags) (bytes_of 4 word.raw ++ (bytes_of 4 word.mask ++ row.back))) in
      let at_mask : text ≡ ((front ++ bytes_of 4 word.flags) ++ bytes_of 4 word.raw) ++ (bytes_of 4 word.mask ++ row.back) =
      at_raw ∙ sym (append_assoc (front ++ bytes_of 4 word.flags) (bytes_of 4 word.raw) (bytes_of 4 word.mask ++ row.back)) in
      let flags : word_from text (word_offset first place) ≡ word.flags =
      ap (λ (bytes : List ℕ). word_from bytes (word_offset first place)) flat
      ∙ word_back front word.flags (bytes_of 4 word.raw ++ (bytes_of 4 word.mask ++ row.back)) (word_offset first place) front_long small.flags in
      let raw : word_from text (word_offset first place + 4) ≡ word.raw =
      ap (λ (bytes : List ℕ). word_from bytes (word_offset first place + 4)) at_raw
      ∙ word_back (front ++ bytes_of 4 word.flags) word.raw (bytes_of 4 word.mask ++ row.back) (word_offset first place + 4) raw_long small.raw in
      let mask : word_from text (word_offset first place + 8) ≡ word.mask =
      ap (λ (bytes : List ℕ). word_from bytes (word_offset first place + 8)) at_mask
      ∙ word_back ((front ++ bytes_of 4 word.flags) ++ bytes_of 4 word.raw) word.mask row.back (word_offset first place + 8) mask_long small.mask in
      (λ i. record { flags = flags i; raw = raw i; mask = mask i })

  words_back : schema_words_from text first (length parts.words) ≡ parts.words
  words_back =
      rows_same (λ place. schema_word_from text (word_offset first place)) 0 parts.words
      (λ place word at. let here : 0 + place ≡ place = omega arith in ap (λ p. schema_word_from text (word_offset first p)) here ∙ schema_word_back place word at)

  says_parts : parts ≡ parts_from text
  says_parts =
      let stretches : parts.stretches ≡ stretches_from text (stretch_count text) = sym (ap (stretches_from text) count_back ∙ stretches_back) in
      let total : length parts.words ≡ words_total (stretches_from text (stretch_count text)) = is.words.count ∙ ap words_total stretches in
      let words : parts.words ≡ schema_words_from text (stretch_offset (stretch_count text)) (words_total (stretches_from text (stretch_count text))) =
      sym words_back ∙ (λ i. schema_words_from text (stretch_offset (sym count_back i)) (total i)) in
      (λ i. record { entry = sym entry_back i; stretches = stretches i; words = words i })

  front_taken : front_refusal text ≡ None
  front_taken =
      let small : length text ≤ SCHEMA_LIMIT = let few = is.ranges in let words = is.words.count in let total = is.stretches.few in omega (arith, few, words, total, text_long) in
      let whole : nat_lt (length text) (stretch_offset 0) ≡ false = le-ltb (length text) (stretch_offset 0) (omega (arith, text_long)) in
      let some : (stretch_count text == 0) ≡ false = ne_eqb (stretch_count text) 0 (λ none. let more = is.some in absurd (omega (arith, more, none, count_back))) in
      let few : nat_lt ranges_limit (stretch_count text) ≡ false = le-ltb ranges_limit (stretch_count text) (let few = is.ranges in omega (arith, few, count_back)) in
      cond-false (nat_lt SCHEMA_LIMIT (length text)) (Some TooLarge) _ (le-ltb SCHEMA_LIMIT (length text) small)
      ∙ cond-false (header_misfits text) (Some (BadEntry 0)) None (or_from _ _ (or_from _ _ whole some) few)

  fits_at : (number : ℕ) → number < count → StretchFits text number
  fits_at number within =
      let here = there parts.stretches number within in
      let same : here.0 ≡ stretch_from text number = sym (stretch_back number here.0 here.1) in
      let extent = all_at IsCodeExtent parts.stretches number here.0 is.stretches.extents.each here.1 in
      record {
        whole = omega (arith, text_long);
        aligned = subst (λ (s : Extent). s.start % 4 ≡ 0) same extent.aligned;
        some = subst (λ (s : Extent). 0 < s.count) same extent.some;
        below = subst EndsBelowStack same (all_at EndsBelowStack parts.stretches number here.0 is.stretches.below here.1);
        behind = λ later.
            let before = there parts.stretches (number - 1) (omega arith) in
            let back : before.0 ≡ stretch_from text (number - 1) = sym (stretch_back (number - 1) before.0 before.1) in
            let next : number ≡ suc (number - 1) = omega arith in
            let rises = rise_at parts.stretches (number - 1) before.0 here.0 is.stretches.extents.rise before.1 (ap (slice_get parts.stretches) (sym next) ∙ here.1) in
            subst (λ (s : Extent). extent_end s < (stretch_from text number).start) back (subst (λ (s : Extent). extent_end before.0 < s.start) same rises);
      }

  few_at : (number : ℕ) → number < count → is_too_many text number ≡ false
  few_at number within =
      let less = sum_front (λ (stretch : Extent). stretch.count) parts.stretches (number + 1) (omega arith) (stretch_from text) stretches_back in
      le-ltb WORDS_LIMIT (words_total (stretches_from text (number + 1))) (let few = is.stretches.few in omega (arith, few, less))

  stretches_taken : stretch_refusal text count ≡ None
  stretches_taken =
      ap (option_map (stretch_fault text)) (none_when (stretch_offends text) 0 count (λ number low high. or_from (stretch_misfits text number) (is_too_many text number) (misfits_false text number (fits_at number (omega arith))) (few_at number (omega arith))))

  word_taken : (place : ℕ) → place < words_total parts.stretches → word_offends text parts.stretches first place ≡ false
  word_taken place within =
      let word = there parts.words place (let words = is.words.count in omega (arith, words)) in
      let address = there (code_addresses parts.stretches) place (omega (arith, words_total-code_addresses parts.stretches)) in
      or_from (nat_lt (length text) (word_offset first place + 12)) _ (le-ltb (length text) (word_offset first place + 12) (let words = is.words.count in omega (arith, words, text_long)))
      (ap (λ (o : Option ℕ). option_map_or (λ at. word_misfits parts.stretches at (schema_word_from text (word_offset first place))) o true) address.1
      ∙ subst (λ (w : SchemaWord). word_misfits parts.stretches address.0 w ≡ false) (sym (schema_word_back place word.0 word.1)) (is.words.each place address.0 word.0 address.1 word.1))

  body_taken : body_refusal text parts.stretches first ≡ None
  body_taken =
      let entry : not (is_code parts.stretches (entry_from text)) ≡ false = not_from_true _ (ap (is_code parts.stretches) entry_back ∙ is.entry) in
      let words : word_refusal text parts.stretches first ≡ None =
      ap (option_map (λ place. BadEntry (word_offset first place))) (none_when (word_offends text parts.stretches first) 0 (words_total parts.stretches) (λ place low high. word_taken place (omega arith))) in
      cond-false (not (is_code parts.stretches (entry_from text))) (Some (BadEntry 4)) _ entry
      ∙ ap (λ (o : Option SchemaFault). option_or o (end_refusal text (word_offset first (words_total parts.stretches)))) words
      ∙ cond-false (nat_lt (word_offset first (words_total parts.stretches)) (length text)) (Some (BadEntry (word_offset first (words_total parts.stretches)))) None
      (le-ltb (word_offset first (words_total parts.stretches)) (length text) (let total = is.words.count in omega (arith, text_long, total)))

  form_taken : form_refusal text ≡ None
  form_taken =
      let head : head_refusal text ≡ None =
      ap (λ (o : Option SchemaFault). option_or o (stretch_refusal text (stretch_count text))) front_taken ∙ ap (stretch_refusal text) count_back ∙ stretches_taken in
      ap (λ (o : Option SchemaFault). option_or o (body_refusal text (stretches_from text (stretch_count text)) (stretch_offset (stretch_count text)))) head
      ∙ (λ i. body_refusal text ((ap (stretches_from text) count_back ∙ stretches_back) i) (stretch_offset (count_back i)))
      ∙ body_taken

  pub spelled : Spells (schema_bytes parts) parts
  spelled = record { taken = form_taken; says = says_parts; forest = is.forest }
