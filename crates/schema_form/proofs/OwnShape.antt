-- The schema of code under marks has the shape of the code under these marks.
use Rattle.std.proofs.Common.{◌≡◌, inl, inr, ℕ, zero, suc, ◌+◌, ◌*◌, ◌%◌, ◌<◌, ◌≤◌, Bool, true, false, List, [], ◌∷◌, length, get_or, Option, Some, None, is_some, cond, refl, sym, ap, subst, ◌∙◌, arith}
use Rattle.std.specs.Prelude.{◌↔◌, ◌==◌, IfSome, IsTrue, nat_lt, position, slice_get}
use Rattle.std.specs.Int.{bit_at}
use Rattle.std.specs.List.{Contains, position_or_len}
use Rattle.std.specs.Option.{option_and_then, option_map, option_map_or}
use Rattle.std.proofs.lemmas.Bool.{or_cases, cases_Bool, cases_eq, cases_lt, eq-eqb, lt-ltb}
use Rattle.std.proofs.lemmas.Bool.Decides.{nat_tests}
use Rattle.std.proofs.lemmas.Nat.Bits.{bit_at_lowest}
use Rattle.std.proofs.lemmas.List.Sums.{fails_before_first}
use Rattle.std.proofs.lemmas.List.Elements.{Contains-append_left, Contains-append_right}
use Rattle.std.proofs.lemmas.Option.{slice_get_within, slice_get-get_or}
use Rattle.rv_code.specs.declared.class.Class.{Class}
use Rattle.rv_code.specs.declared.class.Class.TheVariants.{Plain, Load, Store, Branch, Jump, Indirect, Call, Stop}
use Rattle.rv_code.specs.declared.extent.Extent.{Extent}
use Rattle.rv_code.specs.declared.image.Range.{Range}
use Rattle.rv_code.specs.declared.instr.Instr.{Instr}
use Rattle.rv_code.specs.Code.{code_word, extents_of, is_code, is_word_of}
use Rattle.rv_code.specs.Parts.{class_of}
use Rattle.rv_code.specs.Places.{address_of, place_of, code_addresses, words_of}
use Rattle.rv_code.specs.Table.{meaning_of}
use Rattle.rv_code.specs.Ways.{way_to}
use Rattle.rv_code.proofs.LawsOfLookUps.{address_of-place_of, is_some-code_word}
use Rattle.rv_code.proofs.LawsOfPlaces.{is_word_of-Contains, length-code_addresses_of_ranges, is_code-aligned}
use Rattle.rv_code.proofs.LawsOfTests.{none_there}
use Rattle.flow_graph.specs.CodeParts.{CodeParts}
use Rattle.flow_graph.specs.Edges.{edges_of, is_taken_kind, way_among}
use Rattle.flow_graph.specs.Laws.{IsEdge}
use Rattle.flow_graph.proofs.LawsOfEdges.{edges_join}
use Rattle.need_sets.specs.Needed.{IsNeeded, IsHard}
use Rattle.need_sets.specs.Words.{class_at}
use Rattle.schema_form.specs.declared.flags.TheConstants.{KEPT}
use Rattle.schema_form.specs.declared.word.SchemaWord.{SchemaWord}
use Rattle.schema_form.specs.CodeShape.{RecordsValue, IsSlotOf, AreNeedsAt, SchemasFindTheirWords, SchemasHaveTheShape, ShapesOfCodeAreShapes}
use Rattle.schema_form.specs.Flags.{class_in, is_set}
use Rattle.schema_form.specs.LookUps.{but_x0, first_start, gives_value, is_indirect, schema_word_at, slot_by}
use Rattle.schema_form.specs.OfImage.{GivesKept, IsRecorded, IsSchemaOf, IsSchemaWordOf}
use Rattle.schema_form.specs.SchemaParts.{SchemaParts}
use Rattle.schema_form.proofs.LawsOfSchemaWords.{class_there, class_told, fall_told, taken_told, kept_told}
use Rattle.schema_form.proofs.OwnWords.{never_x0}
use Rattle.schema_form.proofs.Rows.{all_at}
use Rattle.ev_format.specs.declared.slot.Slot.{Slot}

-- the first word of an extent
first_word : (start count : ℕ) → 0 < count → Contains (words_of (record { start = start; count = count })) start
first_word start zero some = absurd (omega (arith, some))
first_word start (suc count) some = (0, omega arith, omega arith)

-- where the addresses that extents have are multiples of 4, each address of a code word is one of them
is_code-listed : (extents : List Extent) (address : ℕ) → ((word : ℕ) → Contains (code_addresses extents) word → word % 4 ≡ 0) → is_code extents address ≡ true
    → Contains (code_addresses extents) address
is_code-listed [] address aligned is = absurd (cc)
is_code-listed (extent ∷ extents) address aligned is = elim (or_cases (is_word_of extent address) (is_code extents address) is) [
  | inl here ↦
      let lies : (extent.start ≤ address) × (address < extent.start + 4 * extent.count) × (address % 4 ≡ 0) = grind (arith, nat_tests) in
      let begins = aligned extent.start (Contains-append_left (words_of extent) (code_addresses extents) extent.start (first_word extent.start extent.count (omega (arith, lies)))) in
      Contains-append_left (words_of extent) (code_addresses extents) address (is_word_of-Contains extent address begins here)
  | inr there ↦
      Contains-append_right (words_of extent) (code_addresses extents) address
      (is_code-listed extents address (λ word within. aligned word (Contains-append_right (words_of extent) (code_addresses extents) word within)) there)
]

-- an address that is listed has a place
not_found : (words : List ℕ) (address : ℕ) → position (λ word. word == address) words ≡ None → Contains words address → ⊥
not_found words address none (place, within, same) =
    elim (cases_lt place (position_or_len (λ word. word == address) words)) [
      | inl less ↦
          let clash : false ≡ true = sym (fails_before_first (λ word. word == address) words place address less) ∙ eq-eqb (get_or words place address) address same in
          cc clash
      | inr more ↦
          let below : nat_lt (position_or_len (λ word. word == address) words) (length words) ≡ true = lt-ltb _ _ (omega (arith, within, more)) in
          let clash : ◌≡◌ {A = Option ℕ} (Some (position_or_len (λ word. word == address) words)) None =
          sym (ap (λ t. cond t (Some (position_or_len (λ word. word == address) words)) None) below) ∙ none in
          cc clash
    ]

one_class : (one other : Class) (found : Option Class) → found ≡ Some one → found ≡ Some other → one ≡ other
one_class one other found is is_too = cc (is, is_too)

-- which classes have a value recorded
module _ (code : List Range) (address : ℕ) where
  hard_load : IsHard code address → class_at code address ≡ Some Load → GivesKept code address
  hard_load hard load = inr (load, hard)

  value_records : (class : Class) (kept : Bool) → class_at code address ≡ Some class → (IsTrue kept ↔ GivesKept code address)
      → IsTrue (gives_value kept class) → RecordsValue code address
  value_records Plain kept is tells now = absurd (cc)
  value_records Load kept is tells now = elim (tells.0 now) [
    | inl plain ↦ let clash : Load ≡ Plain = one_class Load Plain (class_at code address) is plain.0 in absurd (cc clash)
    | inr load ↦ inl load
  ]
  value_records Store kept is tells now = absurd (cc)
  value_records Branch kept is tells now = absurd (cc)
  value_records Jump kept is tells now = absurd (cc)
  value_records Indirect kept is tells now = absurd (cc)
  value_records Call kept is tells now = inr is
  value_records Stop kept is tells now = absurd (cc)

  records_value : (class : Class) (kept : Bool) → class_at code address ≡ Some class → (IsTrue kept ↔ GivesKept code address)
      → RecordsValue code address → IsTrue (gives_value kept class)
  records_value class kept is tells (inl load) =
      let same : Load ≡ class = one_class Load class (class_at code address) load.0 is in
      subst (λ c. IsTrue (gives_value kept c)) same (tells.1 (inr load))
  records_value class kept is tells (inr call) =
      let same : Call ≡ class = one_class Call class (class_at code address) call is in
      subst (λ c. IsTrue (gives_value kept c)) same refl

  lands : (class : Class) → class_at code address ≡ Some class → IsTrue (is_indirect class) → class_at code address ≡ Some Indirect
  lands Plain is now = absurd (cc)
  lands Load is now = absurd (cc)
  lands Store is now = absurd (cc)
  lands Branch is now = absurd (cc)
  lands Jump is now = absurd (cc)
  lands Indirect is now = is
  lands Call is now = absurd (cc)
  lands Stop is now = absurd (cc)

  landed : (class : Class) → class_at code address ≡ Some class → class_at code address ≡ Some Indirect → IsTrue (is_indirect class)
  landed class is jump =
      let same : Indirect ≡ class = one_class Indirect class (class_at code address) jump is in subst (λ c. IsTrue (is_indirect c)) same refl

  -- no word, no class and no way
  classless : code_word code address ≡ None → class_at code address ≡ None
  classless none = ap (λ word. option_map class_of (option_map meaning_of word)) none

  wayless : (taken : Bool) → code_word code address ≡ None → way_among code taken address ≡ None
  wayless taken none = ap (λ word. option_and_then (λ (instr : Instr). way_to taken instr address) (option_map meaning_of word)) none

  no_class : (class : Class) → code_word code address ≡ None → class_at code address ≡ Some class → ⊥
  no_class class none is = let clash : ◌≡◌ {A = Option Class} None (Some class) = sym (classless none) ∙ is in cc clash

  no_value : code_word code address ≡ None → RecordsValue code address → ⊥
  no_value none (inl load) = no_class Load none load.0
  no_value none (inr call) = no_class Call none call

module _ (parts : CodeParts) (marks : List Bool) where
  nothing_recorded : (taken : Bool) (address : ℕ) → code_word parts.code address ≡ None → IsRecorded parts marks taken address → ⊥
  nothing_recorded taken address none recorded =
      let is : IsEdge parts recorded.edge = all_at (IsEdge parts) (edges_of parts) recorded.number recorded.edge (edges_join parts) recorded.there in
      let way : way_among parts.code (is_taken_kind recorded.edge.kind) address ≡ Some recorded.edge.target =
      sym (ap (way_among parts.code (is_taken_kind recorded.edge.kind)) recorded.from) ∙ is.way in
      let clash : ◌≡◌ {A = Option ℕ} None (Some recorded.edge.target) = sym (wayless parts.code address (is_taken_kind recorded.edge.kind) none) ∙ way in
      cc clash

  -- where no code word stands
  slot_nowhere : (address : ℕ) → code_word parts.code address ≡ None → is_code (extents_of parts.code) address ≡ false → IsSlotOf parts marks address (slot_by None)
  slot_nowhere address none outside = record {
    code = sym outside;
    fall = (λ now. absurd (cc now), λ recorded. absurd (nothing_recorded false address none recorded));
    taken = (λ now. absurd (cc now), λ recorded. absurd (nothing_recorded true address none recorded));
    value = (λ now. absurd (cc now), λ value. absurd (no_value parts.code address none value));
    landing = (λ now. absurd (cc now), λ jump. absurd (no_class parts.code address Indirect none jump));
  }

  needs_nowhere : (address : ℕ) → is_code (extents_of parts.code) address ≡ false → AreNeedsAt parts.code address None
  needs_nowhere address outside = record { there = sym outside; needed = tt }

  -- where one does
  module _ (address : ℕ) (word : SchemaWord) (is : IsSchemaWordOf parts marks address word) where
    inside : is_code (extents_of parts.code) address ≡ true
    inside = sym (is_some-code_word parts.code address) ∙ ap is_some is.there

    value_found : option_map_or (gives_value (is_set KEPT word.flags)) (class_in word.flags) false ≡ gives_value is.kept (class_of (meaning_of is.value))
    value_found = λ i. option_map_or (gives_value ((kept_told parts marks address word is) i)) ((class_told parts marks address word is) i) false

    landing_found : option_map_or is_indirect (class_in word.flags) false ≡ is_indirect (class_of (meaning_of is.value))
    landing_found = ap (λ found. option_map_or is_indirect found false) (class_told parts marks address word is)

    slot_here : IsSlotOf parts marks address (slot_by (Some word))
    slot_here = record {
      code = sym inside;
      fall = subst (λ t. IsTrue t ↔ IsRecorded parts marks false address) (sym (fall_told parts marks address word is)) is.is_fall;
      taken = subst (λ t. IsTrue t ↔ IsRecorded parts marks true address) (sym (taken_told parts marks address word is)) is.is_taken;
      value =
          subst (λ t. IsTrue t ↔ RecordsValue parts.code address) (sym value_found) (
            value_records parts.code address _ is.kept (class_there parts marks address word is) is.is_kept,
            records_value parts.code address _ is.kept (class_there parts marks address word is) is.is_kept,
          );
      landing =
          subst (λ t. IsTrue t ↔ (class_at parts.code address ≡ Some Indirect)) (sym landing_found) (
            lands parts.code address _ (class_there parts marks address word is),
            landed parts.code address _ (class_there parts marks address word is),
          );
    }

    even : word.mask % 2 ≡ 0
    even = elim (cases_eq (word.mask % 2) 1) [
      | inl odd ↦ absurd (never_x0 parts.code address 0 ((is.needs 0).0 (bit_at_lowest word.mask ∙ odd)) refl)
      | inr other ↦ omega arith
    ]

    all_needed : word.mask ≡ but_x0 word.mask
    all_needed = omega (arith, even)

    needs_here : AreNeedsAt parts.code address (Some (but_x0 word.mask))
    needs_here = record {
      there = sym inside;
      needed = subst (λ mask. (register : ℕ) → (bit_at mask register ≡ 1) ↔ IsNeeded parts.code address register) all_needed is.needs;
    }

  module _ (schema : SchemaParts) (is : IsSchemaOf parts marks schema) where
    word_at : (place address : ℕ) → address_of (extents_of parts.code) place ≡ Some address
        → (word : SchemaWord) × (slice_get schema.words place ≡ Some word) × IsSchemaWordOf parts marks address word
    word_at place address at =
        let within = slice_get_within (code_addresses (extents_of parts.code)) place address at in
        let long = is.words.count in
        let short : place < length schema.words = omega (arith, within, long, length-code_addresses_of_ranges parts.code) in
        let word : SchemaWord = get_or schema.words place (record { flags = 0; raw = 0; mask = 0 }) in
        let there : slice_get schema.words place ≡ Some word = slice_get-get_or schema.words place (record { flags = 0; raw = 0; mask = 0 }) short in
        (word, there, is.words.each place address word at there)

    listed_aligned : (word : ℕ) → Contains (code_addresses (extents_of parts.code)) word → word % 4 ≡ 0
    listed_aligned address (place, within, same) =
        let at : address_of (extents_of parts.code) place ≡ Some address =
        slice_get-get_or (code_addresses (extents_of parts.code)) place address within ∙ ap (λ (n : ℕ). Some n) same in
        let (word, there, here) = word_at place address at in
        is_code-aligned (extents_of parts.code) address (inside address word here)

    look_up : (address : ℕ) (place : Option ℕ) → place_of (extents_of parts.code) address ≡ place
        → schema_word_at schema address ≡ option_and_then (slice_get schema.words) place
    look_up address place at =
        ap (λ stretches. option_and_then (slice_get schema.words) (place_of stretches address)) is.stretches ∙ ap (option_and_then (slice_get schema.words)) at

    -- what the schema has for an address without a code word, and for one with a code word
    absent : (address : ℕ) → place_of (extents_of parts.code) address ≡ None → is_code (extents_of parts.code) address ≡ true → ⊥
    absent address none code =
        let (place, within, same) = is_code-listed (extents_of parts.code) address listed_aligned code in
        not_found (code_addresses (extents_of parts.code)) address none (place, within, same)

    both_at : (address : ℕ) (place : Option ℕ) → place_of (extents_of parts.code) address ≡ place
        → IsSlotOf parts marks address (slot_by (schema_word_at schema address)) × AreNeedsAt parts.code address (option_map (λ (word : SchemaWord). but_x0 word.mask) (schema_word_at schema address))
    both_at address None none =
        let outside : is_code (extents_of parts.code) address ≡ false = elim (cases_Bool (is_code (extents_of parts.code) address)) [
          | inl code ↦ absurd (absent address none code)
          | inr other ↦ other
        ] in
        let wordless : code_word parts.code address ≡ None = none_there (code_word parts.code address) (is_some-code_word parts.code address ∙ outside) in
        let found : schema_word_at schema address ≡ None = look_up address None none in (
          subst (λ found. IsSlotOf parts marks address (slot_by found)) (sym found) (slot_nowhere address wordless outside),
          subst (λ found. AreNeedsAt parts.code address (option_map (λ (word : SchemaWord). but_x0 word.mask) found)) (sym found) (needs_nowhere address outside),
        )
    both_at address (Some place) at =
        let (word, there, here) = word_at place address (address_of-place_of (extents_of parts.code) place address at) in
        let found : schema_word_at schema address ≡ Some word = look_up address (Some place) at ∙ there in (
          subst (λ found. IsSlotOf parts marks address (slot_by found)) (sym found) (slot_here address word here),
          subst (λ found. AreNeedsAt parts.code address (option_map (λ (word : SchemaWord). but_x0 word.mask) found)) (sym found) (needs_here address word here),
        )

-- where a schema has a word
module _ (parts : CodeParts) (marks : List Bool) (schema : SchemaParts) (is : IsSchemaOf parts marks schema) where
  finds_at : (address : ℕ) (place : Option ℕ) → place_of (extents_of parts.code) address ≡ place
      → (is_some (schema_word_at schema address) ≡ is_code (extents_of parts.code) address) × IfSome (schema_word_at schema address) (IsSchemaWordOf parts marks address)
  finds_at address None none =
      let found : schema_word_at schema address ≡ None = look_up parts marks schema is address None none in
      let outside : is_code (extents_of parts.code) address ≡ false = elim (cases_Bool (is_code (extents_of parts.code) address)) [
        | inl code ↦ absurd (absent parts marks schema is address none code)
        | inr other ↦ other
      ] in
      (ap is_some found ∙ sym outside, subst (λ found. IfSome found (IsSchemaWordOf parts marks address)) (sym found) tt)
  finds_at address (Some place) at =
      let (word, there, here) = word_at parts marks schema is place address (address_of-place_of (extents_of parts.code) place address at) in
      let found : schema_word_at schema address ≡ Some word = look_up parts marks schema is address (Some place) at ∙ there in
      (ap is_some found ∙ sym (inside parts marks address word here), subst (λ found. IfSome found (IsSchemaWordOf parts marks address)) (sym found) here)

pub finds_words : SchemasFindTheirWords
finds_words parts marks schema is = record {
  there = λ address. (finds_at parts marks schema is address (place_of (extents_of parts.code) address) refl).0;
  words = λ address. (finds_at parts marks schema is address (place_of (extents_of parts.code) address) refl).1;
}

pub own_shape : SchemasHaveTheShape
own_shape parts marks schema is = record {
  entry = is.entry;
  first = ap first_start is.stretches;
  count = is.words.count;
  slot = λ address. (both_at parts marks schema is address (place_of (extents_of parts.code) address) refl).0;
  needs = λ address. (both_at parts marks schema is address (place_of (extents_of parts.code) address) refl).1;
}

-- a shape of code is a shape
apart_by : (parts : CodeParts) (marks : List Bool) (address : ℕ) (slot : Slot) (landing : Bool) → slot.landing ≡ landing → IsSlotOf parts marks address slot → slot.value ≡ true → slot.landing ≡ false
apart_by parts marks address slot false lands is value = lands
apart_by parts marks address slot true lands is value = absurd (both (is.value.0 value))
  where
    both : RecordsValue parts.code address → ⊥
    both (inl load) = let clash : Load ≡ Indirect = one_class Load Indirect (class_at parts.code address) load.0 (is.landing.0 lands) in cc clash
    both (inr call) = let clash : Call ≡ Indirect = one_class Call Indirect (class_at parts.code address) call (is.landing.0 lands) in cc clash

clear_by : (code : List Range) (target : ℕ) (needs : Option ℕ) → AreNeedsAt code target needs → IfSome needs (λ mask. mask % 2 ≡ 0)
clear_by code target None is = tt
clear_by code target (Some mask) is = elim (cases_eq (mask % 2) 1) [
  | inl odd ↦ absurd (never_x0 code target 0 ((is.needed 0).0 (bit_at_lowest mask ∙ odd)) refl)
  | inr other ↦ omega arith
]

pub shape_of_code : ShapesOfCodeAreShapes
shape_of_code parts marks shape is = record {
  apart = λ address. apart_by parts marks address (shape.slot address) (shape.slot address).landing refl (is.slot address);
  clear = λ target. clear_by parts.code target (shape.needs target) (is.needs target);
}
