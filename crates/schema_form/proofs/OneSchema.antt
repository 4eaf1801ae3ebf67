-- Code under given marks has one schema.
use Rattle.std.proofs.Common.{◌≡◌, inl, inr, ℕ, suc, Bool, true, false, List, [], ◌∷◌, length, get_or, Some, refl, sym, ◌∙◌, arith}
use Rattle.std.specs.Prelude.{◌↔◌, IsTrue, slice_get}
use Rattle.std.specs.Int.{bit_at}
use Rattle.std.proofs.lemmas.Bool.{cases_eq}
use Rattle.std.proofs.lemmas.Nat.Bits.{bit_at-lt, same_from_bits}
use Rattle.std.proofs.lemmas.Option.{slice_get_within, slice_get-get_or}
use Rattle.rv_code.specs.Code.{code_word, extents_of}
use Rattle.rv_code.specs.Parts.{class_of}
use Rattle.rv_code.specs.Places.{code_addresses}
use Rattle.rv_code.specs.Table.{meaning_of}
use Rattle.rv_code.proofs.LawsOfPlaces.{length-code_addresses_of_ranges}
use Rattle.rv_code.proofs.LawsOfTests.{same_found}
use Rattle.flow_graph.specs.CodeParts.{CodeParts}
use Rattle.flow_graph.specs.Leaders.{is_leader}
use Rattle.schema_form.specs.declared.word.SchemaWord.{SchemaWord}
use Rattle.schema_form.specs.OfImage.{IsSchemaWordOf, SchemasAreDetermined, flags_of, raw_word_of}

pub same_test : {P : Type 0} (one other : Bool) → (IsTrue one ↔ P) → (IsTrue other ↔ P) → one ≡ other
same_test true true is is_too = refl
same_test true false is is_too = sym (is_too.1 (is.0 refl))
same_test false true is is_too = is.1 (is_too.0 refl)
same_test false false is is_too = refl

pub same_mask : {P : ℕ → Type 0} (one other : ℕ) → ((k : ℕ) → (bit_at one k ≡ 1) ↔ P k) → ((k : ℕ) → (bit_at other k ≡ 1) ↔ P k) → one ≡ other
same_mask one other is is_too = same_from_bits one other (λ k. elim (cases_eq (bit_at one k) 1) [
  | inl set ↦ set ∙ sym ((is_too k).1 ((is k).0 set))
  | inr clear ↦ elim (cases_eq (bit_at other k) 1) [
    | inl set ↦ absurd (clear ((is k).1 ((is_too k).0 set)))
    | inr clear_too ↦ omega (arith, clear, clear_too, bit_at-lt one k, bit_at-lt other k)
  ]
])

same_word : (parts : CodeParts) (marks : List Bool) (address : ℕ) (one other : SchemaWord) → IsSchemaWordOf parts marks address one → IsSchemaWordOf parts marks address other → one ≡ other
same_word parts marks address one other is is_too =
    let value : is.value ≡ is_too.value = same_found is.value is_too.value (code_word parts.code address) is.there is_too.there in
    let fall : is.fall ≡ is_too.fall = same_test is.fall is_too.fall is.is_fall is_too.is_fall in
    let taken : is.taken ≡ is_too.taken = same_test is.taken is_too.taken is.is_taken is_too.is_taken in
    let kept : is.kept ≡ is_too.kept = same_test is.kept is_too.kept is.is_kept is_too.is_kept in
    let between : flags_of (class_of (meaning_of is.value)) (is_leader parts address) is.fall is.taken is.kept ≡ flags_of (class_of (meaning_of is_too.value)) (is_leader parts address) is_too.fall is_too.taken is_too.kept
    = λ i. flags_of (class_of (meaning_of (value i))) (is_leader parts address) (fall i) (taken i) (kept i) in
    let raws : raw_word_of (class_of (meaning_of is.value)) is.kept is.value ≡ raw_word_of (class_of (meaning_of is_too.value)) is_too.kept is_too.value
    = λ i. raw_word_of (class_of (meaning_of (value i))) (kept i) (value i) in
    let flags : one.flags ≡ other.flags = is.flags ∙ between ∙ sym is_too.flags in
    let raw : one.raw ≡ other.raw = is.raw ∙ raws ∙ sym is_too.raw in
    let mask : one.mask ≡ other.mask = same_mask one.mask other.mask is.needs is_too.needs in
    λ i. record { flags = flags i; raw = raw i; mask = mask i }

same_lists : {X : Type 0} (xs ys : List X) → length xs ≡ length ys → ((k : ℕ) (x y : X) → slice_get xs k ≡ Some x → slice_get ys k ≡ Some y → x ≡ y) → xs ≡ ys
same_lists [] [] long each = refl
same_lists [] (y ∷ ys) long each = absurd (omega (arith, long))
same_lists (x ∷ xs) [] long each = absurd (omega (arith, long))
same_lists (x ∷ xs) (y ∷ ys) long each =
    let first : x ≡ y = each 0 x y refl refl in
    let rest : xs ≡ ys = same_lists xs ys (omega (arith, long)) (λ k one other is is_too. each (suc k) one other is is_too) in
    λ i. first i ∷ rest i

pub same_schema : SchemasAreDetermined
same_schema parts marks one other is is_too =
    let addresses : List ℕ = code_addresses (extents_of parts.code) in
    let entry : one.entry ≡ other.entry = is.entry ∙ sym is_too.entry in
    let stretches : one.stretches ≡ other.stretches = is.stretches ∙ sym is_too.stretches in
    let words : one.words ≡ other.words =
    same_lists one.words other.words (is.words.count ∙ sym is_too.words.count) (λ place word word_too there there_too.
    let within = slice_get_within one.words place word there in
    let long = is.words.count in
    let at = slice_get-get_or addresses place 0 (omega (arith, within, long, length-code_addresses_of_ranges parts.code)) in
    same_word parts marks (get_or addresses place 0) word word_too (is.words.each place _ word at there) (is_too.words.each place _ word_too at there_too))
    in
    λ i. record { entry = entry i; stretches = stretches i; words = words i }
