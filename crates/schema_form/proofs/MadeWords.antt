-- What a schema has for code words, one after the other; and which of them are leaders.
use Rattle.std.proofs.Common.{◌≡◌, ◌⊎◌, inl, inr, ℕ, zero, suc, ◌+◌, ◌<◌, ◌≤◌, Bool, true, cond, List, [], ◌∷◌, ◌++◌, length, get_or, Option, Some, None, refl, sym, ap, subst, ◌∙◌, ◌^◌, arith}
use Rattle.std.specs.Prelude.{slice_get, position, nat_le, nat_eq}
use Rattle.std.proofs.lemmas.Bool.{cases_eq, and_parts, eq-eqb, ne_eqb, leb-true}
use Rattle.std.proofs.lemmas.List.{length-append}
use Rattle.std.proofs.lemmas.List.Quantifiers.{position-Some}
use Rattle.std.proofs.lemmas.Option.{slice_get_within, get_or_from_slice_get}
use Rattle.rv_code.specs.declared.image.Range.{Range}
use Rattle.rv_code.specs.Code.{extents_of, is_code}
use Rattle.rv_code.specs.Image.{word_count}
use Rattle.rv_code.specs.Places.{address_of, code_addresses, AreCodeExtents}
use Rattle.rv_code.proofs.LawsOfLookUps.{word_count-cons}
use Rattle.rv_code.proofs.LawsOfPlaces.{Contains-is_code}
use Rattle.flow_graph.specs.declared.block.Block.{Block}
use Rattle.flow_graph.specs.Blocks.{blocks_of, block_at, holds}
use Rattle.flow_graph.specs.CodeParts.{CodeParts, has_code}
use Rattle.flow_graph.specs.Laws.{BlocksAreRuns, IsBlock}
use Rattle.flow_graph.specs.Leaders.{is_leader}
use Rattle.schema_form.specs.declared.word.SchemaWord.{SchemaWord}
use Rattle.schema_form.specs.OfImage.{IsSchemaWordOf, AreSchemaWordsOf}
use Rattle.schema_form.proofs.Below.{all_get_or}

-- the block of a code word
pub record InBlock (parts : CodeParts) (number address : ℕ) (block : Block) : Type 0 where
  pub within : number < length (blocks_of parts)
  pub above : block.leader ≤ address
  pub below : address ≤ block.last
  pub is : IsBlock parts block

pub block_there : (parts : CodeParts) (address number : ℕ) (none : Block) → BlocksAreRuns parts → has_code parts address ≡ true → block_at parts address ≡ Some number
    → InBlock parts number address (get_or (blocks_of parts) number none)
block_there parts address number none runs code is =
    let test : Block → Bool = λ (block : Block). holds block address in
    let found : position test (blocks_of parts) ≡ Some number = ap (λ t. cond t (position test (blocks_of parts)) None) (sym code) ∙ is in
    let there = position-Some test (blocks_of parts) number none found in
    let block = get_or (blocks_of parts) number none in
    let both = and_parts (nat_le block.leader address) (nat_le address block.last) there.1 in
    record {
      within = there.0;
      above = leb-true block.leader address both.0;
      below = leb-true address block.last both.1;
      is = all_get_or (IsBlock parts) (blocks_of parts) number none there.0 runs;
    }

pub leader_test : (parts : CodeParts) (address : ℕ) (block : Block) (number : ℕ) → InBlock parts number address block → nat_eq block.leader address ≡ is_leader parts address
leader_test parts address block number there = elim (cases_eq block.leader address) [
  | inl same ↦ eq-eqb block.leader address same ∙ sym (subst (λ (a : ℕ). is_leader parts a ≡ true) same there.is.begins)
  | inr differ ↦
      let above = there.above in
      ne_eqb block.leader address differ ∙ sym (there.is.alone address (omega (arith, above, differ)) there.below)
]

behind_all : {X : Type 0} (xs : List X) (x : X) (place : ℕ) (found : X) → slice_get (xs ++ (x ∷ [])) place ≡ Some found
    → (slice_get xs place ≡ Some found) ⊎ ((place ≡ length xs) × (x ≡ found))
behind_all [] x zero found is = inr (refl, cc is)
behind_all [] x (suc place) found is = absurd (cc is)
behind_all (y ∷ ys) x zero found is = inl is
behind_all (y ∷ ys) x (suc place) found is = elim (behind_all ys x place found is) [
  | inl before ↦ inl before
  | inr last ↦ let same = last.0 in inr (omega (arith, same), last.1)
]

pub one_word_more : (parts : CodeParts) (marks : List Bool) (count address : ℕ) (words : List SchemaWord) (word : SchemaWord) → address_of (extents_of parts.code) count ≡ Some address
    → IsSchemaWordOf parts marks address word → AreSchemaWordsOf parts marks count words → AreSchemaWordsOf parts marks (count + 1) (words ++ (word ∷ []))
one_word_more parts marks count address words word here is are = record {
  count = let before = are.count in omega (arith, before, length-append words (word ∷ []));
  each = λ place there found at stands. elim (behind_all words word place found stands) [
    | inl before ↦ are.each place there found at before
    | inr last ↦
        let same : there ≡ address =
        (let one : ◌≡◌ {A = Option ℕ} (Some there) (Some address) = sym at ∙ ap (address_of (extents_of parts.code)) (last.0 ∙ are.count) ∙ here in cc one) in
        subst (λ (a : ℕ). IsSchemaWordOf parts marks a found) (sym same) (subst (IsSchemaWordOf parts marks address) last.1 is)
  ];
}

pub no_words : (parts : CodeParts) (marks : List Bool) → AreSchemaWordsOf parts marks 0 []
no_words parts marks = record { count = refl; each = λ place address word at stands. absurd (cc stands) }

-- a range has no more words than all ranges
pub range_small : (ranges : List Range) (index : ℕ) (range : Range) → index < length ranges → range ≡ get_or ranges index range → word_count ranges < 2 ^ 32 → length range.words < 2 ^ 32
range_small [] index range within is few = absurd (omega arith)
range_small (first ∷ ranges) zero range within is few =
    let long : length range.words ≡ length first.words = ap (λ (r : Range). length r.words) is in
    omega (arith, few, long, word_count-cons first ranges)
range_small (first ∷ ranges) (suc index) range within is few =
    range_small ranges index range (omega arith) is (omega (arith, few, word_count-cons first ranges))

-- a code word stands at the address of a place
pub code_at_place : (code : List Range) (place address : ℕ) → AreCodeExtents (extents_of code) → address_of (extents_of code) place ≡ Some address → is_code (extents_of code) address ≡ true
code_at_place code place address order at =
    let words : List ℕ = code_addresses (extents_of code) in
    Contains-is_code (extents_of code) address order (place, slice_get_within words place address at, get_or_from_slice_get words place address address at)
