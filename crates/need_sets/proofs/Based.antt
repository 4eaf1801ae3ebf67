-- The bases of all words, one after the other.
use Rattle.std.proofs.Common.{◌≡◌, ℕ, ◌+◌, ◌<◌, cond, List, Option, Some, None, sym, ap, subst, ◌∙◌, inl, inr, arith}
use Rattle.std.specs.Int.{bit_at}
use Rattle.std.proofs.lemmas.Bool.{cases_eq, cases_lt, eq-eqb, ne_eqb}
use Rattle.rv_code.specs.declared.image.Range.{Range}
use Rattle.rv_code.specs.Code.{extents_of}
use Rattle.rv_code.specs.Image.{word_count}
use Rattle.rv_code.specs.Places.{address_of, place_of, ExtentsRise}
use Rattle.rv_code.proofs.LawsOfLookUps.{place_of-address_of}
use Rattle.need_sets.specs.declared.search.Search.{Search}
use Rattle.need_sets.specs.Inner.Search.{IsSized, Spreads, IsBacked, HasBase, AsksFor, mask_in}
use Rattle.need_sets.specs.Masks.{base_alone}
use Rattle.need_sets.specs.Words.{base_at}
use Rattle.need_sets.proofs.Spread.{spreads_none, spreads_on}

pub record BasedSoFar (code : List Range) (count : ℕ) (old now : Search) : Type 0 where
  pub sized : IsSized (word_count code) now
  pub spreads : Spreads old now
  pub needed : (place : ℕ) → place < count → HasBase code now place
  pub sound : (bases : ℕ → Option ℕ) → ((place : ℕ) → AsksFor code bases place) → IsBacked code bases old → IsBacked code bases now

pub based_first : (code : List Range) (old : Search) → IsSized (word_count code) old → BasedSoFar code 0 old old
based_first code old sized = record {
  sized = sized;
  spreads = spreads_none old;
  needed = λ place below. absurd (omega arith);
  sound = λ bases asks was. was;
}

pub based_more : (code : List Range) (count : ℕ) (old now new : Search) → BasedSoFar code count old now → IsSized (word_count code) new → Spreads now new
    → HasBase code new count → ((bases : ℕ → Option ℕ) → AsksFor code bases count → IsBacked code bases now → IsBacked code bases new)
    → BasedSoFar code (count + 1) old new
based_more code count old now new so_far sized spreads here sound = record {
  sized = sized;
  spreads = spreads_on old now new so_far.spreads spreads;
  needed = λ place below address register at is. elim (cases_lt place count) [
    | inl earlier ↦ spreads.masks place register (so_far.needed place earlier address register at is)
    | inr not_earlier ↦
        let same : place ≡ count = omega arith in
        subst (λ n. HasBase code new n) (sym same) here address register at is
  ];
  sound = λ bases asks was. sound bases (asks count) (so_far.sound bases asks was);
}

-- the place of one access
pub one_place : (code : List Range) (access place other : ℕ) → ExtentsRise (extents_of code) → place_of (extents_of code) access ≡ Some place
    → address_of (extents_of code) other ≡ Some access → other ≡ place
one_place code access place other rise is at = let both = sym (place_of-address_of (extents_of code) other access rise at) ∙ is in cc

pub no_place : (code : List Range) (access other : ℕ) → ExtentsRise (extents_of code) → place_of (extents_of code) access ≡ None
    → address_of (extents_of code) other ≡ Some access → ⊥
no_place code access other rise is at = absurd (cc (sym is ∙ place_of-address_of (extents_of code) other access rise at))

-- its base alone
alone_here : (code : List Range) (access address : ℕ) → address ≡ access → base_alone code access address ≡ base_at code address
alone_here code access address same = ap (λ b. cond b (base_at code address) None) (eq-eqb address access same)

pub alone_asks : (code : List Range) (access place : ℕ) → address_of (extents_of code) place ≡ Some access → AsksFor code (base_alone code access) place
alone_asks code access place at address register at' is =
    let same : address ≡ access = (let both = sym at' ∙ at in cc) in alone_here code access address same ∙ is

pub alone_has : (code : List Range) (access : ℕ) (old new : Search) → ((place register : ℕ) → bit_at (mask_in old place) register ≡ 1 → bit_at (mask_in new place) register ≡ 1)
    → ((place : ℕ) → address_of (extents_of code) place ≡ Some access → HasBase code old place)
    → (place address register : ℕ) → address_of (extents_of code) place ≡ Some address → base_alone code access address ≡ Some register
    → bit_at (mask_in new place) register ≡ 1
alone_has code access old new grown has place address register at is = elim (cases_eq address access) [
  | inl same ↦ grown place register (has place (at ∙ ap Some same) address register at (sym (alone_here code access address same) ∙ is))
  | inr apart ↦ absurd (cc (sym (ap (λ b. cond b (base_at code address) None) (ne_eqb address access apart)) ∙ is))
]
