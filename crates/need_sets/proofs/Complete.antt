-- Where all places are settled, all that is needed is known to be.
use Rattle.std.proofs.Common.{◌≡◌, ℕ, zero, suc, ◌<◌, Bool, true, false, List, [], length, get_or, Option, Some, None, refl, sym, ap, subst, ◌∙◌, inl, inr, arith}
use Rattle.std.specs.Prelude.{◌↔◌, is_some, replicate}
use Rattle.std.specs.Int.{bit_at}
use Rattle.std.specs.List.{Contains}
use Rattle.std.specs.Option.{option_and_then, option_map, option_map_or}
use Rattle.std.proofs.lemmas.Nat.Bits.{bit_at-zero}
use Rattle.std.proofs.lemmas.Option.{slice_get_within}
use Rattle.rv_code.specs.declared.class.Class.TheVariants.{Plain}
use Rattle.rv_code.specs.declared.image.Range.{Range}
use Rattle.rv_code.specs.declared.instr.Instr.{Instr}
use Rattle.rv_code.specs.Code.{code_word, extents_of, is_code}
use Rattle.rv_code.specs.Image.{word_count}
use Rattle.rv_code.specs.Parts.{class_of, sources_of, written_by}
use Rattle.rv_code.specs.Places.{code_addresses, address_of, place_of, AreCodeExtents}
use Rattle.rv_code.specs.Table.{meaning_of}
use Rattle.rv_code.specs.Ways.{successor_by}
use Rattle.rv_code.proofs.LawsOfLookUps.{address_of-place_of, is_some-code_word, is_some-place_of}
use Rattle.rv_code.proofs.LawsOfPlaces.{length-code_addresses_of_ranges}
use Rattle.flow_graph.specs.CodeParts.{instr_in}
use Rattle.need_sets.specs.declared.search.Search.{Search}
use Rattle.need_sets.specs.Inner.Search.{IsPassed, IsBacked, IsSearched, AreSettled, mask_in, used_in}
use Rattle.need_sets.specs.Masks.{AreNeeded}
use Rattle.need_sets.specs.Needed.{NeededFor, IsUsedFor}
use Rattle.need_sets.specs.Needed.NeededFor.{base, feeds, through}
use Rattle.need_sets.specs.Words.{successors_at}
use Rattle.need_sets.proofs.Followed.{two_steps, followed_by, leads_on}

-- the instruction of a word that has a successor
instr_here : (code : List Range) (address next : ℕ) → Contains (successors_at code address) next → (instr : Instr) × (instr_in code address ≡ Some instr)
instr_here code address next follows =
    let (taken, leads, passes) = followed_by code address next follows in
    let (instr, found, way) = two_steps (λ (i : Instr). successor_by (is_code (extents_of code)) taken i address) (instr_in code address) next leads in
    (instr, found)

pub place_within : (code : List Range) (place address : ℕ) → address_of (extents_of code) place ≡ Some address → place < word_count code
place_within code place address at =
    subst (λ n. place < n) (length-code_addresses_of_ranges code) (slice_get_within (code_addresses (extents_of code)) place address at)

module _ (code : List Range) (bases : ℕ → Option ℕ) (search : Search) (order : AreCodeExtents (extents_of code))
    (settled : (goal : ℕ) → goal < word_count code → IsSearched code search goal)
    (has : (place address register : ℕ) → address_of (extents_of code) place ≡ Some address → bases address ≡ Some register → bit_at (mask_in search place) register ≡ 1) where
  pub known : (address register : ℕ) → NeededFor code bases address register → (place : ℕ) → address_of (extents_of code) place ≡ Some address
      → bit_at (mask_in search place) register ≡ 1
  known address register (base a r is) place at = has place address register at is
  known address register (feeds a r written next class real reads writes follows needs) place at =
      let on = leads_on code place address next order at follows in
      let (instr, is) = instr_here code address next follows in
      let behind = known next written needs on.goal on.at in
      let passed : IsPassed code search place (mask_in search on.goal) = settled on.goal on.within on.taken place (place_within code place address at) on.led in
      passed.masks address register instr at is
      (inl (record {
        written = written;
        class = (let both : Some (class_of instr) ≡ Some Plain = sym (ap (option_map class_of) is) ∙ class in cc);
        real = real;
        reads = subst (λ (o : Option Instr). Contains (option_map_or sources_of o []) register) is reads;
        writes = sym (ap (option_and_then written_by) is) ∙ writes;
        needs = behind;
      }))
  known address register (through a r next other follows needs) place at =
      let on = leads_on code place address next order at follows in
      let (instr, is) = instr_here code address next follows in
      let behind = known next register needs on.goal on.at in
      let passed : IsPassed code search place (mask_in search on.goal) = settled on.goal on.within on.taken place (place_within code place address at) on.led in
      passed.masks address register instr at is
      (inr (record { other = λ writes. other (ap (option_and_then written_by) is ∙ writes); needs = behind }))

  marked : (address : ℕ) → IsUsedFor code bases address → (place : ℕ) → address_of (extents_of code) place ≡ Some address → used_in search place ≡ true
  marked address used place at =
      let on = leads_on code place address used.next order at used.follows in
      let (instr, is) = instr_here code address used.next used.follows in
      let behind = known used.next used.register used.needs on.goal on.at in
      let passed : IsPassed code search place (mask_in search on.goal) = settled on.goal on.within on.taken place (place_within code place address at) on.led in
      passed.used address used.register instr at is (sym (ap (option_and_then written_by) is) ∙ used.writes) behind

  pub all_is_needed : length search.masks.items ≡ word_count code → length search.used.items ≡ word_count code → IsBacked code bases search
      → AreNeeded code bases search.masks.items search.used.items
  all_is_needed mask_cells mark_cells sound = record {
    mask_cells = mask_cells;
    mark_cells = mark_cells;
    needed = λ place address register at. ((λ set. sound.masks place address register at set), (λ needs. known address register needs place at));
    used = λ place address at. ((λ set. sound.used place address at set), (λ used. marked address used place at));
  }

-- where nothing is known
replicate_default : {X : Type 0} (n i : ℕ) (d : X) → get_or (replicate n d) i d ≡ d
replicate_default zero i d = refl
replicate_default (suc n) zero d = refl
replicate_default (suc n) (suc i) d = replicate_default n i d

pub empty_is_settled : (code : List Range) (count : ℕ) (search : Search) → search.masks.items ≡ replicate count 0 → AreSettled code search
empty_is_settled code count search masks_are goal within =
    let none : mask_in search goal ≡ 0 = ap (λ masks. get_or masks goal 0) masks_are ∙ replicate_default count goal 0 in
    let clear : (register : ℕ) → bit_at (mask_in search goal) register ≡ 1 → ⊥ =
    λ register set. absurd (omega (arith, set, ap (λ n. bit_at n register) none, bit_at-zero register))
    in
    inl (λ taken source inside leads. record {
      masks = λ address register instr at is needs. elim needs [
        | inl f ↦ absurd (clear f.written f.needs)
        | inr l ↦ absurd (clear register l.needs)
      ];
      used = λ address register instr at is writes set. absurd (clear register set);
    })

pub empty_is_sound : (code : List Range) (bases : ℕ → Option ℕ) (count : ℕ) (search : Search) → search.masks.items ≡ replicate count 0 → search.used.items ≡ replicate count false
    → IsBacked code bases search
empty_is_sound code bases count search masks_are used_are = record {
  masks = λ place address register at set.
      let none : mask_in search place ≡ 0 = ap (λ masks. get_or masks place 0) masks_are ∙ replicate_default count place 0 in
      absurd (omega (arith, set, ap (λ n. bit_at n register) none, bit_at-zero register));
  used = λ place address at set.
      let none : used_in search place ≡ false = ap (λ marks. get_or marks place false) used_are ∙ replicate_default count place false in
      absurd (cc (sym none ∙ set));
}

-- what is needed, by the place that an address has
pub needed_at : (code : List Range) (bases : ℕ → Option ℕ) (masks : List ℕ) (marks : List Bool) (place address : ℕ) → place_of (extents_of code) address ≡ Some place
    → AreNeeded code bases masks marks → (register : ℕ) → (bit_at (get_or masks place 0) register ≡ 1) ↔ NeededFor code bases address register
needed_at code bases masks marks place address is are register = are.needed place address register (address_of-place_of (extents_of code) place address is)

pub used_at : (code : List Range) (bases : ℕ → Option ℕ) (masks : List ℕ) (marks : List Bool) (place address : ℕ) → place_of (extents_of code) address ≡ Some place
    → AreNeeded code bases masks marks → (get_or marks place false ≡ true) ↔ IsUsedFor code bases address
used_at code bases masks marks place address is are = are.used place address (address_of-place_of (extents_of code) place address is)

-- a word of which something is used is a code word
pub used_is_code : (code : List Range) (bases : ℕ → Option ℕ) (address : ℕ) → IsUsedFor code bases address → is_code (extents_of code) address ≡ true
used_is_code code bases address used =
    let (instr, found) = instr_here code address used.next used.follows in
    sym (is_some-code_word code address) ∙ word_here (code_word code address) instr found
  where
    word_here : (o : Option ℕ) (instr : Instr) → option_map meaning_of o ≡ Some instr → is_some o ≡ true
    word_here None instr none = absurd (cc none)
    word_here (Some word) instr some = refl

pub used_nowhere : (code : List Range) (bases : ℕ → Option ℕ) (address : ℕ) → AreCodeExtents (extents_of code) → place_of (extents_of code) address ≡ None
    → IsUsedFor code bases address → ⊥
used_nowhere code bases address order is used =
    absurd (cc (sym (ap is_some is) ∙ (is_some-place_of (extents_of code) address order.each ∙ used_is_code code bases address used)))
