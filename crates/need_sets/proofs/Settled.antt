-- Places that are settled: what is needed there is passed to all words that lead to it.
use Rattle.std.proofs.Common.{◌≡◌, ℕ, ◌+◌, ◌<◌, true, false, List, [], ◌∷◌, ◌++◌, length, get_or, Option, sym, ap, subst, ◌∙◌, inl, inr, arith}
use Rattle.std.specs.Prelude.{◌⊎◌}
use Rattle.std.specs.Int.{bit_at}
use Rattle.std.specs.List.{Contains}
use Rattle.std.proofs.lemmas.Bool.{cases_eq}
use Rattle.std.proofs.lemmas.List.Elements.{Contains-push_cases}
use Rattle.rv_code.specs.declared.image.Range.{Range}
use Rattle.rv_code.specs.Image.{word_count}
use Rattle.need_sets.specs.declared.search.Search.{Search}
use Rattle.need_sets.specs.Inner.Search.{IsSized, Spreads, IsPassed, IsBacked, AllNeeded, IsPassedBy, IsSearched, AreSettled, Grows, mask_in, used_in, slack}
use Rattle.need_sets.proofs.Chain.{still_passed}
use Rattle.need_sets.proofs.Spread.{spreads_on}

-- all that is known to be needed at a place is so
pub all_needed : (code : List Range) (bases : ℕ → Option ℕ) (search : Search) (goal : ℕ) → IsBacked code bases search → AllNeeded code bases goal (mask_in search goal)
all_needed code bases search goal sound address register at set = sound.masks goal address register at set

both_ways : (code : List Range) (search : Search) (goal behind : ℕ) → IsPassedBy code false search goal behind → IsPassedBy code true search goal behind
    → mask_in search goal ≡ behind → IsSearched code search goal
both_ways code search goal behind falls takes is false source within leads = subst (λ n. IsPassed code search source n) (sym is) (falls source within leads)
both_ways code search goal behind falls takes is true source within leads = subst (λ n. IsPassed code search source n) (sym is) (takes source within leads)

-- after both ways the place is settled, unless it waits again
pub settled_here : (code : List Range) (old mid new : Search) (goal behind : ℕ) → behind ≡ mask_in old goal → Spreads old mid → Spreads mid new
    → IsPassedBy code false mid goal behind → IsPassedBy code true new goal behind → IsSearched code new goal ⊎ Contains new.waiting.places goal
settled_here code old mid new goal behind is first second falls takes = elim ((spreads_on old mid new first second).changed goal) [
  | inl same ↦
      inl (both_ways code new goal behind (λ source within leads. still_passed code mid new source behind second (falls source within leads)) takes (same ∙ sym is))
  | inr waits ↦ inr waits
]

-- what was settled stays so, or waits
pub settled_still : (code : List Range) (old new : Search) (goal : ℕ) → Spreads old new → IsSearched code old goal ⊎ Contains old.waiting.places goal
    → IsSearched code new goal ⊎ Contains new.waiting.places goal
settled_still code old new goal spreads settled = elim settled [
  | inl was ↦ elim (spreads.changed goal) [
    | inl same ↦
        inl (λ taken source within leads.
        subst (λ n. IsPassed code new source n) (sym same) (still_passed code old new source (mask_in old goal) spreads (was taken source within leads)))
    | inr waits ↦ inr waits
  ]
  | inr waits ↦ inr (spreads.waiting goal waits)
]

pub all_still : (code : List Range) (old new : Search) → Spreads old new → AreSettled code old → AreSettled code new
all_still code old new spreads settled goal within = settled_still code old new goal spreads (settled goal within)

-- as far as no other place waits
pub record SettledSoFar (code : List Range) (old now : Search) : Type 0 where
  pub sized : IsSized (word_count code) now
  pub settled : AreSettled code now
  pub grown : Grows old now
  pub sound : (bases : ℕ → Option ℕ) → IsBacked code bases old → IsBacked code bases now

-- how much is left to do
abbrev pub work_left : Search → ℕ
work_left search = slack search.masks.items + length search.waiting.places

-- a search with the same masks and marks
passed_moved : (code : List Range) (now mid : Search) (source behind : ℕ) → ((p : ℕ) → mask_in mid p ≡ mask_in now p) → ((p : ℕ) → used_in mid p ≡ used_in now p)
    → IsPassed code now source behind → IsPassed code mid source behind
passed_moved code now mid source behind same used passed = record {
  masks = λ address register instr at is needs. ap (λ n. bit_at n register) (same source) ∙ passed.masks address register instr at is needs;
  used = λ address register instr at is writes needs. used source ∙ passed.used address register instr at is writes needs;
}

settled_moved : (code : List Range) (now mid : Search) (place : ℕ) → ((p : ℕ) → mask_in mid p ≡ mask_in now p) → ((p : ℕ) → used_in mid p ≡ used_in now p)
    → IsSearched code now place → IsSearched code mid place
settled_moved code now mid place same used was way source within leads =
    subst (λ n. IsPassed code mid source n) (sym (same place)) (passed_moved code now mid source (mask_in now place) same used (was way source within leads))

sound_moved : (code : List Range) (now mid : Search) (bases : ℕ → Option ℕ) → ((p : ℕ) → mask_in mid p ≡ mask_in now p) → ((p : ℕ) → used_in mid p ≡ used_in now p)
    → IsBacked code bases now → IsBacked code bases mid
sound_moved code now mid bases same used was = record {
  masks = λ place address register at set. was.masks place address register at (ap (λ n. bit_at n register) (sym (same place)) ∙ set);
  used = λ place address at set. was.used place address at (sym (used place) ∙ set);
}

still_waits : (now mid : Search) (goal place : ℕ) → now.waiting.places ≡ mid.waiting.places ++ goal ∷ [] → (place ≡ goal → ⊥) → Contains now.waiting.places place
    → Contains mid.waiting.places place
still_waits now mid goal place taken apart waits = elim (Contains-push_cases mid.waiting.places goal place (subst (λ places. Contains places place) taken waits)) [
  | inl still ↦ still
  | inr one ↦ absurd (apart (sym one))
]

-- a place is taken out and passed back
pub settled_more : (code : List Range) (old now mid new : Search) (goal : ℕ)
    → now.waiting.places ≡ mid.waiting.places ++ goal ∷ [] → mid.masks.items ≡ now.masks.items → mid.used.items ≡ now.used.items
    → SettledSoFar code old now → IsSized (word_count code) new → Spreads mid new → IsSearched code new goal ⊎ Contains new.waiting.places goal
    → ((bases : ℕ → Option ℕ) → IsBacked code bases mid → IsBacked code bases new) → SettledSoFar code old new
settled_more code old now mid new goal taken masks_are used_are so_far sized spreads here sound =
    let same : (place : ℕ) → mask_in mid place ≡ mask_in now place = λ place. ap (λ masks. get_or masks place 0) masks_are in
    let used : (place : ℕ) → used_in mid place ≡ used_in now place = λ place. ap (λ marks. get_or marks place false) used_are in
    record {
      sized = sized;
      settled = λ place within. elim (cases_eq place goal) [
        | inl one ↦ subst (λ n. IsSearched code new n ⊎ Contains new.waiting.places n) (sym one) here
        | inr apart ↦ settled_still code mid new place spreads (elim (so_far.settled place within) [
          | inl was ↦ inl (settled_moved code now mid place same used was)
          | inr waits ↦ inr (still_waits now mid goal place taken apart waits)
        ])
      ];
      grown = λ place register set. spreads.masks place register (ap (λ n. bit_at n register) (same place) ∙ so_far.grown place register set);
      sound = λ bases was. sound bases (sound_moved code now mid bases same used (so_far.sound bases was));
    }

-- none waits
pub settled_all : (code : List Range) (old now mid : Search) → now.waiting.places ≡ [] → mid.masks.items ≡ now.masks.items → mid.used.items ≡ now.used.items
    → SettledSoFar code old now → (goal : ℕ) → goal < word_count code → IsSearched code mid goal
settled_all code old now mid none masks_are used_are so_far goal within = elim (so_far.settled goal within) [
  | inl settled ↦
      settled_moved code now mid goal (λ place. ap (λ masks. get_or masks place 0) masks_are) (λ place. ap (λ marks. get_or marks place false) used_are) settled
  | inr waits ↦ let (place, inside, is) = subst (λ places. Contains places goal) none waits in absurd (omega arith)
]
