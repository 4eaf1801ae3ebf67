-- Words that begin and words that end something, by recursion: each run goes from a word that begins to the first one that ends, and
-- its words stand one behind the other.
use Rattle.std.proofs.Common.{◌≡◌, ℕ, suc, ◌+◌, ◌<◌, Bool, true, false, cond, List, [], ◌∷◌, length, get_or, Option, Some, None, sym, subst, inl, inr, arith, add-one}
use Rattle.std.proofs.lemmas.Bool.{cases_Bool}
use Rattle.flow_graph.proofs.Paired.{Alternate}

-- the last word of a run that hasn't ended, behind this word
abbrev pub after : (ends : ℕ → Bool) → ℕ → Option ℕ
after ends word = cond (ends word) None (Some word)

abbrev pub Runs : (begins ends : ℕ → Bool) → Option ℕ → List ℕ → Type 0
Runs begins ends None [] = Unit {0}
Runs begins ends (Some before) [] = ⊥
Runs begins ends None (word ∷ words) = (begins word ≡ true) × Runs begins ends (after ends word) words
Runs begins ends (Some before) (word ∷ words) = (begins word ≡ false) × (word ≡ before + 4) × Runs begins ends (after ends word) words

record Follow (begins ends : ℕ → Bool) (words : List ℕ) : Type 0 where
  behind_last : (place : ℕ) → suc place < length words → ends (get_or words place 0) ≡ true → begins (get_or words (suc place) 0) ≡ true
  behind_other : (place : ℕ) → place < length words → ends (get_or words place 0) ≡ false
      → (suc place < length words) × (begins (get_or words (suc place) 0) ≡ false) × (get_or words (suc place) 0 ≡ get_or words place 0 + 4)

later : (begins ends : ℕ → Bool) (word : ℕ) (words : List ℕ) → Follow begins ends (word ∷ words) → Follow begins ends words
later begins ends word words follow = record {
  behind_last = λ place more last. follow.behind_last (suc place) (omega (arith, more)) last;
  behind_other = λ place within other.
      let it = follow.behind_other (suc place) (omega (arith, within)) other in
      (omega (arith, it.0), it.1, it.2);
}

-- what the first word does, in a run or behind one
abbrev Next : (begins : ℕ → Bool) → Option ℕ → List ℕ → Type 0
Next begins None words = 0 < length words → begins (get_or words 0 0) ≡ true
Next begins (Some before) words = (0 < length words) × (begins (get_or words 0 0) ≡ false) × (get_or words 0 0 ≡ before + 4)

behind : (begins ends : ℕ → Bool) (word : ℕ) (words : List ℕ) → Follow begins ends (word ∷ words)
    → ((state : Option ℕ) → Next begins state words → Runs begins ends state words) → Runs begins ends (after ends word) words
behind begins ends word words follow go = elim (cases_Bool (ends word)) [
  | inl last ↦
      subst (λ (b : Bool). Runs begins ends (cond b None (Some word)) words) (sym last)
      (go None (λ more. follow.behind_last 0 (omega (arith, more)) last))
  | inr other ↦
      let it = follow.behind_other 0 (omega arith) other in
      subst (λ (b : Bool). Runs begins ends (cond b None (Some word)) words) (sym other)
      (go (Some word) (omega (arith, it.0), it.1, it.2))
]

runs_on : (begins ends : ℕ → Bool) (state : Option ℕ) (words : List ℕ) → Follow begins ends words → Next begins state words → Runs begins ends state words
runs_on begins ends None [] follow next = tt
runs_on begins ends (Some before) [] follow next = absurd (omega (arith, next.0))
runs_on begins ends None (word ∷ words) follow next =
    (next (omega arith), behind begins ends word words follow (λ state more. runs_on begins ends state words (later begins ends word words follow) more))
runs_on begins ends (Some before) (word ∷ words) follow next =
    (next.1, next.2, behind begins ends word words follow (λ state more. runs_on begins ends state words (later begins ends word words follow) more))

pub runs_of : (begins ends : ℕ → Bool) (words : List ℕ) → Alternate begins ends words → Runs begins ends None words
runs_of begins ends words alternate =
    runs_on begins ends None words (record {
      behind_last = λ place more last.
          subst (λ (n : ℕ). begins (get_or words n 0) ≡ true) (add-one place) (alternate.behind_last place (omega (arith, more)) last);
      behind_other = λ place within other.
          let it = alternate.behind_other place within other in
          let next : place + 1 ≡ suc place = add-one place in (
            omega (arith, it.0),
            subst (λ (n : ℕ). begins (get_or words n 0) ≡ false) next it.1,
            subst (λ (n : ℕ). get_or words n 0 ≡ get_or words place 0 + 4) next it.2,
          );
    }) alternate.first
