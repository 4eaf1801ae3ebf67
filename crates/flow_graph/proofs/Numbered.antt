-- The number of the block that holds a word: so many words before it end a block.
use Rattle.std.proofs.Common.{◌≡◌, ℕ, zero, suc, ◌+◌, ◌<◌, ◌≤◌, Bool, true, false, cond, ltb, List, [], ◌∷◌, length, take, Option, Some, None, refl, sym, ap, ◌∙◌, subst, inl, inr, arith}
use Rattle.std.specs.Prelude.{filter, position, slice_get}
use Rattle.std.specs.List.{position_or_len}
use Rattle.std.proofs.lemmas.Bool.{cases_Bool, cases_lt, lt-ltb, le-ltb}
use Rattle.std.proofs.lemmas.Bool.Decides.{nat_tests}
use Rattle.rv_code.proofs.LawsOfLists.{Rises, Rises-slice_get}
use Rattle.flow_graph.specs.declared.block.Block.{Block}
use Rattle.flow_graph.specs.Blocks.{holds}
use Rattle.flow_graph.proofs.Paired.{pairs}
use Rattle.flow_graph.proofs.Runs.{Runs, after}

pub position_here : (test : Block → Bool) (block : Block) (blocks : List Block) → test block ≡ true → position test (block ∷ blocks) ≡ Some 0
position_here test block blocks passes =
    let within : ltb 0 (suc (length blocks)) ≡ true = lt-ltb 0 (suc (length blocks)) (omega arith) in
    rw passes (rw within refl)

pub position_there : (test : Block → Bool) (block : Block) (blocks : List Block) (number : ℕ) → test block ≡ false → position test blocks ≡ Some number
    → position test (block ∷ blocks) ≡ Some (suc number)
position_there test block blocks number fails found = elim (cases_lt (position_or_len test blocks) (length blocks)) [
  | inl inside ↦
      let here : ltb (position_or_len test blocks) (length blocks) ≡ true = lt-ltb (position_or_len test blocks) (length blocks) inside in
      let there : ltb (1 + position_or_len test blocks) (suc (length blocks)) ≡ true = lt-ltb (1 + position_or_len test blocks) (suc (length blocks)) (omega (arith, inside)) in
      let same : Some (position_or_len test blocks) ≡ Some number = sym (ap (λ (b : Bool). cond b (Some (position_or_len test blocks)) None) here) ∙ found in
      let number_is : position_or_len test blocks ≡ number = cc in
      rw fails (rw there (ap Some (omega (arith, number_is))))
  | inr none ↦
      let here : ltb (position_or_len test blocks) (length blocks) ≡ false = le-ltb (position_or_len test blocks) (length blocks) none in
      let never : None ≡ Some number = sym (ap (λ (b : Bool). cond b (Some (position_or_len test blocks)) None) here) ∙ found in
      absurd (cc never)
]

pub holds_it : (leader last address : ℕ) → leader ≤ address → address ≤ last → holds (record { leader = leader; last = last }) address ≡ true
holds_it leader last address above below = grind (arith, nat_tests)

pub ends_before : (leader last address : ℕ) → last < address → holds (record { leader = leader; last = last }) address ≡ false
ends_before leader last address before = grind (arith, nat_tests)

-- a run that goes on ends with a later word
pub first_last : (begins ends : ℕ → Bool) (before low : ℕ) (words : List ℕ) → Runs begins ends (Some before) words → Rises low words
    → (last : ℕ) × (rest : List ℕ) × (filter ends words ≡ last ∷ rest) × (low ≤ last)
first_last begins ends before low [] runs rises = absurd runs
first_last begins ends before low (word ∷ words) runs rises = elim (cases_Bool (ends word)) [
  | inl last ↦ (word, filter ends words, rw last refl, rises.0)
  | inr other ↦
      let on : Runs begins ends (Some word) words = subst (λ (b : Bool). Runs begins ends (cond b None (Some word)) words) other runs.2 in
      let rest = first_last begins ends word (word + 1) words on rises.1 in
      (rest.0, rest.1, rw other rest.2, omega (arith, rises.0, rest.3))
]

-- the leader of a run that hasn't ended, before the others
abbrev pub heading : Option ℕ → ℕ → List ℕ → List ℕ
heading None leader leaders = leaders
heading (Some before) leader leaders = leader ∷ leaders

abbrev pub Ahead : Option ℕ → ℕ → ℕ → Type 0
Ahead None leader low = Unit {0}
Ahead (Some before) leader low = leader < low

pub is_ahead : (state : Option ℕ) (leader low : ℕ) → leader < low → Ahead state leader low
is_ahead None leader low less = tt
is_ahead (Some before) leader low less = less

here : (begins ends : ℕ → Bool) (leader word : ℕ) (words rest : List ℕ) → leader ≤ word → Runs begins ends (after ends word) words → Rises (word + 1) words
    → position (λ (block : Block). holds block word) (pairs (leader ∷ rest) (filter ends (word ∷ words))) ≡ Some 0
here begins ends leader word words rest above runs rises = elim (cases_Bool (ends word)) [
  | inl last ↦ rw last (position_here (λ (block : Block). holds block word) (record { leader = leader; last = word }) (pairs rest (filter ends words)) (holds_it leader word word above (omega arith)))
  | inr other ↦
      let on : Runs begins ends (Some word) words = subst (λ (b : Bool). Runs begins ends (cond b None (Some word)) words) other runs in
      let end = first_last begins ends word (word + 1) words on rises in
      rw (other, end.2) (position_here (λ (block : Block). holds block word) (record { leader = leader; last = end.0 }) (pairs rest end.1) (holds_it leader end.0 word above (omega (arith, end.3))))
]

there : (ends : ℕ → Bool) (leader word address : ℕ) (words rest seen : List ℕ) → word < address
    → position (λ (block : Block). holds block address) (pairs (heading (after ends word) leader rest) (filter ends words)) ≡ Some (length (filter ends seen))
    → position (λ (block : Block). holds block address) (pairs (leader ∷ rest) (filter ends (word ∷ words))) ≡ Some (length (filter ends (word ∷ seen)))
there ends leader word address words rest seen less found = elim (cases_Bool (ends word)) [
  | inl last ↦
      let later : position (λ (block : Block). holds block address) (pairs rest (filter ends words)) ≡ Some (length (filter ends seen)) =
      sym (ap (λ (b : Bool). position (λ (block : Block). holds block address) (pairs (heading (cond b None (Some word)) leader rest) (filter ends words))) last) ∙ found
      in
      rw last (position_there (λ (block : Block). holds block address) (record { leader = leader; last = word }) (pairs rest (filter ends words)) (length (filter ends seen)) (ends_before leader word address less) later)
  | inr other ↦
      let same : position (λ (block : Block). holds block address) (pairs (leader ∷ rest) (filter ends words)) ≡ Some (length (filter ends seen)) =
      sym (ap (λ (b : Bool). position (λ (block : Block). holds block address) (pairs (heading (cond b None (Some word)) leader rest) (filter ends words))) other) ∙ found
      in
      rw other same
]

pub numbered : (begins ends : ℕ → Bool) (state : Option ℕ) (leader low place address : ℕ) (words : List ℕ) → Runs begins ends state words → Rises low words → Ahead state leader low
    → slice_get words place ≡ Some address
    → position (λ (block : Block). holds block address) (pairs (heading state leader (filter begins words)) (filter ends words)) ≡ Some (length (filter ends (take place words)))
numbered begins ends state leader low place address [] runs rises ahead is = absurd (cc is)
numbered begins ends None leader low zero address (word ∷ words) runs rises ahead is =
    let same : word ≡ address = cc is in
    rw runs.0 (subst (λ (n : ℕ). position (λ (block : Block). holds block n) (pairs (word ∷ filter begins words) (filter ends (word ∷ words))) ≡ Some 0) same
    (here begins ends word word words (filter begins words) (omega arith) runs.1 rises.1))
numbered begins ends None leader low (suc place) address (word ∷ words) runs rises ahead is =
    let above = Rises-slice_get (word + 1) place address words rises.1 is in
    rw runs.0 (there ends word word address words (filter begins words) (take place words) (omega (arith, above))
    (numbered begins ends (after ends word) word (word + 1) place address words runs.1 rises.1 (is_ahead (after ends word) word (word + 1) (omega arith)) is))
numbered begins ends (Some before) leader low zero address (word ∷ words) runs rises ahead is =
    let same : word ≡ address = cc is in
    rw runs.0 (subst (λ (n : ℕ). position (λ (block : Block). holds block n) (pairs (leader ∷ filter begins words) (filter ends (word ∷ words))) ≡ Some 0) same
    (here begins ends leader word words (filter begins words) (omega (arith, ahead, rises.0)) runs.2 rises.1))
numbered begins ends (Some before) leader low (suc place) address (word ∷ words) runs rises ahead is =
    let above = Rises-slice_get (word + 1) place address words rises.1 is in
    rw runs.0 (there ends leader word address words (filter begins words) (take place words) (omega (arith, above))
    (numbered begins ends (after ends word) leader (word + 1) place address words runs.2 rises.1 (is_ahead (after ends word) leader (word + 1) (omega (arith, ahead, rises.0))) is))
