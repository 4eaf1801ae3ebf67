-- Each run, from the word that begins it to the one that ends it, is whole and apart from the others.
use Rattle.std.proofs.Common.{◌≡◌, ℕ, zero, suc, ◌+◌, ◌%◌, ◌<◌, ◌≤◌, Bool, true, false, cond, List, [], ◌∷◌, Option, Some, None, refl, sym, ap, ◌∙◌, subst, inl, inr, arith}
use Rattle.std.specs.Prelude.{count_by, filter, slice_get}
use Rattle.std.specs.List.{AllByRecursion}
use Rattle.std.proofs.lemmas.Bool.{cases_Bool, cases_lt}
use Rattle.std.proofs.lemmas.Bool.Decides.{nat_tests}
use Rattle.std.proofs.lemmas.List.Sums.{sum_by-cons}
use Rattle.rv_code.proofs.LawsOfLists.{Rises, Rises-slice_get}
use Rattle.flow_graph.specs.declared.block.Block.{Block}
use Rattle.flow_graph.specs.Blocks.{holds}
use Rattle.flow_graph.proofs.Numbered.{ends_before, first_last, heading, holds_it, is_ahead, Ahead}
use Rattle.flow_graph.proofs.Paired.{pairs}
use Rattle.flow_graph.proofs.Runs.{Runs, after}

-- a run so far: it has begun, and not ended before its last word
pub record Part (begins ends is_word : ℕ → Bool) (leader last : ℕ) : Type 0 where
  pub order : leader ≤ last
  pub aligned : last % 4 ≡ 0
  pub begun : begins leader ≡ true
  pub alone : (address : ℕ) → address % 4 ≡ 0 → leader < address → address ≤ last → begins address ≡ false
  pub words : (address : ℕ) → address % 4 ≡ 0 → leader ≤ address → address ≤ last → is_word address ≡ true
  pub goes_on : (address : ℕ) → address % 4 ≡ 0 → leader ≤ address → address < last → ends address ≡ false

pub record IsWhole (begins ends is_word : ℕ → Bool) (block : Block) : Type 0 where
  pub part : Part begins ends is_word block.leader block.last
  pub ended : ends block.last ≡ true

one_word : (begins ends is_word : ℕ → Bool) (word : ℕ) → word % 4 ≡ 0 → is_word word ≡ true → begins word ≡ true → Part begins ends is_word word word
one_word begins ends is_word word aligned is begun = record {
  order = omega arith;
  aligned = aligned;
  begun = begun;
  alone = λ address _ above below. absurd (omega (arith, above, below));
  words = λ address _ above below. let same : word ≡ address = omega (arith, above, below) in subst (λ (n : ℕ). is_word n ≡ true) same is;
  goes_on = λ address _ above below. absurd (omega (arith, above, below));
}

grown : (begins ends is_word : ℕ → Bool) (leader last : ℕ) → Part begins ends is_word leader last → ends last ≡ false → begins (last + 4) ≡ false → is_word (last + 4) ≡ true
    → Part begins ends is_word leader (last + 4)
grown begins ends is_word leader last part other not_begun is = record {
  order = omega (arith, part.order);
  aligned = omega (arith, part.aligned);
  begun = part.begun;
  alone = λ address four above below. elim (cases_lt last address) [
    | inl behind ↦ let same : last + 4 ≡ address = omega (arith, four, part.aligned, behind, below) in subst (λ (n : ℕ). begins n ≡ false) same not_begun
    | inr within ↦ part.alone address four above within
  ];
  words = λ address four above below. elim (cases_lt last address) [
    | inl behind ↦ let same : last + 4 ≡ address = omega (arith, four, part.aligned, behind, below) in subst (λ (n : ℕ). is_word n ≡ true) same is
    | inr within ↦ part.words address four above within
  ];
  goes_on = λ address four above below. elim (cases_lt address last) [
    | inl within ↦ part.goes_on address four above within
    | inr behind ↦ let same : last ≡ address = omega (arith, four, part.aligned, behind, below) in subst (λ (n : ℕ). ends n ≡ false) same other
  ];
}

abbrev Going : (begins ends is_word : ℕ → Bool) → Option ℕ → ℕ → Type 0
Going begins ends is_word None leader = Unit {0}
Going begins ends is_word (Some before) leader = Part begins ends is_word leader before × (ends before ≡ false)

closed_or_on : (begins ends is_word : ℕ → Bool) (leader word : ℕ) (words rest : List ℕ) → Part begins ends is_word leader word
    → (Going begins ends is_word (after ends word) leader → AllByRecursion (IsWhole begins ends is_word) (pairs (heading (after ends word) leader rest) (filter ends words)))
    → AllByRecursion (IsWhole begins ends is_word) (pairs (leader ∷ rest) (filter ends (word ∷ words)))
closed_or_on begins ends is_word leader word words rest part go = elim (cases_Bool (ends word)) [
  | inl last ↦
      let later = subst (λ (b : Bool). Going begins ends is_word (cond b None (Some word)) leader → AllByRecursion (IsWhole begins ends is_word) (pairs (heading (cond b None (Some word)) leader rest) (filter ends words))) last go in
      rw last (record { part = part; ended = last }, later tt)
  | inr other ↦
      let later = subst (λ (b : Bool). Going begins ends is_word (cond b None (Some word)) leader → AllByRecursion (IsWhole begins ends is_word) (pairs (heading (cond b None (Some word)) leader rest) (filter ends words))) other go in
      rw other (later (part, other))
]

pub whole_runs : (begins ends is_word : ℕ → Bool) (state : Option ℕ) (leader : ℕ) (words : List ℕ) → Runs begins ends state words
    → AllByRecursion (λ word. (word % 4 ≡ 0) × (is_word word ≡ true)) words → Going begins ends is_word state leader
    → AllByRecursion (IsWhole begins ends is_word) (pairs (heading state leader (filter begins words)) (filter ends words))
whole_runs begins ends is_word None leader [] runs each going = tt
whole_runs begins ends is_word (Some before) leader [] runs each going = absurd runs
whole_runs begins ends is_word None leader (word ∷ words) runs each going =
    rw runs.0 (closed_or_on begins ends is_word word word words (filter begins words) (one_word begins ends is_word word each.0.0 each.0.1 runs.0)
    (λ on. whole_runs begins ends is_word (after ends word) word words runs.1 each.1 on))
whole_runs begins ends is_word (Some before) leader (word ∷ words) runs each going =
    let part : Part begins ends is_word leader word =
    subst (λ (n : ℕ). Part begins ends is_word leader n) (sym runs.1)
    (grown begins ends is_word leader before going.0 going.1 (ap begins (sym runs.1) ∙ runs.0) (ap is_word (sym runs.1) ∙ each.0.1))
    in
    rw runs.0 (closed_or_on begins ends is_word leader word words (filter begins words) part
    (λ on. whole_runs begins ends is_word (after ends word) leader words runs.2 each.1 on))

abbrev how_many : (address : ℕ) → List Block → ℕ
how_many address blocks = count_by (λ (block : Block). holds block address) blocks

one_more : (address : ℕ) (block : Block) (blocks : List Block) (b : Bool) (number : ℕ) → holds block address ≡ b → how_many address blocks ≡ number
    → how_many address (block ∷ blocks) ≡ cond b 1 0 + number
one_more address block blocks b number is rest =
    sum_by-cons (λ (block : Block). cond (holds block address) 1 0) block blocks
    ∙ (ap (λ (b : Bool). cond b 1 0 + how_many address blocks) is ∙ ap (λ (n : ℕ). cond b 1 0 + n) rest)

begins_behind : (leader last address : ℕ) → address < leader → holds (record { leader = leader; last = last }) address ≡ false
begins_behind leader last address before = grind (arith, nat_tests)

-- no run that begins behind a word holds it
none_behind : (begins : ℕ → Bool) (low address : ℕ) (words lasts : List ℕ) → Rises low words → address < low → how_many address (pairs (filter begins words) lasts) ≡ 0
none_behind begins low address [] lasts rises before = refl
none_behind begins low address (word ∷ words) [] rises before = elim (cases_Bool (begins word)) [
  | inl begun ↦ rw begun refl
  | inr other ↦ rw other (none_behind begins (word + 1) address words [] rises.1 (omega (arith, before, rises.0)))
]
none_behind begins low address (word ∷ words) (last ∷ lasts) rises before = elim (cases_Bool (begins word)) [
  | inl begun ↦
      rw begun (one_more address (record { leader = word; last = last }) (pairs (filter begins words) lasts) false 0 (begins_behind word last address (omega (arith, before, rises.0)))
      (none_behind begins (word + 1) address words lasts rises.1 (omega (arith, before, rises.0))))
  | inr other ↦ rw other (none_behind begins (word + 1) address words (last ∷ lasts) rises.1 (omega (arith, before, rises.0)))
]

once_here : (begins ends : ℕ → Bool) (leader word : ℕ) (words : List ℕ) → leader ≤ word → Runs begins ends (after ends word) words → Rises (word + 1) words
    → how_many word (pairs (leader ∷ filter begins words) (filter ends (word ∷ words))) ≡ 1
once_here begins ends leader word words above runs rises = elim (cases_Bool (ends word)) [
  | inl last ↦
      rw last (one_more word (record { leader = leader; last = word }) (pairs (filter begins words) (filter ends words)) true 0 (holds_it leader word word above (omega arith))
      (none_behind begins (word + 1) word words (filter ends words) rises (omega arith)))
  | inr other ↦
      let on : Runs begins ends (Some word) words = subst (λ (b : Bool). Runs begins ends (cond b None (Some word)) words) other runs in
      let end = first_last begins ends word (word + 1) words on rises in
      rw (other, end.2) (one_more word (record { leader = leader; last = end.0 }) (pairs (filter begins words) end.1) true 0 (holds_it leader end.0 word above (omega (arith, end.3)))
      (none_behind begins (word + 1) word words end.1 rises (omega arith)))
]

once_there : (ends : ℕ → Bool) (leader word address : ℕ) (words rest : List ℕ) → word < address → how_many address (pairs (heading (after ends word) leader rest) (filter ends words)) ≡ 1
    → how_many address (pairs (leader ∷ rest) (filter ends (word ∷ words))) ≡ 1
once_there ends leader word address words rest less found = elim (cases_Bool (ends word)) [
  | inl last ↦
      let later : how_many address (pairs rest (filter ends words)) ≡ 1 =
      sym (ap (λ (b : Bool). how_many address (pairs (heading (cond b None (Some word)) leader rest) (filter ends words))) last) ∙ found
      in
      rw last (one_more address (record { leader = leader; last = word }) (pairs rest (filter ends words)) false 1 (ends_before leader word address less) later)
  | inr other ↦
      let same : how_many address (pairs (leader ∷ rest) (filter ends words)) ≡ 1 =
      sym (ap (λ (b : Bool). how_many address (pairs (heading (cond b None (Some word)) leader rest) (filter ends words))) other) ∙ found
      in
      rw other same
]

-- each word is in one run
pub in_one_run : (begins ends : ℕ → Bool) (state : Option ℕ) (leader low place address : ℕ) (words : List ℕ) → Runs begins ends state words → Rises low words → Ahead state leader low
    → slice_get words place ≡ Some address → how_many address (pairs (heading state leader (filter begins words)) (filter ends words)) ≡ 1
in_one_run begins ends state leader low place address [] runs rises ahead is = absurd (cc is)
in_one_run begins ends None leader low zero address (word ∷ words) runs rises ahead is =
    let same : word ≡ address = cc is in
    rw runs.0 (subst (λ (n : ℕ). how_many n (pairs (word ∷ filter begins words) (filter ends (word ∷ words))) ≡ 1) same (once_here begins ends word word words (omega arith) runs.1 rises.1))
in_one_run begins ends None leader low (suc place) address (word ∷ words) runs rises ahead is =
    let above = Rises-slice_get (word + 1) place address words rises.1 is in
    rw runs.0 (once_there ends word word address words (filter begins words) (omega (arith, above))
    (in_one_run begins ends (after ends word) word (word + 1) place address words runs.1 rises.1 (is_ahead (after ends word) word (word + 1) (omega arith)) is))
in_one_run begins ends (Some before) leader low zero address (word ∷ words) runs rises ahead is =
    let same : word ≡ address = cc is in
    rw runs.0 (subst (λ (n : ℕ). how_many n (pairs (leader ∷ filter begins words) (filter ends (word ∷ words))) ≡ 1) same (once_here begins ends leader word words (omega (arith, ahead, rises.0)) runs.2 rises.1))
in_one_run begins ends (Some before) leader low (suc place) address (word ∷ words) runs rises ahead is =
    let above = Rises-slice_get (word + 1) place address words rises.1 is in
    rw runs.0 (once_there ends leader word address words (filter begins words) (omega (arith, above))
    (in_one_run begins ends (after ends word) leader (word + 1) place address words runs.2 rises.1 (is_ahead (after ends word) leader (word + 1) (omega (arith, ahead, rises.0))) is))
