-- Going over the words that one way leads to a place, from the last of them to the first.
use Rattle.std.proofs.Common.{◌≡◌, ℕ, zero, suc, ◌<◌, Bool, true, false, cond, eqb, List, length, get_or, Option, Some, None, refl, sym, ap, subst, ◌∙◌, inl, inr, arith}
use Rattle.std.specs.Prelude.{⊤}
use Rattle.std.specs.Option.{option_map_or}
use Rattle.std.proofs.lemmas.Bool.{cases_Bool, cases_eq, cases_lt, eqb-true, eq-eqb}
use Rattle.std.proofs.lemmas.Option.{slice_get-get_or}
use Rattle.rv_code.specs.declared.image.Range.{Range}
use Rattle.rv_code.specs.Image.{word_count}
use Rattle.need_sets.specs.declared.search.Search.{Search}
use Rattle.need_sets.specs.Inner.Search.{IsSized, Spreads, IsPassed, IsBacked, AllNeeded, IsPassedBy}
use Rattle.need_sets.specs.Inner.Sources.{led_to, last_to, AreSources}
use Rattle.need_sets.proofs.Spread.{spreads_none, spreads_on}

-- the place stands behind the one found, or none was found
abbrev pub IsBehind : Option ℕ → ℕ → Type 0
IsBehind None source = ⊤
IsBehind (Some found) source = found < source

abbrev leads_by : Option ℕ → ℕ → Bool
leads_by there goal = option_map_or (λ place. eqb place goal) there false

leads-true : (there : Option ℕ) (goal : ℕ) → leads_by there goal ≡ true → there ≡ Some goal
leads-true None goal is = absurd (cc is)
leads-true (Some place) goal is = ap Some (eqb-true place goal is)

true-leads : (there : Option ℕ) (goal : ℕ) → there ≡ Some goal → leads_by there goal ≡ true
true-leads there goal is = ap (λ o. leads_by o goal) is ∙ eq-eqb goal goal refl

pub last_is : (to : ℕ → Option ℕ) (goal bound source : ℕ) → last_to to goal bound ≡ Some source → (source < bound) × (to source ≡ Some goal)
last_is to goal zero source is = absurd (cc is)
last_is to goal (suc place) source is = elim (cases_Bool (leads_by (to place) goal)) [
  | inl here ↦
      let same : place ≡ source = (let both = ap (λ b. cond b (Some place) (last_to to goal place)) (sym here) ∙ is in cc) in
      (omega arith, ap to (sym same) ∙ leads-true (to place) goal here)
  | inr gone ↦
      let (below, leads) = last_is to goal place source (ap (λ b. cond b (Some place) (last_to to goal place)) (sym gone) ∙ is) in
      (omega arith, leads)
]

-- no other stands between
pub last_gap : (to : ℕ → Option ℕ) (goal bound source : ℕ) → IsBehind (last_to to goal bound) source → source < bound → to source ≡ Some goal → ⊥
last_gap to goal zero source behind below leads = absurd (omega arith)
last_gap to goal (suc place) source behind below leads = elim (cases_Bool (leads_by (to place) goal)) [
  | inl here ↦
      let past : place < source = subst (λ b. IsBehind (cond b (Some place) (last_to to goal place)) source) here behind in
      absurd (omega arith)
  | inr gone ↦ elim (cases_eq source place) [
    | inl same ↦ absurd (cc (sym gone ∙ true-leads (to place) goal (ap to (sym same) ∙ leads)))
    | inr apart ↦
        last_gap to goal place source (subst (λ b. IsBehind (cond b (Some place) (last_to to goal place)) source) gone behind)
        (elim (cases_lt source place) [ inl less ↦ less | inr not_less ↦ absurd (apart (omega arith)) ]) leads
  ]
]

-- what was passed stays so
pub still_passed : (code : List Range) (old new : Search) (source behind : ℕ) → Spreads old new → IsPassed code old source behind → IsPassed code new source behind
still_passed code old new source behind spreads passed = record {
  masks = λ address register instr at is needs. spreads.masks source register (passed.masks address register instr at is needs);
  used = λ address register instr at is writes needs. spreads.used source (passed.used address register instr at is writes needs);
}

-- as far as the words down to the next one
pub record PassedDownTo (code : List Range) (taken : Bool) (goal behind : ℕ) (next : Option ℕ) (old now : Search) : Type 0 where
  pub sized : IsSized (word_count code) now
  pub spreads : Spreads old now
  pub here : (source : ℕ) → next ≡ Some source → (source < word_count code) × (led_to code taken source ≡ Some goal)
  pub done : (source : ℕ) → source < word_count code → led_to code taken source ≡ Some goal → IsBehind next source → IsPassed code now source behind
  pub sound : (bases : ℕ → Option ℕ) → AllNeeded code bases goal behind → IsBacked code bases old → IsBacked code bases now

get_or_none : (xs : List (Option ℕ)) (i : ℕ) (d : Option ℕ) → i < length xs → get_or xs i d ≡ get_or xs i None
get_or_none xs i d inside = let one = slice_get-get_or xs i d inside in let other = slice_get-get_or xs i None inside in cc

pub passed_first : (code : List Range) (taken : Bool) (goal behind : ℕ) (next : Option ℕ) (last before : List (Option ℕ)) (old : Search)
    → AreSources code taken (word_count code) last before → goal < word_count code → next ≡ get_or last goal next → IsSized (word_count code) old
    → PassedDownTo code taken goal behind next old old
passed_first code taken goal behind next last before old are inside next_is sized =
    let is : next ≡ last_to (led_to code taken) goal (word_count code) =
    next_is ∙ (get_or_none last goal next (omega (arith, are.goals)) ∙ are.lasts goal inside)
    in
    record {
      sized = sized;
      spreads = spreads_none old;
      here = λ source found. last_is (led_to code taken) goal (word_count code) source (sym is ∙ found);
      done = λ source within leads past.
          absurd (last_gap (led_to code taken) goal (word_count code) source (subst (λ o. IsBehind o source) is past) within leads);
      sound = λ bases all sound. sound;
    }

pub passed_more : (code : List Range) (taken : Bool) (goal behind source : ℕ) (now next : Option ℕ) (last before : List (Option ℕ)) (old mid new : Search)
    → AreSources code taken (word_count code) last before → now ≡ Some source → next ≡ get_or before source next
    → PassedDownTo code taken goal behind now old mid → IsSized (word_count code) new → Spreads mid new → IsPassed code new source behind
    → ((bases : ℕ → Option ℕ) (way : Bool) (to : ℕ) → led_to code way source ≡ Some to → AllNeeded code bases to behind → IsBacked code bases mid → IsBacked code bases new)
    → PassedDownTo code taken goal behind next old new
passed_more code taken goal behind source now next last before old mid new are now_is next_is passed sized spreads here sound =
    let (inside, leads) = passed.here source now_is in
    let is : next ≡ last_to (led_to code taken) goal source =
    next_is ∙ (get_or_none before source next (omega (arith, are.sources)) ∙ are.befores source goal inside leads)
    in
    record {
      sized = sized;
      spreads = spreads_on old mid new passed.spreads spreads;
      here = λ other found.
          let (below, leads_there) = last_is (led_to code taken) goal source other (sym is ∙ found) in (omega arith, leads_there);
      done = λ other within leads_there past. elim (cases_lt source other) [
        | inl later ↦
            still_passed code mid new other behind spreads
            (passed.done other within leads_there (subst (λ o. IsBehind o other) (sym now_is) later))
        | inr not_later ↦ elim (cases_eq other source) [
          | inl same ↦ subst (λ n. IsPassed code new n behind) (sym same) here
          | inr apart ↦
              let below : other < source = elim (cases_lt other source) [ inl less ↦ less | inr not_less ↦ absurd (apart (omega arith)) ] in
              absurd (last_gap (led_to code taken) goal source other (subst (λ o. IsBehind o other) is past) below leads_there)
        ]
      ];
      sound = λ bases all was. sound bases taken goal leads all (passed.sound bases all was);
    }

pub passed_all : (code : List Range) (taken : Bool) (goal behind : ℕ) (next : Option ℕ) (old now : Search) → next ≡ None
    → PassedDownTo code taken goal behind next old now → IsPassedBy code taken now goal behind
passed_all code taken goal behind next old now is passed source within leads = passed.done source within leads (subst (λ o. IsBehind o source) (sym is) tt)

-- how many words may be left
abbrev pub left_of : Option ℕ → ℕ
left_of None = 0
left_of (Some source) = suc source

pub next_falls : (code : List Range) (taken : Bool) (goal source : ℕ) (next : Option ℕ) (last before : List (Option ℕ))
    → AreSources code taken (word_count code) last before → source < word_count code → led_to code taken source ≡ Some goal → next ≡ get_or before source next
    → left_of next < suc source
next_falls code taken goal source next last before are inside leads next_is = go next
    (next_is ∙ (get_or_none before source next (omega (arith, are.sources)) ∙ are.befores source goal inside leads))
  where
    go : (found : Option ℕ) → found ≡ last_to (led_to code taken) goal source → left_of found < suc source
    go None is = omega arith
    go (Some other) is = omega (arith, last_is (led_to code taken) goal source other (sym is))
