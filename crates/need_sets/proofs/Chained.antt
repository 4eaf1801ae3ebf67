-- The words that take their ways to a place, as they are gathered one after the other.
use Rattle.std.proofs.Common.{◌≡◌, ℕ, suc, ◌+◌, ◌<◌, Bool, true, false, cond, eqb, List, [], ◌∷◌, ◌++◌, length, get_or, set, Option, Some, None, refl, sym, ap, subst, ◌∙◌, inl, inr, arith, get_or-set_other, get_or-set_same, length-set, length-append}
use Rattle.std.specs.Option.{option_map_or}
use Rattle.std.proofs.lemmas.Bool.{cases_eq, cases_lt, eq-eqb, ne_eqb}
use Rattle.std.proofs.lemmas.Option.{slice_get-get_or}
use Rattle.std.proofs.Math.ListN.{get_or-append}
use Rattle.std.proofs.Math.Seq.{get_or-append_seam}
use Rattle.rv_code.specs.declared.image.Range.{Range}
use Rattle.rv_code.specs.Image.{word_count}
use Rattle.need_sets.specs.Inner.Sources.{led_to, last_to, AreSources}

abbrev leads_by : Option ℕ → ℕ → Bool
leads_by to goal = option_map_or (λ there. eqb there goal) to false

last_here : (to : ℕ → Option ℕ) (goal place : ℕ) → to place ≡ Some goal → last_to to goal (suc place) ≡ Some place
last_here to goal place is =
    let test : leads_by (to place) goal ≡ true = ap (λ o. leads_by o goal) is ∙ eq-eqb goal goal refl in
    ap (λ b. cond b (Some place) (last_to to goal place)) test

last_other : (to : ℕ → Option ℕ) (goal other place : ℕ) → to place ≡ Some other → (other ≡ goal → ⊥) → last_to to goal (suc place) ≡ last_to to goal place
last_other to goal other place is apart =
    let test : leads_by (to place) goal ≡ false = ap (λ o. leads_by o goal) is ∙ ne_eqb other goal apart in
    ap (λ b. cond b (Some place) (last_to to goal place)) test

last_none : (to : ℕ → Option ℕ) (goal place : ℕ) → to place ≡ None → last_to to goal (suc place) ≡ last_to to goal place
last_none to goal place is =
    let test : leads_by (to place) goal ≡ false = ap (λ o. leads_by o goal) is in
    ap (λ b. cond b (Some place) (last_to to goal place)) test

-- one word more that takes its way to a place
pub sources_led : (code : List Range) (taken : Bool) (count goal : ℕ) (last before : List (Option ℕ)) → led_to code taken count ≡ Some goal → goal < word_count code
    → AreSources code taken count last before → AreSources code taken (count + 1) (set last goal (Some count)) (before ++ get_or last goal None ∷ [])
sources_led code taken count goal last before is below are =
    let next : count + 1 ≡ suc count = omega arith in
    record {
      goals = length-set last goal (Some count) ∙ are.goals;
      sources = length-append before (get_or last goal None ∷ []) ∙ ap (λ n. n + 1) are.sources;
      lasts = λ other inside. elim (cases_eq goal other) [
        | inl same ↦
            ap (λ n. get_or (set last goal (Some count)) n None) (sym same)
            ∙ (get_or-set_same last goal (Some count) None (omega (arith, are.goals))
            ∙ sym (ap (last_to (led_to code taken) other) next ∙ last_here (led_to code taken) other count (is ∙ ap Some same)))
        | inr apart ↦
            get_or-set_other last goal other (Some count) None (λ same. apart (sym same))
            ∙ (are.lasts other inside ∙ sym (ap (last_to (led_to code taken) other) next ∙ last_other (led_to code taken) other goal count is apart))
      ];
      befores = λ place there inside leads_there. elim (cases_lt place count) [
        | inl earlier ↦
            get_or-append before (get_or last goal None ∷ []) None place (omega (arith, are.sources))
            ∙ are.befores place there earlier leads_there
        | inr not_earlier ↦
            let last_one : place ≡ count = omega arith in
            let same : goal ≡ there = (let both = sym is ∙ (ap (led_to code taken) (sym last_one) ∙ leads_there) in cc) in
            ap (λ n. get_or (before ++ get_or last goal None ∷ []) n None) (last_one ∙ sym are.sources)
            ∙ (get_or-append_seam before (get_or last goal None) [] None
            ∙ (are.lasts goal below
            ∙ (ap (λ n. last_to (led_to code taken) n count) same ∙ ap (last_to (led_to code taken) there) (sym last_one))))
      ];
    }

-- one word more that takes its way to none
pub sources_none : (code : List Range) (taken : Bool) (count : ℕ) (last before : List (Option ℕ)) → led_to code taken count ≡ None
    → AreSources code taken count last before → AreSources code taken (count + 1) last (before ++ None ∷ [])
sources_none code taken count last before is are =
    let next : count + 1 ≡ suc count = omega arith in
    record {
      goals = are.goals;
      sources = length-append before (None ∷ []) ∙ ap (λ n. n + 1) are.sources;
      lasts = λ other inside. are.lasts other inside ∙ sym (ap (last_to (led_to code taken) other) next ∙ last_none (led_to code taken) other count is);
      befores = λ place there inside leads_there. elim (cases_lt place count) [
        | inl earlier ↦ get_or-append before (None ∷ []) None place (omega (arith, are.sources)) ∙ are.befores place there earlier leads_there
        | inr not_earlier ↦
            let last_one : place ≡ count = omega arith in
            absurd (cc (sym leads_there ∙ (ap (led_to code taken) last_one ∙ is)))
      ];
    }

-- the same of what the two rows are then
pub taken_more : (code : List Range) (taken : Bool) (count goal : ℕ) (last before last' before' : List (Option ℕ)) (found : Option ℕ)
    → led_to code taken count ≡ Some goal → goal < word_count code → found ≡ get_or last goal found
    → last' ≡ set last goal (Some count) → before' ≡ before ++ found ∷ [] → AreSources code taken count last before → AreSources code taken (count + 1) last' before'
taken_more code taken count goal last before last' before' found is below found_is last_is before_is are =
    let same : found ≡ get_or last goal None = found_is ∙ get_or_any last goal found None (omega (arith, are.goals)) in
    subst (λ (ls : List (Option ℕ)). AreSources code taken (count + 1) ls before') (sym last_is)
    (subst (λ (bs : List (Option ℕ)). AreSources code taken (count + 1) (set last goal (Some count)) bs) (sym (before_is ∙ ap (λ o. before ++ o ∷ []) same))
    (sources_led code taken count goal last before is below are))
  where
    get_or_any : (xs : List (Option ℕ)) (i : ℕ) (d e : Option ℕ) → i < length xs → get_or xs i d ≡ get_or xs i e
    get_or_any xs i d e inside = let one = slice_get-get_or xs i d inside in let other = slice_get-get_or xs i e inside in cc

pub none_more : (code : List Range) (taken : Bool) (count : ℕ) (last before last' before' : List (Option ℕ)) → led_to code taken count ≡ None
    → last' ≡ last → before' ≡ before ++ None ∷ [] → AreSources code taken count last before → AreSources code taken (count + 1) last' before'
none_more code taken count last before last' before' is last_is before_is are =
    subst (λ (ls : List (Option ℕ)). AreSources code taken (count + 1) ls before') (sym last_is)
    (subst (λ (bs : List (Option ℕ)). AreSources code taken (count + 1) last bs) (sym before_is) (sources_none code taken count last before is are))
