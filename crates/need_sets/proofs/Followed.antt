-- Direct successors, by addresses and by places.
use Rattle.std.proofs.Common.{◌≡◌, ℕ, zero, suc, ◌<◌, Bool, true, false, cond, List, [], ◌∷◌, ◌++◌, Option, Some, None, refl, sym, ap, subst, ◌∙◌, inl, inr, arith}
use Rattle.std.specs.Prelude.{filter}
use Rattle.std.specs.List.{Contains}
use Rattle.std.specs.Option.{option_and_then, option_map_or}
use Rattle.std.proofs.lemmas.Bool.{cases_Bool}
use Rattle.std.proofs.lemmas.List.Elements.{Contains-append_left, Contains-append_right, Contains-append_cases}
use Rattle.rv_code.specs.declared.image.Range.{Range}
use Rattle.rv_code.specs.declared.instr.Instr.{Instr}
use Rattle.rv_code.specs.Code.{extents_of, is_code}
use Rattle.rv_code.specs.Image.{word_count}
use Rattle.rv_code.specs.Places.{address_of, place_of, AreCodeExtents}
use Rattle.rv_code.specs.Ways.{as_list, way_to, successor_by, successors_of}
use Rattle.rv_code.proofs.LawsOfLookUps.{address_of-place_of, place_of-below, is_some-place_of}
use Rattle.rv_code.proofs.LawsOfPlaces.{length-code_addresses_of_ranges}
use Rattle.rv_code.proofs.LawsOfElements.{filter_Contains}
use Rattle.rv_code.proofs.LawsOfTests.{some_there}
use Rattle.flow_graph.specs.CodeParts.{instr_in}
use Rattle.need_sets.specs.Inner.Sources.{led_to}
use Rattle.need_sets.specs.Words.{successor_at, successors_at}

-- an answer of two steps
pub two_steps : {X Y : Type 0} (f : X → Option Y) (o : Option X) (y : Y) → option_and_then f o ≡ Some y → (x : X) × (o ≡ Some x) × (f x ≡ Some y)
two_steps f None y is = absurd (cc is)
two_steps f (Some x) y is = (x, refl, is)

Contains-filter : (p : ℕ → Bool) (xs : List ℕ) (x : ℕ) → Contains (filter p xs) x → Contains xs x × (p x ≡ true)
Contains-filter p [] x (place, inside, is) = absurd (omega arith)
Contains-filter p (y ∷ ys) x within = elim (cases_Bool (p y)) [
  | inl here ↦ front p x y ys here (Contains-filter p ys x) (subst (λ b. Contains (cond b (y ∷ filter p ys) (filter p ys)) x) here within)
  | inr gone ↦
      let (later, passes) = Contains-filter p ys x (subst (λ b. Contains (cond b (y ∷ filter p ys) (filter p ys)) x) gone within) in
      let (place, inside, is) = later in
      ((suc place, omega arith, is), passes)
]
  where
    front : (p : ℕ → Bool) (x y : ℕ) (ys : List ℕ) → p y ≡ true → (Contains (filter p ys) x → Contains ys x × (p x ≡ true)) → Contains (y ∷ filter p ys) x
        → Contains (y ∷ ys) x × (p x ≡ true)
    front p x y ys here rest (zero, inside, is) = ((0, omega arith, is), ap p (sym is) ∙ here)
    front p x y ys here rest (suc place, inside, is) =
        let (later, passes) = rest (place, omega arith, is) in
        let (there, within, same) = later in
        ((suc there, omega arith, same), passes)

as_list-Contains : (o : Option ℕ) (x : ℕ) → o ≡ Some x → Contains (as_list o) x
as_list-Contains o x is = subst (λ found. Contains (as_list found) x) (sym is) (0, omega arith, refl)

Contains-as_list : (o : Option ℕ) (x : ℕ) → Contains (as_list o) x → o ≡ Some x
Contains-as_list None x (place, inside, is) = absurd (omega arith)
Contains-as_list (Some y) x (zero, inside, is) = ap Some is
Contains-as_list (Some y) x (suc place, inside, is) = absurd (omega arith)

-- where a way leads to a code word
by_way : (code : ℕ → Bool) (taken : Bool) (instr : Instr) (address next : ℕ) → successor_by code taken instr address ≡ Some next
    → (way_to taken instr address ≡ Some next) × (code next ≡ true)
by_way code taken instr address next is =
    let (there, way, kept) = two_steps (λ n. cond (code n) (Some n) None) (way_to taken instr address) next is in
    elim (cases_Bool (code there)) [
      | inl passes ↦
          let same : there ≡ next = (let both = ap (λ b. cond b (Some there) None) (sym passes) ∙ kept in cc) in
          (way ∙ ap Some same, ap code (sym same) ∙ passes)
      | inr fails ↦ absurd (cc (ap (λ b. cond b (Some there) None) (sym fails) ∙ kept))
    ]

way_by : (code : ℕ → Bool) (taken : Bool) (instr : Instr) (address next : ℕ) → way_to taken instr address ≡ Some next → code next ≡ true
    → successor_by code taken instr address ≡ Some next
way_by code taken instr address next way passes =
    ap (option_and_then (λ n. cond (code n) (Some n) None)) way ∙ ap (λ b. cond b (Some next) None) passes

one_of_both : (taken : Bool) (code : ℕ → Bool) (instr : Instr) (address next : ℕ) → way_to taken instr address ≡ Some next
    → Contains (as_list (way_to false instr address) ++ as_list (way_to true instr address)) next
one_of_both true code instr address next way =
    Contains-append_right (as_list (way_to false instr address)) (as_list (way_to true instr address)) next (as_list-Contains (way_to true instr address) next way)
one_of_both false code instr address next way =
    Contains-append_left (as_list (way_to false instr address)) (as_list (way_to true instr address)) next (as_list-Contains (way_to false instr address) next way)

-- the words of both ways are the direct successors
pub successor_follows : (code : List Range) (address next : ℕ) (taken : Bool) → successor_at code address taken ≡ Some next → Contains (successors_at code address) next
successor_follows code address next taken is =
    let (instr, found, leads) = two_steps (λ (i : Instr). successor_by (is_code (extents_of code)) taken i address) (instr_in code address) next is in
    let (way, passes) = by_way (is_code (extents_of code)) taken instr address next leads in
    subst (λ (o : Option Instr). Contains (option_map_or (λ i. successors_of (is_code (extents_of code)) i address) o []) next) (sym found)
    (filter_Contains (is_code (extents_of code)) (as_list (way_to false instr address) ++ as_list (way_to true instr address)) next
    (one_of_both taken (is_code (extents_of code)) instr address next way) passes)

pub followed_by : (code : List Range) (address next : ℕ) → Contains (successors_at code address) next
    → (taken : Bool) × (successor_at code address taken ≡ Some next) × (is_code (extents_of code) next ≡ true)
followed_by code address next within = go (instr_in code address) refl within
  where
    tests : ℕ → Bool
    tests = is_code (extents_of code)

    go : (o : Option Instr) → instr_in code address ≡ o → Contains (option_map_or (λ i. successors_of tests i address) o []) next
        → (taken : Bool) × (successor_at code address taken ≡ Some next) × (tests next ≡ true)
    go None is (place, inside, same) = absurd (omega arith)
    go (Some instr) is there =
        let (either, passes) = Contains-filter tests (as_list (way_to false instr address) ++ as_list (way_to true instr address)) next there in
        let at : (taken : Bool) → way_to taken instr address ≡ Some next → successor_at code address taken ≡ Some next =
        λ taken way. ap (option_and_then (λ (i : Instr). successor_by tests taken i address)) is ∙ way_by tests taken instr address next way passes
        in
        elim (Contains-append_cases (as_list (way_to false instr address)) (as_list (way_to true instr address)) next either) [
          | inl falls ↦ (false, at false (Contains-as_list (way_to false instr address) next falls), passes)
          | inr takes ↦ (true, at true (Contains-as_list (way_to true instr address) next takes), passes)
        ]

-- a place that a way leads to, and the addresses of both words
pub record Leads (code : List Range) (source goal : ℕ) : Type 0 where
  pub from : ℕ
  pub to : ℕ
  pub at : address_of (extents_of code) source ≡ Some from
  pub there : address_of (extents_of code) goal ≡ Some to
  pub follows : Contains (successors_at code from) to

pub led_leads : (code : List Range) (taken : Bool) (source goal : ℕ) → led_to code taken source ≡ Some goal → Leads code source goal
led_leads code taken source goal is =
    let (from, at, next) =
    two_steps (λ a. option_and_then (λ n. place_of (extents_of code) n) (successor_at code a taken)) (address_of (extents_of code) source) goal is
    in
    let (to, leads, place) = two_steps (λ n. place_of (extents_of code) n) (successor_at code from taken) goal next in
    record {
      from = from;
      to = to;
      at = at;
      there = address_of-place_of (extents_of code) goal to place;
      follows = successor_follows code from to taken leads;
    }

-- a direct successor of the word at a place is the word at a place that a way leads to
pub record LedOn (code : List Range) (source address next : ℕ) : Type 0 where
  pub taken : Bool
  pub goal : ℕ
  pub within : goal < word_count code
  pub led : led_to code taken source ≡ Some goal
  pub at : address_of (extents_of code) goal ≡ Some next

pub leads_on : (code : List Range) (source address next : ℕ) → AreCodeExtents (extents_of code) → address_of (extents_of code) source ≡ Some address
    → Contains (successors_at code address) next → LedOn code source address next
leads_on code source address next order at within =
    let (taken, leads, passes) = followed_by code address next within in
    let (goal, place) = some_there (place_of (extents_of code) next) (is_some-place_of (extents_of code) next order.each ∙ passes) in
    record {
      taken = taken;
      goal = goal;
      within = subst (λ n. goal < n) (length-code_addresses_of_ranges code) (place_of-below (extents_of code) goal next place);
      led =
          ap (option_and_then (λ a. option_and_then (λ n. place_of (extents_of code) n) (successor_at code a taken))) at
          ∙ (ap (option_and_then (λ n. place_of (extents_of code) n)) leads ∙ place);
      at = address_of-place_of (extents_of code) goal next place;
    }
