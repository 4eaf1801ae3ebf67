-- The nodes from which arcs of one kind lead to others, as they are gathered one after the other.
use Rattle.std.proofs.Common.{◌≡◌, inl, inr, ℕ, ◌+◌, ◌<◌, List, [], ◌∷◌, ◌++◌, length, get_or, set, replicate, Option, Some, None, refl, sym, ap, ◌∙◌, subst, arith, get_or-set_other, get_or-set_same, length-set, length-append}
use Rattle.std.proofs.lemmas.Bool.{cases_eq, cases_lt}
use Rattle.std.proofs.lemmas.List.{get_or-replicate, length-replicate}
use Rattle.std.proofs.lemmas.Option.{none-some, same_Some, slice_get-get_or}
use Rattle.std.proofs.Math.ListN.{get_or-append}
use Rattle.std.proofs.Math.Seq.{get_or-append_seam}
use Rattle.regen_path.specs.declared.arcs.Ways.{Ways}
use Rattle.regen_path.specs.Arcs.{way_from}
use Rattle.regen_path.specs.Inner.Sources.{IsLastInto, IsFoundBy}

pub get_or_any : {X : Type 0} (xs : List X) (at : ℕ) (one other : X) → at < length xs → get_or xs at one ≡ get_or xs at other
get_or_any xs at one other inside = let first = slice_get-get_or xs at one inside in let second = slice_get-get_or xs at other inside in cc

-- a node more, whose arc leads elsewhere
last_wider : (table : List Ways) (kind goal node : ℕ) (found : Option ℕ) → (way_from table kind node ≡ Some goal → ⊥) → IsLastInto table kind goal node found → IsLastInto table kind goal (node + 1) found
last_wider table kind goal node None apart is = λ other less led. elim (cases_lt other node) [
  | inl below ↦ is other below led
  | inr past ↦ let equal : other ≡ node = omega arith in apart (subst (λ (n : ℕ). way_from table kind n ≡ Some goal) equal led)
]
last_wider table kind goal node (Some last) apart is = (
  (let less = is.0 in omega arith),
  is.1,
  λ other less led. elim (cases_lt other node) [
    | inl below ↦ is.2 other below led
    | inr past ↦ let equal : other ≡ node = omega arith in absurd (apart (subst (λ (n : ℕ). way_from table kind n ≡ Some goal) equal led))
  ],
)

pub found_none : (table : List Ways) (kind : ℕ) → IsFoundBy table kind 0 (replicate (length table) None) []
found_none table kind = record {
  goals = length-replicate (length table) None;
  sources = refl;
  lasts = λ goal within. subst (IsLastInto table kind goal 0) (sym (get_or-replicate (length table) goal None None within)) (λ node less led. absurd (omega arith));
  befores = λ node goal less led. absurd (omega arith);
}

found_led : (table : List Ways) (kind node goal : ℕ) (last before : List (Option ℕ)) → way_from table kind node ≡ Some goal → goal < length table
    → IsFoundBy table kind node last before → IsFoundBy table kind (node + 1) (set last goal (Some node)) (before ++ get_or last goal None ∷ [])
found_led table kind node goal last before led within found = record {
  goals = length-set last goal (Some node) ∙ found.goals;
  sources = length-append before (get_or last goal None ∷ []) ∙ ap (λ n. n + 1) found.sources;
  lasts = λ other inside. elim (cases_eq goal other) [
    | inl equal ↦
        let read : get_or (set last goal (Some node)) other None ≡ Some node =
        ap (λ n. get_or (set last goal (Some node)) n None) (sym equal) ∙ get_or-set_same last goal (Some node) None (omega (arith, found.goals))
        in
        subst (IsLastInto table kind other (node + 1)) (sym read) (omega arith, led ∙ ap (λ (n : ℕ). Some n) equal, λ next less led_there. omega arith)
    | inr apart ↦
        subst (IsLastInto table kind other (node + 1)) (sym (get_or-set_other last goal other (Some node) None (λ equal. apart (sym equal))))
        (last_wider table kind other node (get_or last other None) (λ led_there. apart (same_Some goal other (sym led ∙ led_there))) (found.lasts other inside))
  ];
  befores = λ place there inside led_there. elim (cases_lt place node) [
    | inl earlier ↦
        subst (IsLastInto table kind there place) (sym (get_or-append before (get_or last goal None ∷ []) None place (omega (arith, found.sources)))) (found.befores place there earlier led_there)
    | inr not_earlier ↦
        let last_one : place ≡ node = omega arith in
        let equal : goal ≡ there = same_Some goal there (sym led ∙ ap (way_from table kind) (sym last_one) ∙ led_there) in
        let read : get_or (before ++ get_or last goal None ∷ []) place None ≡ get_or last there None =
        ap (λ n. get_or (before ++ get_or last goal None ∷ []) n None) (last_one ∙ sym found.sources)
        ∙ get_or-append_seam before (get_or last goal None) [] None ∙ ap (λ n. get_or last n None) equal
        in
        subst (IsLastInto table kind there place) (sym read)
        (subst (λ (n : ℕ). IsLastInto table kind there n (get_or last there None)) (sym last_one) (found.lasts there (subst (λ (n : ℕ). n < length table) equal within)))
  ];
}

found_no : (table : List Ways) (kind node : ℕ) (last before : List (Option ℕ)) → way_from table kind node ≡ None
    → IsFoundBy table kind node last before → IsFoundBy table kind (node + 1) last (before ++ None ∷ [])
found_no table kind node last before none found = record {
  goals = found.goals;
  sources = length-append before (None ∷ []) ∙ ap (λ n. n + 1) found.sources;
  lasts = λ other inside. last_wider table kind other node (get_or last other None) (λ led. none-some other (sym none ∙ led)) (found.lasts other inside);
  befores = λ place there inside led. elim (cases_lt place node) [
    | inl earlier ↦ subst (IsLastInto table kind there place) (sym (get_or-append before (None ∷ []) None place (omega (arith, found.sources)))) (found.befores place there earlier led)
    | inr not_earlier ↦
        let last_one : place ≡ node = omega arith in
        absurd (none-some there (sym none ∙ ap (way_from table kind) (sym last_one) ∙ led))
  ];
}

-- the same of what the two rows are then
pub led_more : (table : List Ways) (kind node goal : ℕ) (last before last' before' : List (Option ℕ)) (value : Option ℕ) → way_from table kind node ≡ Some goal → goal < length table → value ≡ get_or last goal value
    → last' ≡ set last goal (Some node) → before' ≡ before ++ value ∷ [] → IsFoundBy table kind node last before → IsFoundBy table kind (node + 1) last' before'
led_more table kind node goal last before last' before' value led within value_is last_is before_is found =
    let equal : value ≡ get_or last goal None = value_is ∙ get_or_any last goal value None (omega (arith, found.goals)) in
    subst (λ (ls : List (Option ℕ)). IsFoundBy table kind (node + 1) ls before') (sym last_is)
    (subst (λ (bs : List (Option ℕ)). IsFoundBy table kind (node + 1) (set last goal (Some node)) bs) (sym (before_is ∙ ap (λ o. before ++ o ∷ []) equal))
    (found_led table kind node goal last before led within found))

pub none_more : (table : List Ways) (kind node : ℕ) (last before last' before' : List (Option ℕ)) → way_from table kind node ≡ None
    → last' ≡ last → before' ≡ before ++ None ∷ [] → IsFoundBy table kind node last before → IsFoundBy table kind (node + 1) last' before'
none_more table kind node last before last' before' none last_is before_is found =
    subst (λ (ls : List (Option ℕ)). IsFoundBy table kind (node + 1) ls before') (sym last_is)
    (subst (λ (bs : List (Option ℕ)). IsFoundBy table kind (node + 1) last bs) (sym before_is) (found_no table kind node last before none found))
