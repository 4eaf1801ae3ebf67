-- From the farthest sources of heads, how many heads there are to which edges go back past an address.
use Rattle.std.proofs.Common.{◌≡◌, ℕ, ◌+◌, ◌<◌, ◌≤◌, Bool, true, false, cond, eqb, leb, ltb, ◌&&◌, List, [], ◌∷◌, length, Option, Some, Result, Ok, Err, sym, refl, ap, ◌∙◌, subst, inl, inr, arith}
use Rattle.std.specs.Prelude.{IfOk, count_by, filter, nat_eq, nat_le, nat_lt}
use Rattle.std.specs.BTreeMap.{BTreeMap, IsOrdered, is_at, keys, values}
use Rattle.std.specs.Cmp.{nat_eq_equiv}
use Rattle.std.specs.List.{AllByRecursion, IsDistinct}
use Rattle.std.specs.List.Sorted.{IsNonDecreasing, IsPermutation}
use Rattle.std.specs.Option.{option_map_or}
use Rattle.std.specs.Map.{keys_of, values_of, lookup}
use Rattle.std.specs.Ordering.{nat_cmp}
use Rattle.std.specs.Set.{distinct_count, is_member}
use Rattle.std.proofs.lemmas.Bool.{cases_Bool, eq-eqb, eqb-true, le-leb, leb-true, ltb-true, ltb-false, and_right}
use Rattle.std.proofs.lemmas.List.{length-map}
use Rattle.std.proofs.lemmas.List.Sums.{sum_by-cons, length-filter}
use Rattle.std.proofs.lemmas.List.Sorted.{sum_by-IsPermutation}
use Rattle.std.proofs.lemmas.Map.Keys.{IsStrictlyIncreasing-from_sorted}
use Rattle.std.proofs.lemmas.Map.Made.{length-from_keys}
use Rattle.rv_code.proofs.LawsOfPlaces.{Rises-lower}
use Rattle.rv_code.proofs.LawsOfLists.{Climbs, Rises, Rises-from_IsStrictlyIncreasing, non_decreasing_from_Climbs}
use Rattle.flow_graph.specs.CodeParts.{CodeParts}
use Rattle.flow_graph.specs.Edges.{edges_of}
use Rattle.flow_tree.specs.declared.spans.Spans.{Spans}
use Rattle.flow_tree.specs.Depth.{heads_among}
use Rattle.flow_tree.specs.Inner.Farthest.{AreFarthest, reaches}
use Rattle.flow_tree.specs.Inner.Spans.{AreSpans, begun_by, ended_before}

-- the address lies between a head and its source
abbrev pub lies_in : ℕ → ℕ × ℕ → Bool
lies_in address entry = nat_le entry.0 address && nat_le address entry.1

lower_climbs : (x : ℕ) (xs : List ℕ) → Climbs (λ n. n) (x + 1) xs → Climbs (λ n. n) x xs
lower_climbs x [] climbs = tt
lower_climbs x (y ∷ ys) climbs = (omega (arith, climbs.0), climbs.1)

climbs : (low : ℕ) (xs : List ℕ) → Rises low xs → Climbs (λ n. n) low xs
climbs low [] rises = tt
climbs low (x ∷ xs) rises = (rises.0, lower_climbs x xs (climbs (x + 1) xs rises.1))

above_differs : (q k : ℕ) → k < q → nat_eq q k ≡ false
above_differs q k above = elim (cases_Bool (nat_eq q k)) [
  | inl same ↦ absurd (omega (arith, eqb-true q k same))
  | inr apart ↦ apart
]

differs : (q k : ℕ) → q < k → nat_eq q k ≡ false
differs q k below = elim (cases_Bool (nat_eq q k)) [
  | inl same ↦ absurd (omega (arith, eqb-true q k same))
  | inr apart ↦ apart
]

not_member : (q low : ℕ) (ks : List ℕ) → Rises low ks → q < low → is_member nat_eq ks q ≡ false
not_member q low [] rises below = refl
not_member q low (k ∷ ks) rises below = rw (differs q k (omega (arith, rises.0))) (not_member q (k + 1) ks rises.1 (omega (arith, rises.0)))

kept_or_not : (p : ℕ × ℕ → Bool) (low : ℕ) (e : ℕ × ℕ) (es : List (ℕ × ℕ)) (b : Bool) → low ≤ e.0 → Rises (e.0 + 1) (keys_of es) → Rises low (keys_of (cond b (e ∷ es) es))
kept_or_not p low e es true above rest = (above, rest)
kept_or_not p low e es false above rest = Rises-lower low (e.0 + 1) (keys_of es) (omega (arith, above)) rest

-- the keys of some of the entries rise as those of all
kept_rise : (p : ℕ × ℕ → Bool) (low : ℕ) (es : List (ℕ × ℕ)) → Rises low (keys_of es) → Rises low (keys_of (filter p es))
kept_rise p low [] rises = tt
kept_rise p low (e ∷ es) rises = kept_or_not p low e (filter p es) (p e) rises.0 (kept_rise p (e.0 + 1) es rises.1)

all_differ : (x low : ℕ) (ks : List ℕ) → x < low → Rises low ks → AllByRecursion (λ y. nat_eq x y ≡ false) ks
all_differ x low [] below rises = tt
all_differ x low (k ∷ ks) below rises = (differs x k (omega (arith, rises.0)), all_differ x (k + 1) ks (omega (arith, rises.0)) rises.1)

distinct : (low : ℕ) (ks : List ℕ) → Rises low ks → IsDistinct nat_eq ks
unfolding IsDistinct
distinct low [] rises = tt
distinct low (k ∷ ks) rises = (all_differ k (k + 1) ks (omega arith) rises.1, distinct (k + 1) ks rises.1)

kept_step : (test : ℕ → Bool) (address q k v : ℕ) (es : List (ℕ × ℕ)) (covered here : Bool) → lies_in address (k, v) ≡ covered → nat_eq q k ≡ here → test k ≡ here
    → (nat_eq q k ≡ true → is_member nat_eq (keys_of (filter (lies_in address) es)) q ≡ false)
    → is_member nat_eq (keys_of (filter (lies_in address) es)) q ≡ (nat_le q address && reaches address (lookup test es))
    → is_member nat_eq (keys_of (cond covered ((k, v) ∷ filter (lies_in address) es) (filter (lies_in address) es))) q ≡ (nat_le q address && reaches address (lookup test ((k, v) ∷ es)))
kept_step test address q k v es true true covered here tested none rest =
    rw tested (rw here (sym (ap (λ n. nat_le n address && nat_le address v) (eqb-true q k here) ∙ covered)))
kept_step test address q k v es false true covered here tested none rest =
    rw tested (none here ∙ sym (ap (λ n. nat_le n address && nat_le address v) (eqb-true q k here) ∙ covered))
kept_step test address q k v es true false covered here tested none rest = rw tested (rw here rest)
kept_step test address q k v es false false covered here tested none rest = rw tested rest

-- the keys of the entries in which the address lies are known by look-ups
kept_by : (test : ℕ → Bool) (address q low : ℕ) (es : List (ℕ × ℕ)) → ((k : ℕ) → test k ≡ nat_eq q k) → Rises low (keys_of es)
    → is_member nat_eq (keys_of (filter (lies_in address) es)) q ≡ (nat_le q address && reaches address (lookup test es))
kept_by test address q low [] same rises = sym (and_right (nat_le q address) false refl)
kept_by test address q low ((k, v) ∷ es) same rises =
    kept_step test address q k v es (lies_in address (k, v)) (nat_eq q k) refl refl (same k)
    (λ here. not_member q (k + 1) (keys_of (filter (lies_in address) es)) (kept_rise (lies_in address) (k + 1) es rises.1) (omega (arith, eqb-true q k here)))
    (kept_by test address q (k + 1) es same rises.1)

not_le : (n m : ℕ) → m < n → leb n m ≡ false
not_le n m below = elim (cases_Bool (leb n m)) [ inl at_most ↦ absurd (omega (arith, leb-true n m at_most, below)) | inr above ↦ above ]

-- what has begun by the address has ended before it, or the address lies in it
crossing : (address k v : ℕ) → k ≤ v → cond (nat_lt v address) 1 0 + cond (lies_in address (k, v)) 1 0 ≡ cond (nat_le k address) 1 0
crossing address k v forward = elim (cases_Bool (ltb v address)) [
  | inl ended ↦
      let begun : leb k address ≡ true = le-leb k address (omega (arith, ltb-true v address ended)) in
      let past : leb address v ≡ false = not_le address v (ltb-true v address ended) in
      rw ended (rw begun (rw past refl))
  | inr on ↦
      let reached : leb address v ≡ true = le-leb address v (ltb-false v address on) in
      rw on (rw reached (elim (cases_Bool (leb k address)) [ inl begun ↦ rw begun refl | inr not_yet ↦ rw not_yet refl ]))
]

counted : (address : ℕ) (es : List (ℕ × ℕ)) → AllByRecursion (λ (e : ℕ × ℕ). e.0 ≤ e.1) es
    → count_by (λ end. nat_lt end address) (values_of es) + count_by (lies_in address) es ≡ count_by (λ head. nat_le head address) (keys_of es)
counted address [] forward = refl
counted address ((k, v) ∷ es) forward =
    let ends = sum_by-cons (λ end. cond (nat_lt end address) 1 0) v (values_of es) in
    let heads = sum_by-cons (λ head. cond (nat_le head address) 1 0) k (keys_of es) in
    let both = sum_by-cons (λ (e : ℕ × ℕ). cond (lies_in address e) 1 0) (k, v) es in
    let rest = counted address es forward.1 in
    let first = crossing address k v forward.0 in
    omega (arith, ends, heads, both, rest, first)

eq_by_order : (q k : ℕ) → is_at (nat_cmp q) k ≡ nat_eq q k
eq_by_order q k = elim (cases_Bool (ltb q k)) [
  | inl below ↦ rw below (sym (differs q k (ltb-true q k below)))
  | inr not_below ↦ rw not_below (elim (cases_Bool (eqb q k)) [ inl same ↦ rw same refl | inr apart ↦ rw apart refl ])
]

found_first : (k v : ℕ) (found : Option ℕ) (b : Bool) → b ≡ true → option_map_or (λ (v : ℕ). nat_le k v) (cond b (Some v) found) true ≡ true → k ≤ v
found_first k v found true is forward = leb-true k v forward
found_first k v found false is forward = absurd (cc is)

found_later : (q v : ℕ) (found : Option ℕ) (b : Bool) → b ≡ false → option_map_or (λ (v : ℕ). nat_le q v) (cond b (Some v) found) true ≡ true → option_map_or (λ (v : ℕ). nat_le q v) found true ≡ true
found_later q v found true is forward = absurd (cc is)
found_later q v found false is forward = forward

all_forward : (test : ℕ → ℕ → Bool) (low : ℕ) (es : List (ℕ × ℕ)) → ((q k : ℕ) → test q k ≡ nat_eq q k) → Rises low (keys_of es)
    → ((q : ℕ) → low ≤ q → option_map_or (λ (v : ℕ). nat_le q v) (lookup (test q) es) true ≡ true) → AllByRecursion (λ (e : ℕ × ℕ). e.0 ≤ e.1) es
all_forward test low [] same rises forward = tt
all_forward test low ((k, v) ∷ es) same rises forward = (
  found_first k v (lookup (test k) es) (test k k) (same k k ∙ eq-eqb k k refl) (forward k rises.0),
  all_forward test (k + 1) es same rises.1 (λ q above.
      found_later q v (lookup (test q) es) (test q k) (same q k ∙ above_differs q k (omega (arith, above))) (forward q (omega (arith, above, rises.0)))),
)

pub spans_are : (parts : CodeParts) (m : BTreeMap ℕ ℕ) (spans : Spans) → AreFarthest parts (edges_of parts) m → spans.heads.items ≡ keys m → IsPermutation (values m) spans.ends.items
    → IsNonDecreasing spans.ends.items → IsOrdered nat_cmp m → AreSpans parts spans
spans_are parts m spans farthest heads ends order rise =
    let rises : Rises 0 (keys_of m.entries) = Rises-from_IsStrictlyIncreasing 0 (keys_of m.entries) (λ _. omega arith) (IsStrictlyIncreasing-from_sorted (keys_of m.entries) rise) in
    let forward : AllByRecursion (λ (e : ℕ × ℕ). e.0 ≤ e.1) m.entries = all_forward (λ q. is_at (nat_cmp q)) 0 m.entries eq_by_order rises (λ q _. farthest.forward q) in
    let count : (address : ℕ) → ended_before spans address + distinct_count nat_eq (heads_among parts address (edges_of parts)) ≡ begun_by spans address = λ address.
    let kept : List ℕ = keys_of (filter (lies_in address) m.entries) in
    let moved : ended_before spans address ≡ count_by (λ end. nat_lt end address) (values_of m.entries) = sum_by-IsPermutation (λ end. cond (nat_lt end address) 1 0) (values m) spans.ends.items ends in
    let as_many : length kept ≡ distinct_count nat_eq (heads_among parts address (edges_of parts)) =
    length-from_keys nat_eq_equiv kept (heads_among parts address (edges_of parts)) (distinct 0 kept (kept_rise (lies_in address) 0 m.entries rises))
    (λ q. kept_by (is_at (nat_cmp q)) address q 0 m.entries (eq_by_order q) rises ∙ farthest.reached address q)
    in
    let lies : length kept ≡ count_by (lies_in address) m.entries = length-map (filter (lies_in address) m.entries) (λ (e : ℕ × ℕ). e.0) ∙ length-filter (lies_in address) m.entries in
    let begun : begun_by spans address ≡ count_by (λ head. nat_le head address) (keys_of m.entries) = ap (count_by (λ head. nat_le head address)) heads in
    rw moved (rw begun (omega (arith, as_many, lies, counted address m.entries forward)))
    in
    record {
      order = record {
        heads = non_decreasing_from_Climbs (λ n. n) 0 spans.heads.items (climbs 0 spans.heads.items (subst (Rises 0) (sym heads) rises));
        ends = order;
        fewer = λ address. omega (arith, count address);
      };
      count = count;
    }

-- what a call for the spans of such a map promises
pub all_spans : {E : Type 0} (parts : CodeParts) (m : BTreeMap ℕ ℕ) (spans : Result Spans E) → AreFarthest parts (edges_of parts) m
    → IfOk spans (λ spans. spans.heads.items ≡ keys m) → IfOk spans (λ spans. IsPermutation (values m) spans.ends.items) → IfOk spans (λ spans. IsNonDecreasing spans.ends.items)
    → IsOrdered nat_cmp m → IfOk spans (AreSpans parts)
all_spans parts m (Ok spans) farthest heads ends order rise = spans_are parts m spans farthest heads ends order rise
all_spans parts m (Err error) farthest heads ends order rise = tt
