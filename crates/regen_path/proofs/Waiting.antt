-- The neighbours of a node come to what waits.
use Rattle.std.proofs.Common.{◌≡◌, ◌⊎◌, inl, inr, ℕ, zero, suc, ◌+◌, ◌<◌, ◌≤◌, List, [], ◌∷◌, ◌++◌, length, get_or, Option, Some, None, refl, sym, ap, ◌∙◌, subst, arith, length-append}
use Rattle.std.proofs.lemmas.List.{append-nil}
use Rattle.std.specs.Prelude.{slice_get}
use Rattle.std.proofs.lemmas.Bool.{cases_eq, cases_lt}
use Rattle.std.proofs.lemmas.Option.{none-some, same_Some, slice_get_within, slice_get-get_or}
use Rattle.regen_path.specs.declared.arcs.Ways.{Ways}
use Rattle.regen_path.specs.declared.growing.Link.TheVariants.{Up, Down}
use Rattle.regen_path.specs.declared.growing.Visit.{Visit}
use Rattle.regen_path.specs.Arcs.{way_from}
use Rattle.regen_path.specs.Inner.Growing.{ahead_of, AreNear, WaitsFor, IsStep, ahead, behind, WaitMore}
use Rattle.regen_path.specs.Inner.Sources.{IsLastInto, IsFoundBy}
use Rattle.regen_path.proofs.Chained.{get_or_any}
use Rattle.regen_path.proofs.Entered.{from_within}
use Rattle.regen_path.proofs.Tabled.{no_ways, way_read}
use Rattle.regen_path.proofs.Listing.{get_front, get_end, get_either}
use Rattle.regen_path.proofs.LawsOfArcs.{kind_below}

module _ {table : List Ways} {node number : ℕ} where
  pub wait_none : (waiting : List Visit) → WaitMore table node number waiting waiting
  wait_none waiting = record {
    front = λ at visit is. is;
    back = λ at visit past is. let within = slice_get_within waiting at visit is in absurd (omega arith);
  }

  pub wait_one : (old now : List Visit) (visit : Visit) → IsStep table node number visit → WaitMore table node number old now → WaitMore table node number old (now ++ visit ∷ [])
  wait_one old now visit step more = record {
    front = λ at v is. get_front now visit at v (more.front at v is);
    back = λ at v past is. elim (get_either now visit at v is) [
      | inl there ↦ more.back at v past there
      | inr end ↦ subst (IsStep table node number) (sym end.1) step
    ];
  }

  pub wait_on : (old mid new : List Visit) → WaitMore table node number old mid → WaitMore table node number mid new → WaitMore table node number old new
  wait_on old mid new first second = record {
    front = λ at v is. second.front at v (first.front at v is);
    back = λ at v past is. elim (cases_lt at (length mid)) [
      | inl less ↦
          let there : slice_get mid at ≡ Some (get_or mid at v) = slice_get-get_or mid at v less in
          let equal : get_or mid at v ≡ v = same_Some (get_or mid at v) v (sym (second.front at (get_or mid at v) there) ∙ is) in
          first.back at v past (there ∙ ap (λ (w : Visit). Some w) equal)
      | inr more ↦ second.back at v more is
    ];
  }

  pub waits_still : (old new : List Visit) → WaitMore table node number old new → (other : ℕ) → WaitsFor old other → WaitsFor new other
  waits_still old new more other (at, visit, is, node_is) = (at, visit, more.front at visit is, node_is)

pub waits_front : (waiting : List Visit) (visit : Visit) (other : ℕ) → WaitsFor waiting other → WaitsFor (waiting ++ visit ∷ []) other
waits_front waiting visit other (at, found, is, node_is) = (at, found, get_front waiting visit at found is, node_is)

pub waits_end : (waiting : List Visit) (visit : Visit) → WaitsFor (waiting ++ visit ∷ []) visit.node
waits_end waiting visit = (length waiting, visit, get_end waiting visit, refl)

-- what an arc ahead gives
pub ahead_more : (table : List Ways) (node number kind : ℕ) (way : Option ℕ) → way_from table kind node ≡ way → (old mid : List Visit) → WaitMore table node number old mid
    → WaitMore table node number old (mid ++ ahead_of way number)
ahead_more table node number kind None is old mid more = subst (WaitMore table node number old) (sym (append-nil mid)) more
ahead_more table node number kind (Some to) is old mid more = wait_one old mid (record { node = to; link = Down number }) (ahead refl (kind, is)) more

pub ahead_waits : (way : Option ℕ) (to number : ℕ) (mid : List Visit) → way ≡ Some to → WaitsFor (mid ++ ahead_of way number) to
ahead_waits None to number mid is = absurd (none-some to is)
ahead_waits (Some found) to number mid is = subst (WaitsFor (mid ++ ahead_of (Some found) number)) (same_Some found to is) (waits_end mid (record { node = found; link = Down number }))

pub ahead_front : (way : Option ℕ) (number node : ℕ) (mid : List Visit) → WaitsFor mid node → WaitsFor (mid ++ ahead_of way number) node
ahead_front None number node mid waits = subst (λ (list : List Visit). WaitsFor list node) (sym (append-nil mid)) waits
ahead_front (Some found) number node mid waits = waits_front mid (record { node = found; link = Down number }) node waits

pub ahead_few : (way : Option ℕ) (number : ℕ) (mid : List Visit) → length (mid ++ ahead_of way number) ≤ length mid + 1
ahead_few None number mid = omega (arith, length-append mid (ahead_of None number))
ahead_few (Some found) number mid = omega (arith, length-append mid (ahead_of (Some found) number))

-- how many sources may be left
abbrev pub left_of : Option ℕ → ℕ
left_of None = 0
left_of (Some source) = suc source

-- as far as the sources down to the next one
pub record WaitDownTo (table : List Ways) (kind node number : ℕ) (next : Option ℕ) (old now : List Visit) : Type 0 where
  pub more : WaitMore table node number old now
  pub here : (source : ℕ) → next ≡ Some source → (source < length table) × (way_from table kind source ≡ Some node)
  pub done : (source : ℕ) → way_from table kind source ≡ Some node → WaitsFor now source ⊎ (source < left_of next)
  pub few : length now + left_of next ≤ length old + length table

module _ (table : List Ways) (kind node number : ℕ) where
  first_here : (next : Option ℕ) (bound : ℕ) → bound ≤ length table → IsLastInto table kind node bound next → (source : ℕ) → next ≡ Some source → (source < length table) × (way_from table kind source ≡ Some node)
  first_here None bound most is source next_is = absurd (none-some source next_is)
  first_here (Some found) bound most is source next_is =
      let equal : found ≡ source = same_Some found source next_is in
      let less : found < bound = is.0 in
      (omega arith, ap (way_from table kind) (sym equal) ∙ is.1)

  left_less : (next : Option ℕ) (bound : ℕ) → IsLastInto table kind node bound next → left_of next ≤ bound
  left_less None bound is = omega arith
  left_less (Some found) bound is = let less : found < bound = is.0 in omega arith

  below_next : (next : Option ℕ) (bound source : ℕ) → IsLastInto table kind node bound next → source < bound → way_from table kind source ≡ Some node → source < left_of next
  below_next None bound source is less led = absurd (is source less led)
  below_next (Some found) bound source is less led = let most : source ≤ found = is.2 source less led in omega arith

  pub wait_first : (next : Option ℕ) (last before : List (Option ℕ)) (old : List Visit) → IsFoundBy table kind (length table) last before → node < length table → next ≡ get_or last node next → WaitDownTo table kind node number next old old
  wait_first next last before old found within next_is =
      let is : IsLastInto table kind node (length table) next =
      subst (IsLastInto table kind node (length table)) (sym (next_is ∙ get_or_any last node next None (omega (arith, found.goals)))) (found.lasts node within)
      in
      record {
        more = wait_none old;
        here = first_here next (length table) (omega arith) is;
        done = λ source led. inr (below_next next (length table) source is (from_within table kind source node led) led);
        few = let less = left_less next (length table) is in omega arith;
      }

  next_last : (source : ℕ) (next : Option ℕ) (last before : List (Option ℕ)) → IsFoundBy table kind (length table) last before → source < length table → way_from table kind source ≡ Some node → next ≡ get_or before source next → IsLastInto table kind node source next
  next_last source next last before found within led next_is =
      subst (IsLastInto table kind node source) (sym (next_is ∙ get_or_any before source next None (omega (arith, found.sources)))) (found.befores source node within led)

  pub wait_more : (now next : Option ℕ) (source : ℕ) (visit : Visit) (last before : List (Option ℕ)) (old mid : List Visit) → IsFoundBy table kind (length table) last before
      → now ≡ Some source → next ≡ get_or before source next → visit ≡ record { node = source; link = Up number } → WaitDownTo table kind node number now old mid → WaitDownTo table kind node number next old (mid ++ visit ∷ [])
  wait_more now next source visit last before old mid found now_is next_is visit_is down =
      let (within, led) = down.here source now_is in
      let is = next_last source next last before found within led next_is in
      let node_is : visit.node ≡ source = ap (λ (v : Visit). v.node) visit_is in
      record {
        more = wait_one old mid visit (behind (ap (λ (v : Visit). v.link) visit_is) (kind, ap (way_from table kind) node_is ∙ led)) down.more;
        here = first_here next source (omega arith) is;
        done = λ other led_there. elim (down.done other led_there) [
          | inl waits ↦ inl (waits_front mid visit other waits)
          | inr left ↦ elim (cases_eq other source) [
            | inl equal ↦ inl (subst (WaitsFor (mid ++ visit ∷ [])) (node_is ∙ sym equal) (waits_end mid visit))
            | inr apart ↦ inr (below_next next source other is (let below : other < suc source = subst (λ (o : Option ℕ). other < left_of o) now_is left in omega arith) led_there)
          ]
        ];
        few =
            let less = left_less next source is in
            let few : length mid + suc source ≤ length old + length table = subst (λ (o : Option ℕ). length mid + left_of o ≤ length old + length table) now_is down.few in
            omega (arith, length-append mid (visit ∷ []));
      }

  pub wait_less : (now next : Option ℕ) (source : ℕ) (last before : List (Option ℕ)) (old mid : List Visit) → IsFoundBy table kind (length table) last before
      → now ≡ Some source → next ≡ get_or before source next → WaitDownTo table kind node number now old mid → left_of next < left_of now
  wait_less now next source last before old mid found now_is next_is down =
      let (within, led) = down.here source now_is in
      let less = left_less next source (next_last source next last before found within led next_is) in
      subst (λ (o : Option ℕ). left_of next < left_of o) (sym now_is) (omega arith)

  pub wait_all : (next : Option ℕ) (old now : List Visit) → next ≡ None → WaitDownTo table kind node number next old now → (source : ℕ) → way_from table kind source ≡ Some node → WaitsFor now source
  wait_all next old now is down source led = elim (down.done source led) [
    | inl waits ↦ waits
    | inr left ↦ let below : source < 0 = subst (λ (o : Option ℕ). source < left_of o) is left in absurd (omega arith)
  ]

-- both arcs ahead
module _ (table : List Ways) (node number : ℕ) (within : node < length table) (ways : Ways) (ways_is : ways ≡ get_or table node ways) (old mid new : List Visit)
    (mid_is : mid ≡ old ++ ahead_of ways.fall number) (new_is : new ≡ mid ++ ahead_of ways.taken number) where
  row : way_from table 0 node ≡ ways.fall
  row = way_read table 0 node within ∙ ap (λ (w : Ways). w.fall) (sym (ways_is ∙ get_or_any table node ways no_ways within))

  row_taken : way_from table 1 node ≡ ways.taken
  row_taken = way_read table 1 node within ∙ ap (λ (w : Ways). w.taken) (sym (ways_is ∙ get_or_any table node ways no_ways within))

  pub both_more : WaitMore table node number old new
  both_more =
      subst (WaitMore table node number old) (sym new_is)
      (ahead_more table node number 1 ways.taken row_taken old mid (subst (WaitMore table node number old) (sym mid_is) (ahead_more table node number 0 ways.fall row old old (wait_none old))))

  pub both_all : (kind to : ℕ) → way_from table kind node ≡ Some to → WaitsFor new to
  both_all zero to is =
      subst (λ (list : List Visit). WaitsFor list to) (sym new_is)
      (ahead_front ways.taken number to mid (subst (λ (list : List Visit). WaitsFor list to) (sym mid_is) (ahead_waits ways.fall to number old (sym row ∙ is))))
  both_all (suc zero) to is = subst (λ (list : List Visit). WaitsFor list to) (sym new_is) (ahead_waits ways.taken to number mid (sym row_taken ∙ is))
  both_all (suc (suc kind)) to is = let below = kind_below table (suc (suc kind)) node to is in absurd (omega arith)

  pub both_few : length new ≤ length old + 2
  both_few =
      let first = ahead_few ways.fall number old in
      let second = ahead_few ways.taken number mid in
      omega (arith, ap length mid_is, ap length new_is)

-- all neighbours of a node wait
pub near_waits : (table : List Ways) (node : ℕ) (one two three : List Visit) → ((kind to : ℕ) → way_from table kind node ≡ Some to → WaitsFor one to) → ((from : ℕ) → way_from table 0 from ≡ Some node → WaitsFor two from)
    → ((from : ℕ) → way_from table 1 from ≡ Some node → WaitsFor three from) → ((other : ℕ) → WaitsFor one other → WaitsFor two other) → ((other : ℕ) → WaitsFor two other → WaitsFor three other)
    → (other : ℕ) → AreNear table node other → WaitsFor three other
near_waits table node one two three ahead_waiting fall_waiting taken_waiting on further other (inl linked) = further other (on other (ahead_waiting linked.0 other linked.1))
near_waits table node one two three ahead_waiting fall_waiting taken_waiting on further other (inr linked) = by_kind linked.0 linked.1
  where
    by_kind : (kind : ℕ) → way_from table kind other ≡ Some node → WaitsFor three other
    by_kind zero is = further other (fall_waiting other is)
    by_kind (suc zero) is = taken_waiting other is
    by_kind (suc (suc kind)) is = let below = kind_below table (suc (suc kind)) other node is in absurd (omega arith)
