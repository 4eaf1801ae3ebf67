-- The addresses that were seen so far among those to which edges go back.
use Rattle.std.proofs.Common.{◌≡◌, ℕ, ◌+◌, ◌<◌, ◌≤◌, Bool, true, false, cond, leb, List, [], ◌∷◌, ◌++◌, length, map, take, get_or, sym, refl, ap, ◌∙◌, inl, inr, arith, add-one, append-nil, length-append}
use Rattle.std.specs.Prelude.{◌⊎◌, filter, min, nat_eq}
use Rattle.std.specs.Cmp.{nat_eq_equiv}
use Rattle.std.specs.List.{IsDistinct}
use Rattle.std.specs.Set.{distinct_count, is_member, unique_keys}
use Rattle.std.proofs.lemmas.Bool.{cases_Bool, leb-true, leb-false, eqb-true, or_left, or_right, or_cases}
use Rattle.std.proofs.Math.Seq.{take-suc}
use Rattle.std.proofs.lemmas.List.{map-append}
use Rattle.std.proofs.lemmas.List.Elements.{filter-append}
use Rattle.std.proofs.lemmas.List.Folds.{list_any-append}
use Rattle.std.proofs.lemmas.Map.Keys.{IsDistinct-push}
use Rattle.std.proofs.lemmas.Map.Made.{length-from_keys, length-le_from_is_member}
use Rattle.rv_code.proofs.LawsOfTests.{same_answers}
use Rattle.flow_graph.specs.declared.edge.Edge.{Edge}
use Rattle.flow_graph.specs.CodeParts.{CodeParts}
use Rattle.flow_tree.specs.Depth.{goes_back_past, heads_among}
use Rattle.flow_tree.specs.Inner.Heads.{with_head}

-- some of these addresses, each once, and all where there is room left
pub record HasSeen (seen heads : List ℕ) : Type 0 where
  pub apart : IsDistinct nat_eq seen
  pub few : length seen ≤ 6
  pub within : (head : ℕ) → is_member nat_eq seen head ≡ true → is_member nat_eq heads head ≡ true
  pub whole : length seen < 6 → (head : ℕ) → is_member nat_eq heads head ≡ true → is_member nat_eq seen head ≡ true

pub seen_none : HasSeen [] []
unfolding IsDistinct
seen_none = record { apart = tt; few = omega arith; within = λ head is. is; whole = λ room head is. is }

-- a member of a list with one more
member_behind : (heads : List ℕ) (last head : ℕ) → is_member nat_eq heads head ≡ true → is_member nat_eq (heads ++ last ∷ []) head ≡ true
member_behind heads last head is = list_any-append (nat_eq head) heads (last ∷ []) ∙ or_left _ _ is

member_last : (heads : List ℕ) (last head : ℕ) → nat_eq head last ≡ true → is_member nat_eq (heads ++ last ∷ []) head ≡ true
member_last heads last head is = list_any-append (nat_eq head) heads (last ∷ []) ∙ or_right (is_member nat_eq heads head) _ (or_left _ _ is)

member_cases : (heads : List ℕ) (last head : ℕ) → is_member nat_eq (heads ++ last ∷ []) head ≡ true → (is_member nat_eq heads head ≡ true) ⊎ (nat_eq head last ≡ true)
member_cases heads last head is = elim (or_cases _ _ (sym (list_any-append (nat_eq head) heads (last ∷ [])) ∙ is)) [
  | inl before ↦ inl before
  | inr at ↦ elim (or_cases (nat_eq head last) false at) [ inl same ↦ inr same | inr none ↦ absurd (cc none) ]
]

seen_again : (seen heads : List ℕ) (last : ℕ) → HasSeen seen heads → is_member nat_eq seen last ≡ true → HasSeen seen (heads ++ last ∷ [])
seen_again seen heads last has there = record {
  apart = has.apart;
  few = has.few;
  within = λ head is. member_behind heads last head (has.within head is);
  whole = λ room head is. elim (member_cases heads last head is) [
    | inl before ↦ has.whole room head before
    | inr same ↦ ap (is_member nat_eq seen) (eqb-true head last same) ∙ there
  ];
}

seen_full : (seen heads : List ℕ) (last : ℕ) → HasSeen seen heads → 6 ≤ length seen → HasSeen seen (heads ++ last ∷ [])
seen_full seen heads last has full = record {
  apart = has.apart;
  few = has.few;
  within = λ head is. member_behind heads last head (has.within head is);
  whole = λ room head is. absurd (omega arith);
}

seen_new : (seen heads : List ℕ) (last : ℕ) → HasSeen seen heads → is_member nat_eq seen last ≡ false → length seen < 6 → HasSeen (seen ++ last ∷ []) (heads ++ last ∷ [])
seen_new seen heads last has new room = record {
  apart = IsDistinct-push nat_eq_equiv seen last has.apart new;
  few = omega (arith, length-append seen (last ∷ []), room);
  within = λ head is. elim (member_cases seen last head is) [
    | inl before ↦ member_behind heads last head (has.within head before)
    | inr same ↦ member_last heads last head same
  ];
  whole = λ _ head is. elim (member_cases heads last head is) [
    | inl before ↦ member_behind seen last head (has.whole room head before)
    | inr same ↦ member_last seen last head same
  ];
}

-- one more address
pub seen_more : (seen heads : List ℕ) (last : ℕ) → HasSeen seen heads → HasSeen (with_head seen last) (heads ++ last ∷ [])
seen_more seen heads last has = elim (cases_Bool (is_member nat_eq seen last)) [
  | inl there ↦ rw there (seen_again seen heads last has there)
  | inr new ↦ rw new (elim (cases_Bool (leb 6 (length seen))) [
    | inl full ↦ rw full (seen_full seen heads last has (leb-true 6 (length seen) full))
    | inr room ↦ rw room (seen_new seen heads last has new (leb-false 6 (length seen) room))
  ])
]

unique_step : (first key : ℕ) (keys : List ℕ) (again : Bool) → is_member nat_eq keys first ≡ again → (is_member nat_eq keys key ≡ true → is_member nat_eq (unique_keys nat_eq keys) key ≡ true)
    → (nat_eq key first ≡ true) ⊎ (is_member nat_eq keys key ≡ true) → is_member nat_eq (cond again (unique_keys nat_eq keys) (first ∷ unique_keys nat_eq keys)) key ≡ true
unique_step first key keys true is later (inl same) = later (ap (is_member nat_eq keys) (eqb-true key first same) ∙ is)
unique_step first key keys true is later (inr there) = later there
unique_step first key keys false is later (inl same) = or_left (nat_eq key first) (is_member nat_eq (unique_keys nat_eq keys) key) same
unique_step first key keys false is later (inr there) = or_right (nat_eq key first) (is_member nat_eq (unique_keys nat_eq keys) key) (later there)

member-unique_keys : (keys : List ℕ) (key : ℕ) → is_member nat_eq keys key ≡ true → is_member nat_eq (unique_keys nat_eq keys) key ≡ true
member-unique_keys [] key is = is
member-unique_keys (first ∷ keys) key is =
    unique_step first key keys (is_member nat_eq keys first) refl (member-unique_keys keys key) (or_cases (nat_eq key first) (is_member nat_eq keys key) is)

-- how many were seen
pub seen_count : (seen heads : List ℕ) → HasSeen seen heads → length seen ≡ min 6 (distinct_count nat_eq heads)
seen_count seen heads has = elim (cases_Bool (leb 6 (length seen))) [
  | inl full ↦
      let more : length seen ≤ distinct_count nat_eq heads = length-le_from_is_member nat_eq_equiv seen (unique_keys nat_eq heads) has.apart (λ head is. member-unique_keys heads head (has.within head is)) in
      omega (arith, more, has.few, leb-true 6 (length seen) full)
  | inr room ↦
      let space : length seen < 6 = leb-false 6 (length seen) room in
      let same : length seen ≡ distinct_count nat_eq heads = length-from_keys nat_eq_equiv seen heads has.apart (λ head. same_answers _ _ (has.within head) (has.whole space head)) in
      omega (arith, same, space)
]

last_head : (parts : CodeParts) (address : ℕ) (heads : List ℕ) (edge : Edge) (goes : Bool) → goes_back_past parts address edge ≡ goes
    → (heads ++ map (λ (edge : Edge). edge.target) (cond (goes_back_past parts address edge) (edge ∷ []) [])) ≡ heads ++ cond goes (edge.target ∷ []) []
last_head parts address heads edge true is = rw is refl
last_head parts address heads edge false is = rw is refl

-- the heads among the edges with one more
pub heads_behind : (parts : CodeParts) (address : ℕ) (edges : List Edge) (edge : Edge) (goes : Bool) → goes_back_past parts address edge ≡ goes
    → heads_among parts address (edges ++ edge ∷ []) ≡ heads_among parts address edges ++ cond goes (edge.target ∷ []) []
heads_behind parts address edges edge goes is =
    ap (map (λ (edge : Edge). edge.target)) (filter-append (goes_back_past parts address) edges (edge ∷ []))
    ∙ map-append (λ (edge : Edge). edge.target) (filter (goes_back_past parts address) edges) (filter (goes_back_past parts address) (edge ∷ []))
    ∙ last_head parts address (heads_among parts address edges) edge goes is

-- the edges with one more
heads_more : (parts : CodeParts) (address place : ℕ) (edges : List Edge) (d : Edge) (goes : Bool) → place < length edges → goes_back_past parts address (get_or edges place d) ≡ goes
    → heads_among parts address (take (place + 1) edges) ≡ heads_among parts address (take place edges) ++ cond goes ((get_or edges place d).target ∷ []) []
heads_more parts address place edges d goes inside is =
    let next : take (place + 1) edges ≡ take place edges ++ get_or edges place d ∷ [] = rw add-one (take-suc edges place d inside) in
    ap (heads_among parts address) next ∙ heads_behind parts address (take place edges) (get_or edges place d) goes is

turned : (parts : CodeParts) (address place : ℕ) (edges : List Edge) (d : Edge) (seen next : List ℕ) (goes : Bool)
    → heads_among parts address (take (place + 1) edges) ≡ heads_among parts address (take place edges) ++ cond goes ((get_or edges place d).target ∷ []) []
    → next ≡ cond goes (with_head seen (get_or edges place d).target) seen
    → HasSeen seen (heads_among parts address (take place edges)) → HasSeen next (heads_among parts address (take (place + 1) edges))
turned parts address place edges d seen next true more is has =
    rw more (rw is (seen_more seen (heads_among parts address (take place edges)) (get_or edges place d).target has))
turned parts address place edges d seen next false more is has = rw more (rw is (rw append-nil has))

-- a turn of going over the edges
pub seen_turn : (parts : CodeParts) (address place : ℕ) (edges : List Edge) (d : Edge) (seen next : List ℕ) (goes : Bool)
    → place < length edges → goes_back_past parts address (get_or edges place d) ≡ goes
    → next ≡ cond goes (with_head seen (get_or edges place d).target) seen
    → HasSeen seen (heads_among parts address (take place edges)) → HasSeen next (heads_among parts address (take (place + 1) edges))
seen_turn parts address place edges d seen next goes inside goes_is is has =
    turned parts address place edges d seen next goes (heads_more parts address place edges d goes inside goes_is) is has
