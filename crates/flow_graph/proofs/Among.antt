-- Where blocks may begin, and which code words do: behind the last word of a block stands a leader, and behind each other word none.
use Rattle.std.proofs.Common.{◌≡◌, ℕ, zero, suc, ◌+◌, Bool, true, false, ◌||◌, not, eqb, List, [], ◌∷◌, ◌++◌, map, get_or, Option, Some, None, refl, sym, ap, ◌∙◌, subst, inl, inr, arith}
use Rattle.std.specs.Prelude.{flat_map}
use Rattle.std.specs.List.{AllByRecursion, Contains}
use Rattle.std.specs.Option.{option_map_or}
use Rattle.std.proofs.lemmas.Bool.{cases_Bool, eq-eqb, or_left, or_right, or_parts}
use Rattle.std.proofs.lemmas.List.Folds.{list_any-append}
use Rattle.std.proofs.lemmas.Option.{slice_get_within, slice_get-get_or, get_or_from_slice_get}
use Rattle.rv_code.specs.declared.extent.Extent.{Extent}
use Rattle.rv_code.specs.declared.instr.Instr.{Instr}
use Rattle.rv_code.specs.declared.image.Range.{Range}
use Rattle.rv_code.specs.Code.{extents_of, is_code}
use Rattle.rv_code.specs.Numbers.{wrap}
use Rattle.rv_code.specs.Parts.{class_of, target_of}
use Rattle.rv_code.specs.Places.{code_addresses, AreCodeExtents, EndsInSpace}
use Rattle.rv_code.specs.Ways.{as_list, ends_a_run}
use Rattle.flow_graph.specs.Blocks.{is_end_among, is_last_among}
use Rattle.flow_graph.specs.CodeParts.{instr_in}
use Rattle.flow_graph.specs.Leaders.{is_leader_among, places_behind, starts_in}
use Rattle.flow_graph.specs.Marks.{is_one_of}
use Rattle.flow_graph.proofs.Followed.{first_word, next_word, starts_of, code_facts, code_at, adjacent}
use Rattle.flow_graph.proofs.Paired.{Alternate}
use Rattle.flow_graph.proofs.Targets.{behind}

-- among more addresses
among_front : (xs ys : List ℕ) (word : ℕ) → is_one_of xs word ≡ true → is_one_of (xs ++ ys) word ≡ true
among_front xs ys word is = list_any-append (λ x. eqb x word) xs ys ∙ or_left (is_one_of xs word) (is_one_of ys word) is

among_back : (xs ys : List ℕ) (word : ℕ) → is_one_of ys word ≡ true → is_one_of (xs ++ ys) word ≡ true
among_back xs ys word is = list_any-append (λ x. eqb x word) xs ys ∙ or_right (is_one_of xs word) (is_one_of ys word) is

pub among_Contains : (xs : List ℕ) (word : ℕ) → Contains xs word → is_one_of xs word ≡ true
among_Contains [] word (place, inside, same) = absurd (omega arith)
among_Contains (x ∷ xs) word (zero, inside, same) = or_left (eqb x word) (is_one_of xs word) (eq-eqb x word same)
among_Contains (x ∷ xs) word (suc place, inside, same) = or_right (eqb x word) (is_one_of xs word) (among_Contains xs word (place, omega arith, same))

among_flat_map : (f : ℕ → List ℕ) (xs : List ℕ) (x word : ℕ) → Contains xs x → is_one_of (f x) word ≡ true → is_one_of (flat_map f xs) word ≡ true
among_flat_map f [] x word (place, inside, same) is = absurd (omega arith)
among_flat_map f (y ∷ xs) x word (zero, inside, same) is = among_front (f y) (flat_map f xs) word (ap (λ (n : ℕ). is_one_of (f n) word) same ∙ is)
among_flat_map f (y ∷ xs) x word (suc place, inside, same) is = among_back (f y) (flat_map f xs) word (among_flat_map f xs x word (place, omega arith, same) is)

starts_same : (ranges : List Range) → starts_of (extents_of ranges) ≡ map (λ (range : Range). range.start) ranges
starts_same [] = refl
starts_same (range ∷ ranges) = ap (λ (rest : List ℕ). range.start ∷ rest) (starts_same ranges)

-- the start of a range is one of those where blocks may begin
pub range_start : (ranges : List Range) (entry : ℕ) (named functions : List ℕ) (word : ℕ) → Contains (starts_of (extents_of ranges)) word → is_one_of (starts_in ranges entry named functions) word ≡ true
range_start ranges entry named functions word within =
    let here : is_one_of (map (λ (range : Range). range.start) ranges) word ≡ true =
    ap (λ (xs : List ℕ). is_one_of xs word) (sym (starts_same ranges)) ∙ among_Contains (starts_of (extents_of ranges)) word within
    in
    let heads : List ℕ = entry ∷ map (λ (range : Range). range.start) ranges in
    let targets : List ℕ = flat_map (behind ranges) (code_addresses (extents_of ranges)) in
    among_front (heads ++ targets ++ named) functions word (among_front (heads ++ targets) named word
    (among_front heads targets word (or_right (eqb entry word) (is_one_of (map (λ (range : Range). range.start) ranges) word) here)))

-- so is what stands behind a word, if a block ends with it
pub word_behind_end : (ranges : List Range) (entry : ℕ) (named functions : List ℕ) (address word : ℕ) → Contains (code_addresses (extents_of ranges)) address
    → is_one_of (places_behind (instr_in ranges address) address) word ≡ true → is_one_of (starts_in ranges entry named functions) word ≡ true
word_behind_end ranges entry named functions address word within is =
    let heads : List ℕ = entry ∷ map (λ (range : Range). range.start) ranges in
    let targets : List ℕ = flat_map (behind ranges) (code_addresses (extents_of ranges)) in
    among_front (heads ++ targets ++ named) functions word (among_front (heads ++ targets) named word (among_back heads targets word
    (among_flat_map (behind ranges) (code_addresses (extents_of ranges)) address word within is)))

next_is_behind : (found : Option Instr) (address : ℕ) → option_map_or (λ (instr : Instr). ends_a_run (class_of instr)) found false ≡ true → is_one_of (places_behind found address) (wrap (address + 4)) ≡ true
next_is_behind None address ends = absurd (cc ends)
next_is_behind (Some instr) address ends =
    among_back (as_list (target_of instr address)) _ (wrap (address + 4)) (rw ends (or_left (eqb (wrap (address + 4)) (wrap (address + 4))) false (eq-eqb (wrap (address + 4)) (wrap (address + 4)) refl)))

leader_is : (ranges : List Range) (starts : List ℕ) (word : ℕ) → is_code (extents_of ranges) word ≡ true → is_one_of starts word ≡ true → is_leader_among ranges starts word ≡ true
leader_is ranges starts word code among = rw code among

abbrev behind_word : List Range → ℕ → Bool
behind_word ranges address = option_map_or (λ (instr : Instr). ends_a_run (class_of instr)) (instr_in ranges address) false

not_last : (ranges : List Range) (starts : List ℕ) (address : ℕ) → is_last_among ranges starts address ≡ false
    → (is_code (extents_of ranges) (address + 4) ≡ true) × (is_leader_among ranges starts (address + 4) ≡ false)
not_last ranges starts address is =
    let both = or_parts (behind_word ranges address) (is_end_among ranges starts address) is in
    let parts = or_parts (not (is_code (extents_of ranges) (address + 4))) (is_leader_among ranges starts (address + 4)) both.1 in
    elim (cases_Bool (is_code (extents_of ranges) (address + 4))) [
      | inl code ↦ (code, parts.1)
      | inr none ↦ absurd (cc (sym (ap not none) ∙ parts.0))
    ]

-- the next word, where a code word stands at the next address
close_leader : (ranges : List Range) (entry : ℕ) (named functions : List ℕ) (address : ℕ) → AllByRecursion EndsInSpace (extents_of ranges) → Contains (code_addresses (extents_of ranges)) address
    → is_code (extents_of ranges) (address + 4) ≡ true → is_last_among ranges (starts_in ranges entry named functions) address ≡ true
    → is_leader_among ranges (starts_in ranges entry named functions) (address + 4) ≡ true
close_leader ranges entry named functions address ends within code last = elim (cases_Bool (behind_word ranges address)) [
  | inl end ↦
      let small = code_facts (extents_of ranges) (address + 4) ends code in
      let same : wrap (address + 4) ≡ address + 4 = omega (arith, small.1) in
      leader_is ranges (starts_in ranges entry named functions) (address + 4) code
      (word_behind_end ranges entry named functions address (address + 4) within (subst (λ (n : ℕ). is_one_of (places_behind (instr_in ranges address) address) n ≡ true) same (next_is_behind (instr_in ranges address) address end)))
  | inr open_end ↦
      let rest : is_end_among ranges (starts_in ranges entry named functions) address ≡ true =
      sym (ap (λ b. b || is_end_among ranges (starts_in ranges entry named functions) address) open_end) ∙ last
      in
      sym (ap (λ b. not b || is_leader_among ranges (starts_in ranges entry named functions) (address + 4)) code) ∙ rest
]

pub words_alternate : (ranges : List Range) (entry : ℕ) (named functions : List ℕ) → AreCodeExtents (extents_of ranges) → AllByRecursion EndsInSpace (extents_of ranges)
    → Alternate (is_leader_among ranges (starts_in ranges entry named functions)) (is_last_among ranges (starts_in ranges entry named functions)) (code_addresses (extents_of ranges))
words_alternate ranges entry named functions order ends =
    let extents : List Extent = extents_of ranges in
    let words : List ℕ = code_addresses extents in
    let starts : List ℕ = starts_in ranges entry named functions in
    record {
      first = λ some.
          let is = slice_get-get_or words 0 0 some in
          leader_is ranges starts (get_or words 0 0) (code_at extents 0 (get_or words 0 0) order is)
          (range_start ranges entry named functions (get_or words 0 0) (first_word extents (get_or words 0 0) order.each is));
      behind_last = λ place more last.
          let here = slice_get-get_or words place 0 (omega (arith, more)) in
          let there = slice_get-get_or words (place + 1) 0 more in
          let code = code_at extents (place + 1) (get_or words (place + 1) 0) order there in
          elim (next_word extents place (get_or words place 0) (get_or words (place + 1) 0) order.each here there) [
            | inl close ↦
                subst (λ (n : ℕ). is_leader_among ranges starts n ≡ true) (sym close)
                (close_leader ranges entry named functions (get_or words place 0) ends (place, omega (arith, more), get_or_from_slice_get words place (get_or words place 0) (get_or words place 0) here) (ap (is_code extents) (sym close) ∙ code) last)
            | inr start ↦ leader_is ranges starts (get_or words (place + 1) 0) code (range_start ranges entry named functions (get_or words (place + 1) 0) start)
          ];
      behind_other = λ place within other.
          let here = slice_get-get_or words place 0 within in
          let facts = not_last ranges starts (get_or words place 0) other in
          let next = adjacent extents place (get_or words place 0) order ends here facts.0 in (
            slice_get_within words (place + 1) (get_or words place 0 + 4) next,
            ap (is_leader_among ranges starts) (get_or_from_slice_get words (place + 1) (get_or words place 0 + 4) 0 next) ∙ facts.1,
            get_or_from_slice_get words (place + 1) (get_or words place 0 + 4) 0 next,
          );
    }
