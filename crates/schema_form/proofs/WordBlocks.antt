-- The blocks of code words, and the edges that leave them.
use Rattle.std.proofs.Common.{◌≡◌, inl, inr, ℕ, zero, suc, ◌+◌, ◌<◌, ◌≤◌, ◌^◌, Bool, true, false, cond, ltb, List, [], ◌∷◌, ◌++◌, length, get_or, Option, Some, None, refl, sym, ap, ◌∙◌, arith}
use Rattle.std.specs.Prelude.{not, slice_get, position, nat_le, flat_map, count_by}
use Rattle.std.specs.List.{cons_option, enumerate_from, position_or_len}
use Rattle.std.specs.Option.{option_map, option_map_or, option_and_then}
use Rattle.std.proofs.lemmas.Bool.{cases_Bool, cases_eq, or_parts, and_parts, le-leb, lt-ltb, not-false, not_from_false, and_from, or_left, or_right}
use Rattle.std.proofs.lemmas.List.Sums.{sum_by-cons, position_or_len_is}
use Rattle.std.proofs.lemmas.Option.{slice_get-get_or}
use Rattle.rv_code.specs.declared.instr.Instr.{Instr}
use Rattle.rv_code.specs.Code.{extents_of}
use Rattle.rv_code.specs.declared.instr.Instr.TheVariants.{Lui, Auipc, Jal, Jalr, Branch, Load, Store, OpImm, Op, Fence, Ecall, Ebreak, Bad}
use Rattle.rv_code.specs.Numbers.{wrap}
use Rattle.rv_code.specs.Parts.{class_of, target_of}
use Rattle.rv_code.specs.Ways.{way_to, ends_a_run, falls}
use Rattle.rv_code.proofs.LawsOfTests.{same_found}
use Rattle.rv_code.proofs.LawsOfPlaces.{is_code-aligned}
use Rattle.flow_graph.specs.declared.block.Block.{Block}
use Rattle.flow_graph.specs.declared.edge.Edge.{Edge}
use Rattle.flow_graph.specs.Blocks.{blocks_of, block_at, holds, is_last, is_end_among}
use Rattle.flow_graph.specs.CodeParts.{CodeParts, has_code, instr_in}
use Rattle.flow_graph.specs.Edges.{edges_of, edges_from, edge_among, kind_by, way_among}
use Rattle.flow_graph.specs.Laws.{BlocksAreRuns, WordsAreInOneBlock}
use Rattle.flow_graph.specs.Leaders.{block_starts, is_leader}
use Rattle.flow_graph.specs.Marks.{is_one_of}
use Rattle.schema_form.proofs.MadeWords.{block_there}

-- of things of which a test holds once, where it holds
module _ {X : Type 0} (p : X → Bool) (none : X) where
  count_cons : (x : X) (xs : List X) → count_by p (x ∷ xs) ≡ cond (p x) 1 0 + count_by p xs
  count_cons x xs = sum_by-cons (λ y. cond (p y) 1 0) x xs

  count_yes : (x : X) (xs : List X) → p x ≡ true → count_by p (x ∷ xs) ≡ 1 + count_by p xs
  count_yes x xs is = count_cons x xs ∙ ap (λ t. cond t 1 0 + count_by p xs) is

  count_no : (x : X) (xs : List X) → p x ≡ false → count_by p (x ∷ xs) ≡ count_by p xs
  count_no x xs is = let all : count_by p (x ∷ xs) ≡ 0 + count_by p xs = count_cons x xs ∙ ap (λ t. cond t 1 0 + count_by p xs) is in omega (arith, all)

  pub one_holder : (xs : List X) → count_by p xs ≡ 1 → (k : ℕ) × (k < length xs) × (p (get_or xs k none) ≡ true)
  one_holder [] is = absurd (omega (arith, is))
  one_holder (x ∷ xs) is = elim (cases_Bool (p x)) [
    | inl set ↦ (0, omega arith, set)
    | inr clear ↦ let rest = one_holder xs (sym (count_no x xs clear) ∙ is) in (suc rest.0, omega (arith, rest.1), rest.2)
  ]

  counted : (xs : List X) (k : ℕ) → k < length xs → p (get_or xs k none) ≡ true → 1 ≤ count_by p xs
  counted [] k within is = absurd (omega arith)
  counted (x ∷ xs) zero within is = omega (arith, count_yes x xs is)
  counted (x ∷ xs) (suc k) within is = elim (cases_Bool (p x)) [
    | inl set ↦ omega (arith, count_yes x xs set)
    | inr clear ↦ omega (arith, count_no x xs clear, counted xs k (omega arith) is)
  ]

  pub only_holder : (xs : List X) (one other : ℕ) → count_by p xs ≡ 1 → one < length xs → other < length xs → p (get_or xs one none) ≡ true → p (get_or xs other none) ≡ true → one ≡ other
  only_holder [] one other once within within_too is is_too = absurd (omega arith)
  only_holder (x ∷ xs) zero zero once within within_too is is_too = refl
  only_holder (x ∷ xs) zero (suc other) once within within_too is is_too =
      absurd (omega (arith, once, count_yes x xs is, counted xs other (omega arith) is_too))
  only_holder (x ∷ xs) (suc one) zero once within within_too is is_too =
      absurd (omega (arith, once, count_yes x xs is_too, counted xs one (omega arith) is))
  only_holder (x ∷ xs) (suc one) (suc other) once within within_too is is_too = elim (cases_Bool (p x)) [
    | inl set ↦ absurd (omega (arith, once, count_yes x xs set, counted xs one (omega arith) is))
    | inr clear ↦ ap suc (only_holder xs one other (sym (count_no x xs clear) ∙ once) (omega arith) (omega arith) is is_too)
  ]

abbrev pub none_block : Block
none_block = record { leader = 0; last = 0 }

module _ (parts : CodeParts) (runs : BlocksAreRuns parts) (once : WordsAreInOneBlock parts) where
  abbrev pub block_numbered : ℕ → Block
  block_numbered number = get_or (blocks_of parts) number none_block

  -- the block that holds a code word is its block
  block_is : (address number : ℕ) → has_code parts address ≡ true → number < length (blocks_of parts) → holds (block_numbered number) address ≡ true → block_at parts address ≡ Some number
  block_is address number code within is =
      let test : Block → Bool = λ (block : Block). holds block address in
      let blocks = blocks_of parts in
      let at : position_or_len test blocks ≡ number =
      position_or_len_is test blocks number none_block (omega (arith, within))
      (λ earlier less. elim (cases_Bool (test (block_numbered earlier))) [
        | inl set ↦ let same = only_holder test none_block blocks earlier number (once address code) (omega (arith, less, within)) within set is in absurd (omega (arith, less, same))
        | inr clear ↦ clear
      ])
      (λ _. is) in
      let found : position test blocks ≡ Some number =
      (λ i. cond (ltb (at i) (length blocks)) (Some (at i)) None) ∙ ap (λ t. cond t (Some number) None) (lt-ltb number (length blocks) within) in
      ap (λ t. cond t (position test blocks) None) code ∙ found

  pub has_block : (address : ℕ) → has_code parts address ≡ true → (number : ℕ) × (block_at parts address ≡ Some number)
  has_block address code =
      let there = one_holder (λ (block : Block). holds block address) none_block (blocks_of parts) (once address code) in
      (there.0, block_is address there.0 code there.1 there.2)

  -- a word that ends a block is the last of its own
  pub last_of : (address number : ℕ) → has_code parts address ≡ true → is_last parts address ≡ true → block_at parts address ≡ Some number → (block_numbered number).last ≡ address
  last_of address number code last is =
      let there = block_there parts address number none_block runs code is in
      let block = block_numbered number in
      elim (cases_eq block.last address) [
        | inl same ↦ same
        | inr differ ↦
            let above = there.below in
            let clash : true ≡ false = sym last ∙ there.is.goes_on address code there.above (omega (arith, above, differ)) in
            absurd (cc clash)
      ]

  -- behind a word that ends no block stands one of the same block
  pub goes_on : (address : ℕ) → has_code parts address ≡ true → is_last parts address ≡ false
      → (has_code parts (address + 4) ≡ true) × ((number : ℕ) → block_at parts address ≡ Some number → block_at parts (address + 4) ≡ Some number)
  goes_on address code last =
      let end = (or_parts _ (is_end_among parts.code (block_starts parts) address) last).1 in
      let both = or_parts (not (has_code parts (address + 4))) (is_leader parts (address + 4)) end in
      let next : has_code parts (address + 4) ≡ true = not-false (has_code parts (address + 4)) both.0 in
      let other = has_block (address + 4) next in
      let block = block_numbered other.0 in
      let there = block_there parts (address + 4) other.0 none_block runs next other.1 in
      let begins = there.is.begins in
      let led = and_parts (has_code parts block.leader) (is_one_of (block_starts parts) block.leader) begins in
      let round = is_code-aligned (extents_of parts.code) block.leader led.0 in
      let round_too = is_code-aligned (extents_of parts.code) address code in
      let apart : block.leader ≡ address + 4 → ⊥ = λ same. let clash : true ≡ false = sym begins ∙ ap (is_leader parts) same ∙ both.1 in cc clash in
      let above = there.above in
      let below = there.below in
      let lower : block.leader ≤ address = elim (cases_eq block.leader (address + 4)) [ inl same ↦ absurd (apart same) | inr differ ↦ omega (arith, above, differ, round, round_too) ] in
      let mine : block_at parts address ≡ Some other.0 =
      block_is address other.0 code there.within (and_from (nat_le block.leader address) (nat_le address block.last) (le-leb block.leader address lower) (le-leb address block.last (omega (arith, below)))) in (
        next,
        λ number is. other.1 ∙ ap (λ (n : ℕ). Some n) (same_found other.0 number (block_at parts address) mine is),
      )

-- an item of the front stands in the whole, and so does one of the back
front_there : {X : Type 0} (front back : List X) (k : ℕ) (x : X) → slice_get front k ≡ Some x → slice_get (front ++ back) k ≡ Some x
front_there [] back k x is = absurd (cc is)
front_there (y ∷ front) back zero x is = is
front_there (y ∷ front) back (suc k) x is = front_there front back k x is

back_there : {X : Type 0} (front back : List X) (k : ℕ) → slice_get (front ++ back) (length front + k) ≡ slice_get back k
back_there [] back k = let same : 0 + k ≡ k = omega arith in ap (slice_get back) same
back_there (y ∷ front) back k =
    let same : length (y ∷ front) + k ≡ suc (length front + k) = omega arith in ap (slice_get (y ∷ (front ++ back))) same ∙ back_there front back k

-- an edge of a word by one of its ways
first_there : (one other : Option Edge) (edge : Edge) → one ≡ Some edge → (k : ℕ) × (slice_get (cons_option one (cons_option other [])) k ≡ Some edge)
first_there None other edge is = absurd (cc is)
first_there (Some first) other edge is = (0, is)

second_there : (one other : Option Edge) (edge : Edge) → other ≡ Some edge → (k : ℕ) × (slice_get (cons_option one (cons_option other [])) k ≡ Some edge)
second_there one None edge is = absurd (cc is)
second_there None (Some second) edge is = (0, is)
second_there (Some first) (Some second) edge is = (1, is)

module _ (parts : CodeParts) where
  from_block : (taken : Bool) (number : ℕ) (block : Block) (edge : Edge) → edge_among parts.code (block_starts parts) taken number block.last ≡ Some edge
      → (k : ℕ) × (slice_get (edges_from parts.code (block_starts parts) (number, block)) k ≡ Some edge)
  from_block true number block edge is = second_there (edge_among parts.code (block_starts parts) false number block.last) (edge_among parts.code (block_starts parts) true number block.last) edge is
  from_block false number block edge is = first_there (edge_among parts.code (block_starts parts) false number block.last) (edge_among parts.code (block_starts parts) true number block.last) edge is

  among_edges : (blocks : List Block) (from more : ℕ) (block : Block) (edge : Edge) → slice_get blocks more ≡ Some block
      → (k : ℕ) × (slice_get (edges_from parts.code (block_starts parts) (from + more, block)) k ≡ Some edge)
      → (k : ℕ) × (slice_get (flat_map (edges_from parts.code (block_starts parts)) (enumerate_from from blocks)) k ≡ Some edge)
  among_edges [] from more block edge is there = absurd (cc is)
  among_edges (first ∷ blocks) from zero block edge is there =
      let same : block ≡ first = sym (one_block first block is) in
      let here : from + 0 ≡ from = omega arith in
      let stands : slice_get (edges_from parts.code (block_starts parts) (from, first)) there.0 ≡ Some edge =
      sym (λ i. slice_get (edges_from parts.code (block_starts parts) (here i, same i)) there.0) ∙ there.1 in
      (there.0, front_there (edges_from parts.code (block_starts parts) (from, first)) (flat_map (edges_from parts.code (block_starts parts)) (enumerate_from (from + 1) blocks)) there.0 edge stands)
    where
      one_block : (one other : Block) → ◌≡◌ {A = Option Block} (Some one) (Some other) → one ≡ other
      one_block one other is = cc is
  among_edges (first ∷ blocks) from (suc more) block edge is there =
      let next : from + suc more ≡ from + 1 + more = omega arith in
      let rest = among_edges blocks (from + 1) more block edge is (there.0, sym (ap (λ n. slice_get (edges_from parts.code (block_starts parts) (n, block)) there.0) next) ∙ there.1) in (
        length (edges_from parts.code (block_starts parts) (from, first)) + rest.0,
        back_there (edges_from parts.code (block_starts parts) (from, first)) (flat_map (edges_from parts.code (block_starts parts)) (enumerate_from (from + 1) blocks)) rest.0 ∙ rest.1,
      )

-- the edge by which a way leads from the last word of a block
pub record EdgeFor (parts : CodeParts) (taken : Bool) (address target : ℕ) : Type 0 where
  pub number : ℕ
  pub source : ℕ
  pub block : block_at parts address ≡ Some source
  pub there : slice_get (edges_of parts) number ≡ Some (record { from = address; kind = kind_by taken; source = source; to = block_at parts target; target = target })

module _ (parts : CodeParts) (runs : BlocksAreRuns parts) (once : WordsAreInOneBlock parts) where
  pub edge_for : (taken : Bool) (address target : ℕ) → has_code parts address ≡ true → is_last parts address ≡ true → way_among parts.code taken address ≡ Some target → EdgeFor parts taken address target
  edge_for taken address target code last way =
      let mine = has_block parts runs once address code in
      let source = mine.0 in
      let block : Block = get_or (blocks_of parts) source none_block in
      let there = block_there parts address source none_block runs code mine.1 in
      let ends : block.last ≡ address = last_of parts runs once address source code last mine.1 in
      let edge : Edge = record { from = address; kind = kind_by taken; source = source; to = block_at parts target; target = target } in
      let made : edge_among parts.code (block_starts parts) taken source block.last ≡ Some edge =
      ap (edge_among parts.code (block_starts parts) taken source) ends
      ∙ ap (option_map (λ (t : ℕ). record { from = address; kind = kind_by taken; source = source; to = block_at parts t; target = t })) way in
      let here : 0 + source ≡ source = omega arith in
      let first = from_block parts taken source block edge made in
      let found = among_edges parts (blocks_of parts) 0 source block edge (slice_get-get_or (blocks_of parts) source none_block there.within)
      (first.0, ap (λ n. slice_get (edges_from parts.code (block_starts parts) (n, block)) first.0) here ∙ first.1) in
      record { number = found.0; source = source; block = mine.1; there = found.1 }

-- a word with a direct target ends a block
target_ends : (instr : Instr) (address target : ℕ) → target_of instr address ≡ Some target → ends_a_run (class_of instr) ≡ true
target_ends (Lui rd imm) address target is = absurd (cc is)
target_ends (Auipc rd imm) address target is = absurd (cc is)
target_ends (Jal rd imm) address target is = refl
target_ends (Jalr rd rs1 imm) address target is = absurd (cc is)
target_ends (Branch op rs1 rs2 imm) address target is = refl
target_ends (Load op rd rs1 imm) address target is = absurd (cc is)
target_ends (Store op rs1 rs2 imm) address target is = absurd (cc is)
target_ends (OpImm op rd rs1 imm) address target is = absurd (cc is)
target_ends (Op op rd rs1 rs2) address target is = absurd (cc is)
target_ends (Fence word) address target is = absurd (cc is)
target_ends Ecall address target is = absurd (cc is)
target_ends Ebreak address target is = absurd (cc is)
target_ends (Bad word) address target is = absurd (cc is)

run_ends : (instr : Option Instr) (address target : ℕ) → option_and_then (λ (i : Instr). target_of i address) instr ≡ Some target
    → option_map_or (λ (i : Instr). ends_a_run (class_of i)) instr false ≡ true
run_ends None address target is = absurd (cc is)
run_ends (Some instr) address target is = target_ends instr address target is

fall_leads : (instr : Option Instr) (address target : ℕ) → address + 4 < 2 ^ 32 → option_and_then (λ (i : Instr). way_to false i address) instr ≡ Some target → target ≡ address + 4
fall_leads None address target small is = absurd (cc is)
fall_leads (Some instr) address target small is = of_class (falls (class_of instr)) is
  where
    of_class : (t : Bool) → cond t (Some (wrap (address + 4))) None ≡ Some target → target ≡ address + 4
    of_class true is = let same : wrap (address + 4) ≡ target = cc is in omega (arith, same, small)
    of_class false is = absurd (cc is)

module _ (parts : CodeParts) (address target : ℕ) where
  pub taken_ends : way_among parts.code true address ≡ Some target → is_last parts address ≡ true
  taken_ends way = or_left _ (is_end_among parts.code (block_starts parts) address) (run_ends (instr_in parts.code address) address target way)

  -- where a way falls to
  pub falls_behind : address + 4 < 2 ^ 32 → way_among parts.code false address ≡ Some target → target ≡ address + 4
  falls_behind small way = fall_leads (instr_in parts.code address) address target small way

  -- a word of which a way leads out of the code ends a block
  pub leaving_ends : (taken : Bool) → address + 4 < 2 ^ 32 → way_among parts.code taken address ≡ Some target → has_code parts target ≡ false → is_last parts address ≡ true
  leaving_ends true small way none = taken_ends way
  leaving_ends false small way none =
      let behind : has_code parts (address + 4) ≡ false = sym (ap (has_code parts) (falls_behind small way)) ∙ none in
      or_right _ (is_end_among parts.code (block_starts parts) address)
      (or_left (not (has_code parts (address + 4))) (is_leader parts (address + 4)) (not_from_false (has_code parts (address + 4)) behind))
