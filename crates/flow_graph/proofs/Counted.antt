-- The numbers of the blocks of the code words up to a place.
use Rattle.std.proofs.Common.{◌≡◌, ℕ, suc, ◌+◌, ◌<◌, true, false, cond, List, [], ◌∷◌, ◌++◌, length, map, get_or, take, Option, Some, None, refl, sym, ap, ◌∙◌, subst, inl, inr, arith}
use Rattle.std.specs.Prelude.{filter, is_some, position}
use Rattle.std.specs.List.{AllByRecursion}
use Rattle.std.proofs.lemmas.Bool.{cases_lt}
use Rattle.std.proofs.lemmas.List.{length-map, get_or-map, get_or_append_left, get_or_push, length_push}
use Rattle.std.proofs.lemmas.List.Filters.{length-filter_more}
use Rattle.std.proofs.lemmas.Option.{slice_get_within, slice_get-get_or, get_or_from_slice_get}
use Rattle.rv_code.specs.declared.image.Range.{Range}
use Rattle.rv_code.specs.Code.{extents_of, is_code}
use Rattle.rv_code.specs.Image.{word_count}
use Rattle.rv_code.specs.Places.{address_of, code_addresses, place_of, AreCodeExtents, EndsInSpace}
use Rattle.rv_code.proofs.LawsOfLookUps.{address_of-place_of, is_some-place_of}
use Rattle.rv_code.proofs.LawsOfPlaces.{length-code_addresses_of_ranges}
use Rattle.flow_graph.specs.declared.block.Block.{Block}
use Rattle.flow_graph.specs.Blocks.{block_among, blocks_among, holds, is_last_among}
use Rattle.flow_graph.specs.Leaders.{is_leader_among, starts_in}
use Rattle.flow_graph.specs.Numbers.{AreNumbers}
use Rattle.flow_graph.proofs.Among.{words_alternate}
use Rattle.flow_graph.proofs.Followed.{code_at}
use Rattle.flow_graph.proofs.Marked.{words_rise}
use Rattle.flow_graph.proofs.Numbered.{numbered}
use Rattle.flow_graph.proofs.Runs.{runs_of}

-- how many of the words before a place end a block
abbrev pub ended : List Range → (starts : List ℕ) → ℕ → ℕ
ended ranges starts place = length (filter (is_last_among ranges starts) (take place (code_addresses (extents_of ranges))))

pub record Counted (ranges : List Range) (starts : List ℕ) (place : ℕ) (numbers : List ℕ) (number : ℕ) : Type 0 where
  pub some : length numbers ≡ place
  pub next : number ≡ ended ranges starts place
  pub each : (before : ℕ) → before < place → get_or numbers before 0 ≡ ended ranges starts before

pub none_counted : (ranges : List Range) (starts : List ℕ) (numbers : List ℕ) → numbers ≡ [] → Counted ranges starts 0 numbers 0
none_counted ranges starts numbers none = record {
  some = ap length none;
  next = refl;
  each = λ before less. absurd (omega arith);
}

pub one_counted : (ranges : List Range) (starts : List ℕ) (place address : ℕ) (numbers more : List ℕ) (number after : ℕ) → address_of (extents_of ranges) place ≡ Some address
    → more ≡ numbers ++ number ∷ [] → after ≡ number + cond (is_last_among ranges starts address) 1 0
    → Counted ranges starts place numbers number → Counted ranges starts (place + 1) more after
one_counted ranges starts place address numbers more number after is more_is after_is counted =
    let words : List ℕ = code_addresses (extents_of ranges) in
    let within : place < length words = slice_get_within words place address is in
    let here : get_or words place 0 ≡ address = get_or_from_slice_get words place address 0 is in
    record {
      some = ap length more_is ∙ (length_push numbers number ∙ ap (λ (n : ℕ). n + 1) counted.some);
      next =
          after_is
          ∙ (ap (λ (n : ℕ). n + cond (is_last_among ranges starts address) 1 0) counted.next
          ∙ (ap (λ (n : ℕ). ended ranges starts place + cond (is_last_among ranges starts n) 1 0) (sym here)
          ∙ sym (length-filter_more (is_last_among ranges starts) words place 0 within)));
      each = λ before less. ap (λ (xs : List ℕ). get_or xs before 0) more_is ∙ elim (cases_lt before place) [
        | inl front ↦ get_or_append_left numbers (number ∷ []) 0 before (omega (arith, front, counted.some)) ∙ counted.each before front
        | inr back ↦
            let same : before ≡ place = omega (arith, less, back) in
            get_or_push numbers number 0 before (counted.some ∙ sym same) ∙ (counted.next ∙ ap (ended ranges starts) (sym same))
      ];
    }

same_lists : (xs ys : List (Option ℕ)) → length xs ≡ length ys → ((place : ℕ) → place < length xs → get_or xs place None ≡ get_or ys place None) → xs ≡ ys
same_lists [] [] same each = refl
same_lists [] (y ∷ ys) same each = absurd (omega (arith, same))
same_lists (x ∷ xs) [] same each = absurd (omega (arith, same))
same_lists (x ∷ xs) (y ∷ ys) same each =
    let first : x ≡ y = each 0 (omega arith) in
    let rest : xs ≡ ys = same_lists xs ys (omega (arith, same)) (λ place inside. each (suc place) (omega (arith, inside))) in
    cc

in_block : (ranges : List Range) (starts : List ℕ) (address number : ℕ) → is_code (extents_of ranges) address ≡ true
    → position (λ (block : Block). holds block address) (blocks_among ranges starts) ≡ Some number → block_among ranges starts address ≡ Some number
in_block ranges starts address number code is = rw code is

-- each code word is in a block, whose number is how many blocks have ended before it
pub word_in_block : (ranges : List Range) (entry : ℕ) (named functions : List ℕ) (place address : ℕ) → AreCodeExtents (extents_of ranges) → AllByRecursion EndsInSpace (extents_of ranges)
    → address_of (extents_of ranges) place ≡ Some address
    → block_among ranges (starts_in ranges entry named functions) address ≡ Some (ended ranges (starts_in ranges entry named functions) place)
word_in_block ranges entry named functions place address order ends is =
    let starts : List ℕ = starts_in ranges entry named functions in
    let words : List ℕ = code_addresses (extents_of ranges) in
    in_block ranges starts address (ended ranges starts place) (code_at (extents_of ranges) place address order is)
    (numbered (is_leader_among ranges starts) (is_last_among ranges starts) None 0 0 place address words
    (runs_of (is_leader_among ranges starts) (is_last_among ranges starts) words (words_alternate ranges entry named functions order ends))
    (words_rise ranges order) tt is)

pub all_counted : (ranges : List Range) (entry : ℕ) (named functions : List ℕ) (place : ℕ) (numbers : List ℕ) (number : ℕ) → AreCodeExtents (extents_of ranges) → AllByRecursion EndsInSpace (extents_of ranges)
    → place ≡ word_count ranges → Counted ranges (starts_in ranges entry named functions) place numbers number → AreNumbers ranges (starts_in ranges entry named functions) numbers
all_counted ranges entry named functions place numbers number order ends all counted =
    let starts : List ℕ = starts_in ranges entry named functions in
    let words : List ℕ = code_addresses (extents_of ranges) in
    let count : length words ≡ word_count ranges = length-code_addresses_of_ranges ranges in
    record {
      same = same_lists (map (λ (n : ℕ). Some n) numbers) (map (block_among ranges starts) words)
          (simp length-map (counted.some ∙ (all ∙ sym count)))
          (λ one inside.
          let less : one < length numbers = omega (arith, inside, length-map numbers (λ (n : ℕ). Some n)) in
          let within : one < length words = omega (arith, less, counted.some, all, count) in
          get_or-map (λ (n : ℕ). Some n) numbers one 0 None less
          ∙ (ap (λ (n : ℕ). Some n) (counted.each one (omega (arith, less, counted.some)))
          ∙ (sym (word_in_block ranges entry named functions one (get_or words one 0) order ends (slice_get-get_or words one 0 within))
          ∙ sym (get_or-map (block_among ranges starts) words one 0 None within))));
    }

-- what the cell of a code word says
pub cell_of : (ranges : List Range) (starts numbers : List ℕ) (place address : ℕ) → place_of (extents_of ranges) address ≡ Some place → length numbers ≡ word_count ranges
    → AreNumbers ranges starts numbers → Some (get_or numbers place 0) ≡ block_among ranges starts address
cell_of ranges starts numbers place address is cells numbered =
    let words : List ℕ = code_addresses (extents_of ranges) in
    let found = address_of-place_of (extents_of ranges) place address is in
    let within : place < length words = slice_get_within words place address found in
    let less : place < length numbers = omega (arith, within, cells, length-code_addresses_of_ranges ranges) in
    sym (get_or-map (λ (n : ℕ). Some n) numbers place 0 None less)
    ∙ (ap (λ (xs : List (Option ℕ)). get_or xs place None) numbered.same
    ∙ (get_or-map (block_among ranges starts) words place 0 None within
    ∙ ap (block_among ranges starts) (get_or_from_slice_get words place address 0 found)))

no_block : (ranges : List Range) (starts : List ℕ) (address : ℕ) → is_code (extents_of ranges) address ≡ false → None ≡ block_among ranges starts address
no_block ranges starts address none = rw none refl

pub no_cell : (ranges : List Range) (starts : List ℕ) (address : ℕ) → AreCodeExtents (extents_of ranges) → place_of (extents_of ranges) address ≡ None → None ≡ block_among ranges starts address
no_cell ranges starts address order none =
    no_block ranges starts address (sym (is_some-place_of (extents_of ranges) address order.each) ∙ ap is_some none)

-- the word at the place ends a block
pub last_counted : (ranges : List Range) (starts : List ℕ) (place address : ℕ) (numbers more : List ℕ) (number after : ℕ) → Some address ≡ address_of (extents_of ranges) place
    → more ≡ numbers ++ number ∷ [] → is_last_among ranges starts address ≡ true → after ≡ number + 1
    → Counted ranges starts place numbers number → Counted ranges starts (place + 1) more after
last_counted ranges starts place address numbers more number after is more_is last after_is counted =
    one_counted ranges starts place address numbers more number after (sym is) more_is (rw last after_is) counted

pub other_counted : (ranges : List Range) (starts : List ℕ) (place address : ℕ) (numbers more : List ℕ) (number after : ℕ) → Some address ≡ address_of (extents_of ranges) place
    → more ≡ numbers ++ number ∷ [] → is_last_among ranges starts address ≡ false → after ≡ number
    → Counted ranges starts place numbers number → Counted ranges starts (place + 1) more after
other_counted ranges starts place address numbers more number after is more_is other after_is counted =
    let none : after ≡ number + 0 = omega (arith, after_is) in
    one_counted ranges starts place address numbers more number after (sym is) more_is (rw other none) counted

-- the same of equal lists
pub numbers_moved : (ranges others : List Range) (starts numbers cells : List ℕ) → others ≡ ranges → cells ≡ numbers → AreNumbers ranges starts numbers → AreNumbers others starts cells
numbers_moved ranges others starts numbers cells ranges_are cells_are numbered =
    subst (λ (rs : List Range). AreNumbers rs starts cells) (sym ranges_are) (subst (λ (ns : List ℕ). AreNumbers ranges starts ns) (sym cells_are) numbered)

block_by_place : (ranges : List Range) (starts numbers : List ℕ) (address : ℕ) (found : Option ℕ) → AreCodeExtents (extents_of ranges) → length numbers ≡ word_count ranges
    → AreNumbers ranges starts numbers → place_of (extents_of ranges) address ≡ found → is_some (block_among ranges starts address) ≡ is_some found
block_by_place ranges starts numbers address None order cells numbered is = ap is_some (sym (no_cell ranges starts address order is))
block_by_place ranges starts numbers address (Some place) order cells numbered is = ap is_some (sym (cell_of ranges starts numbers place address is cells numbered))

-- each code word is in a block, and nothing else is
pub is_some-block_among : (ranges : List Range) (starts numbers : List ℕ) (address : ℕ) → AreCodeExtents (extents_of ranges) → length numbers ≡ word_count ranges
    → AreNumbers ranges starts numbers → is_some (block_among ranges starts address) ≡ is_code (extents_of ranges) address
is_some-block_among ranges starts numbers address order cells numbered =
    block_by_place ranges starts numbers address (place_of (extents_of ranges) address) order cells numbered refl ∙ is_some-place_of (extents_of ranges) address order.each
