-- At the start of a run memory has the image's code words.
use Rattle.std.proofs.Common.{◌≡◌, ◌⊎◌, inl, inr, ℕ, zero, suc, ◌+◌, ◌-◌, ◌*◌, ◌/◌, ◌%◌, ◌<◌, ◌≤◌, Bool, true, false, cond, List, [], ◌∷◌, ◌++◌, map, replicate, length, drop, get_or, Some, is_some, refl, sym, ap, subst, ◌∙◌, arith, length-append}
use Rattle.std.specs.Prelude.{not, filter, flat_map, nat_lt, slice_get}
use Rattle.std.specs.List.{AllByRecursion}
use Rattle.std.proofs.lemmas.Bool.{cases_Bool, eq-eqb, ne_eqb}
use Rattle.std.proofs.lemmas.Bool.Decides.{nat_tests}
use Rattle.std.proofs.lemmas.List.{get_or-take, get_or-drop, get_or_append_left, get_or-append-add}
use Rattle.rv_code.specs.declared.image.Image.{Image}
use Rattle.rv_code.specs.declared.image.Range.{Range}
use Rattle.rv_code.specs.declared.image.Region.{Region}
use Rattle.rv_code.specs.Addresses.{stack_start}
use Rattle.rv_code.specs.Code.{code_word, extent_of, extents_of, is_code, is_word_of}
use Rattle.rv_code.specs.Image.{HoldsWords, IsImage, IsRange}
use Rattle.rv_code.specs.Numbers.{IsWord, wrap, bytes_of, number_of}
use Rattle.rv_code.proofs.LawsOfLookUps.{is_some-code_word}
use Rattle.rv_code.proofs.LawsOfBytes.{number_of-bytes_of}
use Rattle.rv_memory.specs.Memory.{Cell, Rise, byte_at, byte_of_cell, bytes_at, cell_at, span}
use Rattle.rv_memory.specs.Stretches.{MappedStretch, stack, stretch_of, stretches_of, cells_from, cells_of, cells_in, memory_of, mapping_of}
use Rattle.rv_memory.proofs.LawsOfStart.{memory_begins}
use Rattle.rv_machine.specs.Laws.{BeginsWithCode}
use Rattle.rv_machine.proofs.Begun.{code_is_word}

-- one of a list
abbrev IsOne : {X : Type 0} → List X → X → Type 0
IsOne [] x = ⊥
IsOne (y ∷ ys) x = (y ≡ x) ⊎ IsOne ys x

one_before : {X : Type 0} (xs ys : List X) (x : X) → IsOne xs x → IsOne (xs ++ ys) x
one_before [] ys x one = absurd one
one_before (y ∷ xs) ys x (inl same) = inl same
one_before (y ∷ xs) ys x (inr one) = inr (one_before xs ys x one)

one_behind : {X : Type 0} (xs ys : List X) (x : X) → IsOne ys x → IsOne (xs ++ ys) x
one_behind [] ys x one = one
one_behind (y ∷ xs) ys x one = inr (one_behind xs ys x one)

one_mapped : (regions : List Region) (region : Region) → IsOne regions region → IsOne (map stretch_of regions) (stretch_of region)
one_mapped [] region one = absurd one
one_mapped (other ∷ regions) region (inl same) = inl (ap stretch_of same)
one_mapped (other ∷ regions) region (inr one) = inr (one_mapped regions region one)

one_here : (t : Bool) (other region : Region) (regions : List Region) → t ≡ true → other ≡ region → IsOne (cond t (other ∷ regions) regions) region
one_here true other region regions keeps same = inl same
one_here false other region regions keeps same = absurd (cc keeps)

one_later : (t : Bool) (other region : Region) (regions : List Region) → IsOne regions region → IsOne (cond t (other ∷ regions) regions) region
one_later true other region regions one = inr one
one_later false other region regions one = one

one_kept : (keeps : Region → Bool) (regions : List Region) (region : Region) → keeps region ≡ true → IsOne regions region → IsOne (filter keeps regions) region
one_kept keeps [] region kept one = absurd one
one_kept keeps (other ∷ regions) region kept (inl same) = one_here (keeps other) other region (filter keeps regions) (ap keeps same ∙ kept) same
one_kept keeps (other ∷ regions) region kept (inr one) = one_later (keeps other) other region (filter keeps regions) (one_kept keeps regions region kept one)

one_at : (regions : List Region) (place : ℕ) (region : Region) → place < length regions → get_or regions place region ≡ region → IsOne regions region
one_at [] place region within same = absurd (omega (arith, within))
one_at (other ∷ regions) zero region within same = inl same
one_at (other ∷ regions) (suc place) region within same = inr (one_at regions place region (omega (arith, within)) same)

one_stretch : (regions : List Region) (region : Region) → IsOne regions region → IsOne (stretches_of regions) (stretch_of region)
one_stretch regions region one =
    let is_below : Region → Bool = λ region. nat_lt region.start stack_start in
    let low : List MappedStretch = map stretch_of (filter is_below regions) in
    let high : List MappedStretch = map stretch_of (filter (λ region. not (is_below region)) regions) in
    elim (cases_Bool (nat_lt region.start stack_start)) [
      | inl below ↦ one_before low (stack ∷ high) (stretch_of region) (one_mapped (filter is_below regions) region (one_kept is_below regions region below one))
      | inr behind ↦
          one_behind low (stack ∷ high) (stretch_of region)
          (inr (one_mapped (filter (λ region. not (is_below region)) regions) region (one_kept (λ region. not (is_below region)) regions region (ap not behind) one)))
    ]

one_cell : (start : ℕ) (bytes : List ℕ) (writable : Bool) (place address : ℕ) → address ≡ start + place → place < length bytes
    → IsOne (cells_from start bytes writable) (record { address = address; byte = get_or bytes place 0; writable = writable })
one_cell start [] writable place address is within = absurd (omega (arith, within))
one_cell start (byte ∷ bytes) writable zero address is within =
    let same : start ≡ address = omega (arith, is) in
    let cells : ◌≡◌ {A = Cell} (record { address = start; byte = byte; writable = writable }) (record { address = address; byte = byte; writable = writable }) = λ i. record { address = same i; byte = byte; writable = writable } in
    inl cells
one_cell start (byte ∷ bytes) writable (suc place) address is within = inr (one_cell (suc start) bytes writable place address (omega (arith, is)) (omega (arith, within)))

one_mapped_cell : (stretches : List MappedStretch) (stretch : MappedStretch) (cell : Cell) → IsOne stretches stretch → IsOne (cells_of stretch) cell → IsOne (cells_in stretches) cell
one_mapped_cell [] stretch cell one here = absurd one
one_mapped_cell (other ∷ stretches) stretch cell (inl same) here = one_before (cells_of other) (cells_in stretches) cell (subst (λ (s : MappedStretch). IsOne (cells_of s) cell) (sym same) here)
one_mapped_cell (other ∷ stretches) stretch cell (inr one) here = one_behind (cells_of other) (cells_in stretches) cell (one_mapped_cell stretches stretch cell one here)

-- among cells that rise, each is the one of its address
found_cell : (low : ℕ) (cells : List Cell) (cell : Cell) → Rise low cells → IsOne cells cell → (low ≤ cell.address) × (cell_at cells cell.address ≡ Some cell)
found_cell low [] cell rise one = absurd one
found_cell low (other ∷ cells) cell rise (inl same) =
    subst (λ (x : Cell). (low ≤ x.address) × (cell_at (other ∷ cells) x.address ≡ Some x)) same
    (rise.0, ap (λ t. cond t (Some other) (cell_at cells other.address)) (eq-eqb other.address other.address refl))
found_cell low (other ∷ cells) cell rise (inr one) =
    let (above, found) = found_cell (suc other.address) cells cell rise.1 one in
    let before = rise.0 in (
      omega (arith, before, above),
      ap (λ t. cond t (Some other) (cell_at cells cell.address)) (ne_eqb other.address cell.address (λ same. absurd (omega (arith, above, same)))) ∙ found,
    )

-- the bytes of words
flat_byte : (words : List ℕ) (place byte word : ℕ) → slice_get words place ≡ Some word → byte < 4 → get_or (flat_map (bytes_of 4) words) (4 * place + byte) 0 ≡ get_or (bytes_of 4 word) byte 0
flat_byte [] place byte word is few = absurd (cc is)
flat_byte (first ∷ words) zero byte word is few =
    let same : first ≡ word = cc is in
    let index : 4 * 0 + byte ≡ byte = omega arith in
    ap (λ n. get_or (bytes_of 4 first ++ flat_map (bytes_of 4) words) n 0) index
    ∙ get_or_append_left (bytes_of 4 first) (flat_map (bytes_of 4) words) 0 byte few
    ∙ ap (λ n. get_or (bytes_of 4 n) byte 0) same
flat_byte (first ∷ words) (suc place) byte word is few =
    let index : 4 * suc place + byte ≡ 4 + (4 * place + byte) = omega arith in
    ap (λ n. get_or (bytes_of 4 first ++ flat_map (bytes_of 4) words) n 0) index
    ∙ get_or-append-add (bytes_of 4 first) (flat_map (bytes_of 4) words) (4 * place + byte) 0
    ∙ flat_byte words place byte word is few

word_of_list : (words : List ℕ) (place word : ℕ) → AllByRecursion IsWord words → slice_get words place ≡ Some word → (place < length words) × IsWord word
word_of_list [] place word all is = absurd (cc is)
word_of_list (first ∷ words) zero word all is = let same : first ≡ word = cc is in (omega arith, subst IsWord same all.0)
word_of_list (first ∷ words) (suc place) word all is = let (within, small) = word_of_list words place word all.1 is in (omega (arith, within), small)

-- the word of a range that a region holds
module _ (memory : List Cell) (region : Region) (range : Range) (holds : HoldsWords region range) (aligned : range.start % 4 ≡ 0) (all : AllByRecursion IsWord range.words)
    (has : (place : ℕ) → place < length region.bytes → byte_at memory (region.start + place) ≡ get_or region.bytes place 0) where
  module _ (address word : ℕ) (small : IsWord address) (low : range.start ≤ address) (whole : address % 4 ≡ 0) (there : slice_get range.words ((address - range.start) / 4) ≡ Some word) where
    abbrev place : ℕ
    place = (address - range.start) / 4

    byte_there : (byte other : ℕ) → byte < 4 → other ≡ address + byte → byte_at memory other ≡ get_or (bytes_of 4 word) byte 0
    byte_there byte other few is =
        let inside = (word_of_list range.words place word all there).0 in
        let above = holds.above in
        let below = holds.below in
        let four : address ≡ range.start + 4 * place = omega (arith, aligned, whole, low) in
        let behind : other ≡ region.start + ((range.start - region.start) + (4 * place + byte)) = omega (arith, is, four, above) in
        let within : (range.start - region.start) + (4 * place + byte) < length region.bytes = omega (arith, above, below, inside, few) in
        let short : 4 * place + byte < 4 * length range.words = omega (arith, inside, few) in
        ap (byte_at memory) behind
        ∙ has ((range.start - region.start) + (4 * place + byte)) within
        ∙ sym (get_or-drop (range.start - region.start) region.bytes (4 * place + byte) 0)
        ∙ sym (get_or-take (4 * length range.words) (drop (range.start - region.start) region.bytes) (4 * place + byte) 0 short)
        ∙ ap (λ bytes. get_or bytes (4 * place + byte) 0) holds.same
        ∙ flat_byte range.words place byte word there few

    word_there : number_of (bytes_at memory (span address 4)) ≡ word
    word_there =
        let second : ℕ = wrap (address + 1) in
        let third : ℕ = wrap (second + 1) in
        let fourth : ℕ = wrap (third + 1) in
        let at_second : second ≡ address + 1 = omega (arith, whole, small) in
        let at_third : third ≡ address + 2 = omega (arith, whole, small, at_second) in
        let at_fourth : fourth ≡ address + 3 = omega (arith, whole, small, at_third) in
        let a = byte_there 0 address (omega arith) (omega arith) in
        let b = byte_there 1 second (omega arith) at_second in
        let c = byte_there 2 third (omega arith) at_third in
        let d = byte_there 3 fourth (omega arith) at_fourth in
        let bytes : bytes_at memory (span address 4) ≡ bytes_of 4 word = λ i. a i ∷ b i ∷ c i ∷ d i ∷ [] in
        ap number_of bytes ∙ number_of-bytes_of word (word_of_list range.words place word all there).1

module _ (image : Image) (is : IsImage image) where
  abbrev first_memory : List Cell
  first_memory = memory_of (mapping_of image.regions)

  region_there : (region : Region) → IsOne image.regions region → (place : ℕ) → place < length region.bytes → byte_at first_memory (region.start + place) ≡ get_or region.bytes place 0
  region_there region one place within =
      let bytes : List ℕ = region.bytes ++ replicate region.zeros 0 in
      let long : place < length bytes = omega (arith, within, length-append region.bytes (replicate region.zeros 0)) in
      let cell : Cell = record { address = region.start + place; byte = get_or bytes place 0; writable = region.writable } in
      let mapped : IsOne first_memory cell = one_mapped_cell (stretches_of image.regions) (stretch_of region) cell (one_stretch image.regions region one) (one_cell region.start bytes region.writable place (region.start + place) refl long) in
      ap byte_of_cell (found_cell 0 first_memory cell (memory_begins (is_some image.note) image.regions is.regions is.regions_rise) mapped).1
      ∙ get_or_append_left region.bytes (replicate region.zeros 0) 0 place within

  by_range : (here : Bool) (range : Range) (ranges : List Range) (address word : ℕ) → is_word_of (extent_of range) address ≡ here
      → cond here (slice_get range.words ((address - range.start) / 4)) (code_word ranges address) ≡ Some word → IsRange image.regions range → IsWord address
      → (code_word ranges address ≡ Some word → number_of (bytes_at first_memory (span address 4)) ≡ word) → number_of (bytes_at first_memory (span address 4)) ≡ word
  by_range false range ranges address word here found is_range small rest = rest found
  by_range true range ranges address word here found is_range small rest =
      let held = is_range.held in
      let lies : (range.start ≤ address) × (address < range.start + 4 * length range.words) × (address % 4 ≡ 0) = grind (arith, nat_tests) in
      word_there first_memory held.1 range held.4 is_range.aligned is_range.words (region_there held.1 (one_at image.regions held.0 held.1 held.2 held.3)) address word small lies.0 lies.2 found

  ranges_there : (ranges : List Range) → AllByRecursion (IsRange image.regions) ranges → (address word : ℕ) → IsWord address → code_word ranges address ≡ Some word
      → number_of (bytes_at first_memory (span address 4)) ≡ word
  ranges_there [] all address word small found = absurd (cc found)
  ranges_there (range ∷ ranges) all address word small found =
      by_range (is_word_of (extent_of range) address) range ranges address word refl found all.0 small (λ later. ranges_there ranges all.1 address word small later)

pub begins_with_code : (image : Image) → IsImage image → BeginsWithCode image
begins_with_code image is input address word found =
    let code : is_code (extents_of image.code) address ≡ true = sym (is_some-code_word image.code address) ∙ ap is_some found in
    ranges_there image is image.code is.ranges address word (code_is_word (is_some image.note) image.regions is.regions image.code is.ranges address code) found
