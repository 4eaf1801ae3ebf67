-- A run begins with its numbers in their ranges.
use Rattle.std.proofs.Common.{◌≡◌, ℕ, zero, suc, ◌%◌, ◌^◌, ◌*◌, ◌+◌, ◌<◌, ◌≤◌, Bool, true, false, cond, List, [], ◌∷◌, map, replicate, length, get_or, refl, subst, arith, inl, inr, length-append}
use Rattle.std.proofs.lemmas.List.{length-replicate}
use Rattle.std.proofs.lemmas.Bool.{or_cases}
use Rattle.std.proofs.lemmas.Bool.Decides.{nat_tests}
use Rattle.std.specs.Prelude.{is_some, not, nat_lt}
use Rattle.std.specs.List.{AllByRecursion, filter}
use Rattle.rv_code.specs.declared.extent.Extent.{Extent}
use Rattle.rv_code.specs.declared.image.Image.{Image}
use Rattle.rv_code.specs.declared.image.Range.{Range}
use Rattle.rv_code.specs.declared.image.Region.{Region}
use Rattle.rv_code.specs.Addresses.{stack_start, stack_length}
use Rattle.rv_code.specs.Code.{is_word_of, is_code, extent_end, extent_of, extents_of}
use Rattle.rv_code.specs.Image.{IsRegion, IsRange, IsImage}
use Rattle.rv_code.specs.Numbers.{IsByte, IsWord}
use Rattle.rv_code.specs.declared.limits.TheConstants.{FIRST_STACK_POINTER}
use Rattle.rv_code.proofs.LawsOfPlaces.{at_place, region_fits}
use Rattle.rv_machine.specs.Laws.{IsCell, BeginsInRanges}
use Rattle.rv_machine.specs.Start.{first_registers}
use Rattle.rv_memory.specs.Stretches.{MappedStretch, stack, stretch_of, stretches_of, cells_from, cells_of, cells_in}
use Rattle.rv_memory.proofs.LawsOfStart.{memory_begins}
use Rattle.rv_machine.proofs.Ranges.{AreCells, all_of_both, zeros_are_bytes, words-set}

-- a code word lies below 2^32
range_fits : (has_note : Bool) (regions : List Region) (range : Range) → AllByRecursion (IsRegion has_note) regions → IsRange regions range → extent_end (extent_of range) ≤ 2 ^ 32
range_fits has_note regions range all is =
    let held = is.held in
    let fits = region_fits has_note held.1 (subst (IsRegion has_note) held.3 (at_place (IsRegion has_note) regions all held.0 held.1 held.2)) in
    omega (arith, fits, held.4.below)

below_end : (extent : Extent) (address : ℕ) → is_word_of extent address ≡ true → extent_end extent ≤ 2 ^ 32 → IsWord address
below_end extent address is fits =
    let lies : (extent.start ≤ address) × (address < extent.start + 4 * extent.count) × (address % 4 ≡ 0) = grind (arith, nat_tests) in
    omega (arith, lies.1, fits)

pub code_is_word : (has_note : Bool) (regions : List Region) → AllByRecursion (IsRegion has_note) regions → (ranges : List Range) → AllByRecursion (IsRange regions) ranges → (address : ℕ) → is_code (extents_of ranges) address ≡ true → IsWord address
code_is_word has_note regions all [] are address is = absurd (cc is)
code_is_word has_note regions all (range ∷ ranges) are address is =
    elim (or_cases (is_word_of (extent_of range) address) (is_code (extents_of ranges) address) is) [
      | inl here ↦ below_end (extent_of range) address here (range_fits has_note regions range all are.0)
      | inr there ↦ code_is_word has_note regions all ranges are.1 address there
    ]

-- the bytes of a stretch are bytes; a record, so that the stack's are never counted out
record HasBytes (stretch : MappedStretch) : Type 0 where
  pub bytes : AllByRecursion IsByte stretch.bytes
  pub within : stretch.start + length stretch.bytes ≤ 2 ^ 32

zeros_have_bytes : (start count : ℕ) (stretch : MappedStretch) → start + count ≤ 2 ^ 32 → stretch ≡ record { start = start; bytes = replicate count 0; writable = true } → HasBytes stretch
zeros_have_bytes start count stretch fits same =
    rw same (record { bytes = zeros_are_bytes count; within = omega (arith, length-replicate {A = ℕ} count 0) })

stack_has_bytes : HasBytes stack
unfolding stack
stack_has_bytes = zeros_have_bytes stack_start stack_length stack (omega arith) refl

region_has_bytes : (has_note : Bool) (region : Region) → IsRegion has_note region → HasBytes (stretch_of region)
region_has_bytes has_note region is =
    record {
      bytes = all_of_both IsByte region.bytes (replicate region.zeros 0) is.bytes (zeros_are_bytes region.zeros);
      within = omega (arith, region_fits has_note region is, length-append region.bytes (replicate region.zeros 0), length-replicate {A = ℕ} region.zeros 0);
    }

kept_or_not : (t : Bool) (region : Region) (regions : List Region) → HasBytes (stretch_of region) → AllByRecursion HasBytes (map stretch_of regions) → AllByRecursion HasBytes (map stretch_of (cond t (region ∷ regions) regions))
kept_or_not true region regions f g = (f, g)
kept_or_not false region regions f g = g

regions_have_bytes : (has_note : Bool) (keeps : Region → Bool) (regions : List Region) → AllByRecursion (IsRegion has_note) regions → AllByRecursion HasBytes (map stretch_of (filter keeps regions))
regions_have_bytes has_note keeps [] all = tt
regions_have_bytes has_note keeps (region ∷ regions) all =
    kept_or_not (keeps region) region (filter keeps regions) (region_has_bytes has_note region all.0) (regions_have_bytes has_note keeps regions all.1)

cells_are_bytes : (address : ℕ) (bytes : List ℕ) (writable : Bool) → AllByRecursion IsByte bytes → address + length bytes ≤ 2 ^ 32 → AreCells (cells_from address bytes writable)
cells_are_bytes address [] writable h fits = tt
cells_are_bytes address (byte ∷ bytes) writable h fits =
    (record { address = omega (arith, fits); byte = h.0 }, cells_are_bytes (suc address) bytes writable h.1 (omega (arith, fits)))

memory_is_bytes : (stretches : List MappedStretch) → AllByRecursion HasBytes stretches → AreCells (cells_in stretches)
memory_is_bytes [] h = tt
memory_is_bytes (stretch ∷ stretches) h =
    all_of_both IsCell (cells_of stretch) (cells_in stretches)
    (cells_are_bytes stretch.start stretch.bytes stretch.writable h.0.bytes h.0.within) (memory_is_bytes stretches h.1)

stretches_have_bytes : (has_note : Bool) (regions : List Region) → AllByRecursion (IsRegion has_note) regions → AllByRecursion HasBytes (stretches_of regions)
stretches_have_bytes has_note regions all =
    let is_below : Region → Bool = λ region. nat_lt region.start stack_start in
    all_of_both HasBytes (map stretch_of (filter is_below regions)) (stack ∷ map stretch_of (filter (λ region. not (is_below region)) regions))
    (regions_have_bytes has_note is_below regions all) (stack_has_bytes, regions_have_bytes has_note (λ region. not (is_below region)) regions all)

-- the registers before the first step
zeros_are_words : (count : ℕ) → AllByRecursion IsWord (replicate count 0)
zeros_are_words zero = tt
zeros_are_words (suc count) = (omega arith, zeros_are_words count)

first_are_words : AllByRecursion IsWord first_registers
unfolding first_registers
first_are_words = words-set (replicate 32 0) 2 FIRST_STACK_POINTER (zeros_are_words 32) (omega arith)

first_count : length first_registers ≡ 32
unfolding first_registers
first_count = refl

pub first_zero : get_or first_registers 0 0 ≡ 0
unfolding first_registers
first_zero = refl

pub begins_in_ranges : (image : Image) → IsImage image → BeginsInRanges image
begins_in_ranges image is input bytes =
    record {
      pc = code_is_word (is_some image.note) image.regions is.regions image.code is.ranges image.entry is.entry;
      count = first_count;
      zero = first_zero;
      registers = first_are_words;
      memory = memory_is_bytes (stretches_of image.regions) (stretches_have_bytes (is_some image.note) image.regions is.regions);
      once = memory_begins (is_some image.note) image.regions is.regions is.regions_rise;
      input = bytes;
      out = tt;
      err = tt;
      events = tt;
    }
