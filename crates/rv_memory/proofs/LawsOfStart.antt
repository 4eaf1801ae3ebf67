-- Laws of what is mapped before the first step of an image: its stretches are in order, and no address has two cells. Crates
-- above may cite this file.
use Rattle.std.proofs.Common.{◌≡◌, ℕ, suc, ◌+◌, ◌^◌, ◌<◌, ◌≤◌, Bool, true, false, cond, List, [], ◌∷◌, ◌++◌, map, length, replicate, refl, ap, ◌∙◌, arith, inl, inr, length-append}
use Rattle.std.proofs.lemmas.Bool.Decides.{nat_tests}
use Rattle.std.proofs.lemmas.List.{length-replicate}
use Rattle.std.specs.Prelude.{⊤, not, nat_lt}
use Rattle.std.specs.List.{AllByRecursion, filter}
use Rattle.rv_code.specs.declared.image.Region.{Region}
use Rattle.rv_code.specs.Addresses.{stack_start, stack_length}
use Rattle.rv_code.specs.Image.{region_length, region_end, IsRegion, RegionsRise}
use Rattle.rv_memory.specs.Memory.{Cell, Rise}
use Rattle.rv_memory.specs.Stretches.{MappedStretch, stack, stretch_of, stretches_of, cells_from, cells_of, cells_in, memory_of, mapping_of}
use Rattle.rv_memory.specs.Outline.{stretch_end, IsStretch, RiseFrom, AreInOrder}

rise_from : (low high : ℕ) (stretches : List MappedStretch) → low ≤ high → RiseFrom high stretches → RiseFrom low stretches
rise_from low high [] le h = tt
rise_from low high (stretch ∷ stretches) le h = (omega (arith, h.0, le), h.1)

rise-append : (low high : ℕ) (xs ys : List MappedStretch) → RiseFrom low xs → AllByRecursion (λ stretch. stretch_end stretch ≤ high) xs → low ≤ high → RiseFrom high ys → RiseFrom low (xs ++ ys)
rise-append low high [] ys f below le g = rise_from low high ys le g
rise-append low high (x ∷ xs) ys f below le g = (f.0, (f.1.0, rise-append (stretch_end x) high xs ys f.1.1 below.1 below.0 g))

-- the stretches of an image's regions
abbrev RegionsFrom : ℕ → List Region → Type 0
RegionsFrom low [] = ⊤
RegionsFrom low (region ∷ regions) = (low ≤ region.start) × RegionsFrom (region_end region) regions

regions_behind : (region : Region) (regions : List Region) → RegionsRise (region ∷ regions) → RegionsFrom (region_end region) regions
regions_behind region [] h = tt
regions_behind region (next ∷ regions) h = (h.0, regions_behind next regions h.1)

regions_from : (regions : List Region) → RegionsRise regions → RegionsFrom 0 regions
regions_from [] h = tt
regions_from (region ∷ regions) h = (omega arith, regions_behind region regions h)

stretch_end_of : (region : Region) → stretch_end (stretch_of region) ≡ region_end region
stretch_end_of region = omega (arith, length-append region.bytes (replicate region.zeros 0), length-replicate {A = ℕ} region.zeros 0)

-- a region's stretch, and the stack
region_is : (has_note : Bool) (region : Region) → IsRegion has_note region → IsStretch (stretch_of region)
region_is has_note region is =
    let count : length (stretch_of region).bytes ≡ region_length region = omega (arith, length-append region.bytes (replicate region.zeros 0), length-replicate {A = ℕ} region.zeros 0) in
    elim is.allowed [
      | inl under ↦ record { some = omega (arith, is.some, count); part = omega (arith, under, count); within = omega (arith, under, count) }
      | inr over ↦ record { some = omega (arith, is.some, count); part = omega (arith, over.1, count); within = omega (arith, over.1, count) }
    ]

kept_rise : (t : Bool) (low : ℕ) (region : Region) (regions : List Region) → low ≤ region.start → IsStretch (stretch_of region) → RiseFrom (region_end region) (map stretch_of regions) → RiseFrom low (map stretch_of (cond t (region ∷ regions) regions))
kept_rise true low region regions le is h = (le, (is, rise_from (stretch_end (stretch_of region)) (region_end region) (map stretch_of regions) (omega (arith, stretch_end_of region)) h))
kept_rise false low region regions le is h = rise_from low (region_end region) (map stretch_of regions) (omega (arith, le)) h

filtered_rise : (has_note : Bool) (keeps : Region → Bool) (low : ℕ) (regions : List Region) → AllByRecursion (IsRegion has_note) regions → RegionsFrom low regions → RiseFrom low (map stretch_of (filter keeps regions))
filtered_rise has_note keeps low [] all h = tt
filtered_rise has_note keeps low (region ∷ regions) all h =
    kept_rise (keeps region) low region (filter keeps regions) h.0 (region_is has_note region all.0) (filtered_rise has_note keeps (region_end region) regions all.1 h.1)

-- what holds of each region that is kept
kept_have : (P : MappedStretch → Type 0) (t : Bool) (region : Region) (regions : List Region) → (t ≡ true → P (stretch_of region)) → AllByRecursion P (map stretch_of regions) → AllByRecursion P (map stretch_of (cond t (region ∷ regions) regions))
kept_have P true region regions f g = (f refl, g)
kept_have P false region regions f g = g

filtered_have : (P : MappedStretch → Type 0) (has_note : Bool) (keeps : Region → Bool) → ((region : Region) → IsRegion has_note region → keeps region ≡ true → P (stretch_of region)) → (regions : List Region) → AllByRecursion (IsRegion has_note) regions → AllByRecursion P (map stretch_of (filter keeps regions))
filtered_have P has_note keeps f [] all = tt
filtered_have P has_note keeps f (region ∷ regions) all =
    kept_have P (keeps region) region (filter keeps regions) (f region all.0) (filtered_have P has_note keeps f regions all.1)

-- a region that begins below the stack ends there
ends_below : (has_note : Bool) (region : Region) → IsRegion has_note region → nat_lt region.start stack_start ≡ true → stretch_end (stretch_of region) ≤ stack_start
ends_below has_note region is below =
    let lies : region.start < stack_start = grind (arith, nat_tests) in
    elim is.allowed [
      | inl under ↦ omega (arith, under, stretch_end_of region)
      | inr over ↦ absurd (omega (arith, over.1, lies))
    ]

-- another lies behind it
begins_behind : (has_note : Bool) (region : Region) → IsRegion has_note region → not (nat_lt region.start stack_start) ≡ true → stack_start + stack_length ≤ region.start
begins_behind has_note region is behind =
    let lies : stack_start ≤ region.start = grind (arith, nat_tests) in
    elim is.allowed [
      | inl under ↦ absurd (omega (arith, under, is.some, lies))
      | inr over ↦ omega (arith, over.1)
    ]

raised : (low high : ℕ) (stretches : List MappedStretch) → RiseFrom low stretches → AllByRecursion (λ (stretch : MappedStretch). high ≤ stretch.start) stretches → RiseFrom high stretches
raised low high [] h g = tt
raised low high (stretch ∷ stretches) h g = (g.0, h.1)

zeros_end : (start count : ℕ) (stretch : MappedStretch) → 0 < count → count < 2 ^ 32 → start + count ≤ 2 ^ 32 → stretch ≡ record { start = start; bytes = replicate count 0; writable = true }
    → (stretch.start ≡ start) × ((stretch_end stretch ≡ start + count) × IsStretch stretch)
zeros_end start count stretch some part within same =
    rw same (
      refl,
      (
        omega (arith, length-replicate {A = ℕ} count 0),
        record {
          some = omega (arith, length-replicate {A = ℕ} count 0);
          part = omega (arith, length-replicate {A = ℕ} count 0);
          within = omega (arith, length-replicate {A = ℕ} count 0);
        },
      ),
    )

stack_end : (stack.start ≡ stack_start) × ((stretch_end stack ≡ stack_start + stack_length) × IsStretch stack)
unfolding stack
stack_end = zeros_end stack_start stack_length stack (omega arith) (omega arith) (omega arith) refl

pub stretches_in_order : (has_note : Bool) (regions : List Region) → AllByRecursion (IsRegion has_note) regions → RegionsRise regions → AreInOrder (stretches_of regions)
stretches_in_order has_note regions all rise =
    let is_below : Region → Bool = λ region. nat_lt region.start stack_start in
    let is_behind : Region → Bool = λ region. not (is_below region) in
    let low = regions_from regions rise in
    record {
      rise = rise-append 0 stack_start (map stretch_of (filter is_below regions)) (stack ∷ map stretch_of (filter is_behind regions))
          (filtered_rise has_note is_below 0 regions all low)
          (filtered_have (λ stretch. stretch_end stretch ≤ stack_start) has_note is_below (ends_below has_note) regions all)
          (omega arith) (
            omega (arith, stack_end.0),
            (
              stack_end.1.1,
              raised 0 (stretch_end stack) (map stretch_of (filter is_behind regions)) (filtered_rise has_note is_behind 0 regions all low)
                  (filtered_have (λ (stretch : MappedStretch). stretch_end stack ≤ stretch.start) has_note is_behind (λ region is behind. omega (arith, stack_end.1.0, begins_behind has_note region is behind)) regions all),
            ),
          );
    }

-- the cells of stretches in order, and those before the first step
rise_behind : (low high : ℕ) (cells : List Cell) → low ≤ high → Rise high cells → Rise low cells
rise_behind low high [] le h = tt
rise_behind low high (cell ∷ cells) le h = (omega (arith, h.0, le), h.1)

cells-append : (low high : ℕ) (xs ys : List Cell) → Rise low xs → AllByRecursion (λ (cell : Cell). cell.address < high) xs → low ≤ high → Rise high ys → Rise low (xs ++ ys)
cells-append low high [] ys f below le g = rise_behind low high ys le g
cells-append low high (x ∷ xs) ys f below le g = (f.0, cells-append (suc x.address) high xs ys f.1 below.1 (omega (arith, below.0)) g)

cells_rise : (address : ℕ) (bytes : List ℕ) (writable : Bool) → Rise address (cells_from address bytes writable)
cells_rise address [] writable = tt
cells_rise address (byte ∷ bytes) writable = (omega arith, cells_rise (suc address) bytes writable)

cells_below : (address high : ℕ) (bytes : List ℕ) (writable : Bool) → address + length bytes ≤ high → AllByRecursion (λ (cell : Cell). cell.address < high) (cells_from address bytes writable)
cells_below address high [] writable le = tt
cells_below address high (byte ∷ bytes) writable le = (omega (arith, le), cells_below (suc address) high bytes writable (omega (arith, le)))

stretches_have_each_once : (low : ℕ) (stretches : List MappedStretch) → RiseFrom low stretches → Rise low (cells_in stretches)
stretches_have_each_once low [] h = tt
stretches_have_each_once low (stretch ∷ stretches) h =
    cells-append low (stretch_end stretch) (cells_of stretch) (cells_in stretches)
    (rise_behind low stretch.start (cells_of stretch) h.0 (cells_rise stretch.start stretch.bytes stretch.writable))
    (cells_below stretch.start (stretch_end stretch) stretch.bytes stretch.writable (omega arith))
    (omega (arith, h.0)) (stretches_have_each_once (stretch_end stretch) stretches h.1.1)

pub memory_begins : (has_note : Bool) (regions : List Region) → AllByRecursion (IsRegion has_note) regions → RegionsRise regions → Rise 0 (memory_of (mapping_of regions))
memory_begins has_note regions all rise = stretches_have_each_once 0 (stretches_of regions) (stretches_in_order has_note regions all rise).rise

-- the stack as it is made
pub stack_is : (start count : ℕ) (made : MappedStretch) → start ≡ stack_start → count ≡ stack_length → made ≡ record { start = start; bytes = replicate count 0; writable = true } → made ≡ stack
unfolding stack
stack_is start count made begins long is =
    is ∙ (ap (λ n. record { start = n; bytes = replicate count 0; writable = true }) begins ∙ ap (λ n. record { start = stack_start; bytes = replicate n 0; writable = true }) long)
