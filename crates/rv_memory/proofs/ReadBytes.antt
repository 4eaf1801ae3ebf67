-- Accesses over addresses one behind another.
use Rattle.std.proofs.Common.{◌≡◌, ℕ, zero, suc, ◌+◌, ◌-◌, ◌*◌, ◌^◌, ◌<◌, ◌≤◌, Bool, true, false, cond, List, [], ◌∷◌, length, take, drop, get_or, Option, None, Some, Result, Ok, Err, refl, sym, ap, ◌∙◌, subst, arith, inl, inr}
use Rattle.std.specs.Prelude.{MatchOption, not, is_some, nat_le, nat_lt, ◌&&◌}
use Rattle.std.proofs.lemmas.Bool.Decides.{nat_tests}
use Rattle.std.proofs.lemmas.List.{take_rest, length-drop}
use Rattle.std.proofs.Math.Seq.{drop-cons}
use Rattle.std.proofs.Math.Nat.{mod-eq_of_lt, pow-suc}
use Rattle.rv_code.specs.Numbers.{wrap, number_of}
use Rattle.rv_memory.specs.declared.hole.Hole.{Hole}
use Rattle.rv_memory.specs.Answers.{hole_or}
use Rattle.rv_memory.specs.Memory.{Cell, cell_at, is_mapped, is_writable, is_writable_cell, byte_of_cell, span, bytes_at, first_hole}
use Rattle.rv_memory.specs.Stretches.{MappedStretch, cells_in}
use Rattle.rv_memory.specs.Outline.{stretch_end, RiseFrom, AreInOrder, region_at, bytes_behind}
use Rattle.rv_memory.specs.Inner.Places.{stretch_at, HasAddress, Misses, IsNowhere}
use Rattle.rv_memory.proofs.LawsOfCells.{bytes_at-take, no_hole}
use Rattle.rv_memory.proofs.Order.{cell_of, stretch_is, nowhere, start_above}

-- the first address of some, and the others
pub span_more : (address count : ℕ) → 0 < count → span address count ≡ address ∷ span (wrap (address + 1)) (count - 1)
span_more address zero some = absurd (omega arith)
span_more address (suc count) some = let same : count ≡ suc count - 1 = omega arith in ap (λ n. address ∷ span (wrap (address + 1)) n) same

-- what is read of a memory
abbrev pub read_of : List Cell → List ℕ → Result ℕ Hole
read_of memory addresses = hole_or (first_hole memory addresses) (number_of (bytes_at memory addresses))

pub read_at_hole : (memory : List Cell) (address count : ℕ) → 0 < count → cell_at memory address ≡ None → read_of memory (span address count) ≡ Err (record { address = address })
read_at_hole memory address count some none =
    rw (span_more address count some)
    (ap (λ (o : Option Cell). hole_or (cond (not (is_some o)) (Some address) (first_hole memory (span (wrap (address + 1)) (count - 1)))) (number_of (bytes_at memory (address ∷ span (wrap (address + 1)) (count - 1))))) none)

read_more : (memory : List Cell) (address : ℕ) (addresses : List ℕ) (cell : Cell) → cell_at memory address ≡ Some cell
    → read_of memory (address ∷ addresses) ≡ hole_or (first_hole memory addresses) (cell.byte + 256 * number_of (bytes_at memory addresses))
read_more memory address addresses cell found =
    ap (λ (o : Option Cell). hole_or (cond (not (is_some o)) (Some address) (first_hole memory addresses)) (byte_of_cell o + 256 * number_of (bytes_at memory addresses))) found

answered : (hole : Option ℕ) (byte number rest : ℕ) → Ok rest ≡ hole_or hole number → hole_or hole (byte + 256 * number) ≡ Ok (byte + 256 * rest)
answered None byte number rest is = let same : rest ≡ number = cc in ap (λ n. Ok (byte + 256 * n)) (sym same)
answered (Some address) byte number rest is = cc

missed : (hole : Option ℕ) (byte number : ℕ) (at : Hole) → Err at ≡ hole_or hole number → hole_or hole (byte + 256 * number) ≡ Err at
missed None byte number at is = cc
missed (Some address) byte number at is = sym is

pub read_after : (memory : List Cell) (address count rest : ℕ) (cell : Cell) → 0 < count → cell_at memory address ≡ Some cell
    → Ok rest ≡ read_of memory (span (wrap (address + 1)) (count - 1)) → read_of memory (span address count) ≡ Ok (cell.byte + 256 * rest)
read_after memory address count rest cell some found is =
    let more = span (wrap (address + 1)) (count - 1) in
    ap (read_of memory) (span_more address count some) ∙ (read_more memory address more cell found ∙ answered (first_hole memory more) cell.byte (number_of (bytes_at memory more)) rest is)

pub missed_after : (memory : List Cell) (address count : ℕ) (at : Hole) (cell : Cell) → 0 < count → cell_at memory address ≡ Some cell
    → Err at ≡ read_of memory (span (wrap (address + 1)) (count - 1)) → read_of memory (span address count) ≡ Err at
missed_after memory address count at cell some found is =
    let more = span (wrap (address + 1)) (count - 1) in
    ap (read_of memory) (span_more address count some) ∙ (read_more memory address more cell found ∙ missed (first_hole memory more) cell.byte (number_of (bytes_at memory more)) at is)

-- the cells of addresses in one stretch
pub all_mapped : (stretches : List MappedStretch) (place address count : ℕ) → AreInOrder stretches → (0 < count → HasAddress stretches place address) → address + count ≤ stretch_end (stretch_at stretches place) → place < length stretches
    → first_hole (cells_in stretches) (span address count) ≡ None
all_mapped stretches place address zero order has within inside = refl
all_mapped stretches place address (suc zero) order has within inside =
    ap (λ (o : Option Cell). cond (not (is_some o)) (Some address) None) (cell_of 0 stretches place address order.rise (has (omega arith)))
all_mapped stretches place address (suc (suc count)) order has within inside =
    let here = has (omega arith) in
    let no_wrap : wrap (address + 1) ≡ address + 1 = mod-eq_of_lt (omega (arith, within, (stretch_is 0 stretches place order.rise inside).within)) in
    ap (λ (o : Option Cell). cond (not (is_some o)) (Some address) (first_hole (cells_in stretches) (span (wrap (address + 1)) (suc count)))) (cell_of 0 stretches place address order.rise here)
    ∙ all_mapped stretches place (wrap (address + 1)) (suc count) order
    (λ _. record { inside = inside; above = omega (arith, here.above, no_wrap); below = omega (arith, within, no_wrap) }) (omega (arith, within, no_wrap)) inside

pub bytes_within : (stretches : List MappedStretch) (place address count : ℕ) → AreInOrder stretches → (0 < count → HasAddress stretches place address) → address + count ≤ stretch_end (stretch_at stretches place) → place < length stretches
    → bytes_at (cells_in stretches) (span address count) ≡ take count (drop (address - (stretch_at stretches place).start) (stretch_at stretches place).bytes)
bytes_within stretches place address zero order has within inside = refl
bytes_within stretches place address (suc zero) order has within inside =
    let here = has (omega arith) in
    let bytes = (stretch_at stretches place).bytes in
    let offset : ℕ = address - (stretch_at stretches place).start in
    let lies : offset < length bytes = omega (arith, here.above, here.below) in
    ap (λ (o : Option Cell). byte_of_cell o ∷ []) (cell_of 0 stretches place address order.rise here)
    ∙ ap (λ (xs : List ℕ). take 1 xs) (sym (drop-cons bytes offset 0 lies))
bytes_within stretches place address (suc (suc count)) order has within inside =
    let here = has (omega arith) in
    let stretch = stretch_at stretches place in
    let offset : ℕ = address - stretch.start in
    let lies : offset < length stretch.bytes = omega (arith, here.above, here.below) in
    let no_wrap : wrap (address + 1) ≡ address + 1 = mod-eq_of_lt (omega (arith, within, (stretch_is 0 stretches place order.rise inside).within)) in
    let further : wrap (address + 1) - stretch.start ≡ suc offset = omega (arith, here.above, no_wrap) in
    ap (λ (o : Option Cell). byte_of_cell o ∷ bytes_at (cells_in stretches) (span (wrap (address + 1)) (suc count))) (cell_of 0 stretches place address order.rise here)
    ∙ (ap (λ xs. get_or stretch.bytes offset 0 ∷ xs) (bytes_within stretches place (wrap (address + 1)) (suc count) order
    (λ _. record { inside = inside; above = omega (arith, here.above, no_wrap); below = omega (arith, within, no_wrap) }) (omega (arith, within, no_wrap)) inside)
    ∙ (ap (λ n. get_or stretch.bytes offset 0 ∷ take (suc count) (drop n stretch.bytes)) further
    ∙ ap (λ (xs : List ℕ). take (suc (suc count)) xs) (sym (drop-cons stretch.bytes offset 0 lies))))

-- the bytes to the end of a stretch
cond_at : (here : Bool) (xs ys zs : List ℕ) → (here ≡ true → xs ≡ zs) → (here ≡ false → ys ≡ zs) → cond here xs ys ≡ zs
cond_at true xs ys zs f g = f refl
cond_at false xs ys zs f g = g refl

pub behind_of : (low : ℕ) (stretches : List MappedStretch) (place address : ℕ) → RiseFrom low stretches → HasAddress stretches place address
    → bytes_behind stretches address ≡ drop (address - (stretch_at stretches place).start) (stretch_at stretches place).bytes
behind_of low [] place address h has = absurd (omega (arith, has.inside))
behind_of low (stretch ∷ stretches) zero address h has =
    cond_at (nat_le stretch.start address && nat_lt address (stretch_end stretch)) (drop (address - stretch.start) stretch.bytes) (bytes_behind stretches address) (drop (address - stretch.start) stretch.bytes)
    (λ _. refl) (λ no. absurd (grind (arith, nat_tests, has.above, has.below, no)))
behind_of low (stretch ∷ stretches) (suc place) address h has =
    let inside : place < length stretches = omega (arith, has.inside) in
    let above : (stretch_at stretches place).start ≤ address = has.above in
    let past : stretch_end stretch ≤ address = omega (arith, start_above (stretch_end stretch) stretches place h.1.1 inside, above) in
    cond_at (nat_le stretch.start address && nat_lt address (stretch_end stretch)) (drop (address - stretch.start) stretch.bytes) (bytes_behind stretches address) (drop (address - (stretch_at stretches place).start) (stretch_at stretches place).bytes)
    (λ yes. absurd (grind (arith, nat_tests, past, yes)))
    (λ _. behind_of (stretch_end stretch) stretches place address h.1.1 (record { inside = inside; above = has.above; below = has.below }))

in_none : (stretch : MappedStretch) (address : ℕ) → Misses stretch address → (nat_le stretch.start address && nat_lt address (stretch_end stretch)) ≡ true → ⊥
in_none stretch address misses here = elim misses [
  | inl before ↦ grind (arith, nat_tests, before, here)
  | inr behind ↦ grind (arith, nat_tests, behind, here)
]

pub behind_none : (stretches : List MappedStretch) (address : ℕ) → ((place : ℕ) → place < length stretches → Misses (stretch_at stretches place) address) → bytes_behind stretches address ≡ []
behind_none [] address misses = refl
behind_none (stretch ∷ stretches) address misses =
    cond_at (nat_le stretch.start address && nat_lt address (stretch_end stretch)) (drop (address - stretch.start) stretch.bytes) (bytes_behind stretches address) []
    (λ yes. absurd (in_none stretch address (misses 0 (omega arith)) yes))
    (λ _. behind_none stretches address (λ place inside. misses (suc place) (omega arith)))

-- one more byte below the others of a number
pub byte_more : (byte rest count : ℕ) → 0 < count → byte < 256 → rest < 256 ^ (count - 1) → byte + 256 * rest < 256 ^ count
byte_more byte rest zero some b r = absurd (omega arith)
byte_more byte rest (suc count) some b r =
    let same : suc count - 1 ≡ count = omega arith in
    let below : rest < 256 ^ count = subst (λ k. rest < 256 ^ k) same r in
    let power : 256 ^ suc count ≡ 256 ^ count * 256 = pow-suc 256 count in
    subst (λ n. byte + 256 * rest < n) (sym power) (omega (arith, b, below))

at_most_three : (rest count : ℕ) → count ≤ 3 → rest < 256 ^ count → rest < 2 ^ 24
at_most_three rest zero le r = omega (arith, r)
at_most_three rest (suc zero) le r = omega (arith, r)
at_most_three rest (suc (suc zero)) le r = omega (arith, r)
at_most_three rest (suc (suc (suc zero))) le r = omega (arith, r)
at_most_three rest (suc (suc (suc (suc count)))) le r = absurd (omega arith)

pub sum_fits : (byte rest count : ℕ) → count ≤ 4 → 0 < count → byte < 256 → rest < 256 ^ (count - 1) → byte + 256 * rest < 2 ^ 32
sum_fits byte rest count few some b r = omega (arith, b, at_most_three rest (count - 1) (omega arith) r)

-- the bytes from an address to the end of its stretch
pub record AreBehind (stretches : List MappedStretch) (address : ℕ) (rest : List ℕ) : Type 0 where
  pub to_the_end : rest ≡ bytes_behind stretches address
  pub bytes : bytes_at (cells_in stretches) (span address (length rest)) ≡ rest
  pub mapped : first_hole (cells_in stretches) (span address (length rest)) ≡ None

pub are_behind : (stretches : List MappedStretch) (place address : ℕ) (stretch : MappedStretch) (rest : List ℕ) → AreInOrder stretches → HasAddress stretches place address
    → stretch ≡ stretch_at stretches place → rest ≡ drop (address - stretch.start) stretch.bytes → AreBehind stretches address rest
are_behind stretches place address stretch rest order has found is =
    let here = stretch_at stretches place in
    let offset : ℕ = address - here.start in
    let dropped : rest ≡ drop offset here.bytes = is ∙ ap (λ (b : MappedStretch). drop (address - b.start) b.bytes) found in
    let count : length rest ≡ length here.bytes - offset = ap (λ (xs : List ℕ). length xs) dropped ∙ length-drop offset here.bytes in
    let within : address + (length here.bytes - offset) ≤ stretch_end here = omega (arith, has.above, has.below) in
    let bytes : bytes_at (cells_in stretches) (span address (length here.bytes - offset)) ≡ drop offset here.bytes =
    bytes_within stretches place address (length here.bytes - offset) order (λ _. has) within has.inside ∙ take_rest here.bytes offset in
    record {
      to_the_end = dropped ∙ sym (behind_of 0 stretches place address order.rise has);
      bytes = ap (λ n. bytes_at (cells_in stretches) (span address n)) count ∙ (bytes ∙ sym dropped);
      mapped = ap (λ n. first_hole (cells_in stretches) (span address n)) count ∙ all_mapped stretches place address (length here.bytes - offset) order (λ _. has) within has.inside;
    }

-- what is read where the bytes lie in one stretch
pub read_rest : (stretches : List MappedStretch) (address size : ℕ) (rest : List ℕ) → size ≤ length rest
    → bytes_at (cells_in stretches) (span address (length rest)) ≡ rest → first_hole (cells_in stretches) (span address (length rest)) ≡ None
    → read_of (cells_in stretches) (span address size) ≡ Ok (number_of (take size rest))
read_rest stretches address size rest enough bytes mapped =
    let memory = cells_in stretches in
    ap (λ hole. hole_or hole (number_of (bytes_at memory (span address size)))) (no_hole memory address size (length rest) enough mapped)
    ∙ (ap (λ xs. Ok (number_of xs)) (bytes_at-take memory size (length rest) address enough)
    ∙ ap (λ xs. Ok (number_of (take size xs))) bytes)

-- the stretch with a number
pub region_of : (stretches : List MappedStretch) (place : ℕ) → place < length stretches → region_at stretches place ≡ Some ((stretch_at stretches place).start, length (stretch_at stretches place).bytes)
region_of [] place inside = absurd (omega arith)
region_of (stretch ∷ stretches) zero inside = refl
region_of (stretch ∷ stretches) (suc place) inside = region_of stretches place (omega arith)

pub no_region : (stretches : List MappedStretch) (place : ℕ) → length stretches ≤ place → region_at stretches place ≡ None
no_region [] place le = refl
no_region (stretch ∷ stretches) zero le = absurd (omega arith)
no_region (stretch ∷ stretches) (suc place) le = no_region stretches place (omega arith)

-- whether an address is mapped, and writable
pub mapped_is : (stretches : List MappedStretch) (address : ℕ) (place : Option ℕ) → AreInOrder stretches → MatchOption place (IsNowhere stretches address) (λ n. HasAddress stretches n address)
    → is_some place ≡ is_mapped (cells_in stretches) address
mapped_is stretches address None order is = sym (ap (λ (o : Option Cell). is_some o) (nowhere stretches address is.missed))
mapped_is stretches address (Some place) order is = sym (ap (λ (o : Option Cell). is_some o) (cell_of 0 stretches place address order.rise is))

pub writable_is : (stretches : List MappedStretch) (place address : ℕ) → AreInOrder stretches → HasAddress stretches place address
    → (stretch_at stretches place).writable ≡ is_writable (cells_in stretches) address
writable_is stretches place address order is = sym (ap is_writable_cell (cell_of 0 stretches place address order.rise is))

pub not_writable : (stretches : List MappedStretch) (address : ℕ) → IsNowhere stretches address → false ≡ is_writable (cells_in stretches) address
not_writable stretches address is = sym (ap is_writable_cell (nowhere stretches address is.missed))
