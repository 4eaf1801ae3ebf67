-- Stretches in order, and the cell at an address.
use Rattle.std.proofs.Common.{◌≡◌, ℕ, zero, suc, ◌+◌, ◌-◌, ◌<◌, ◌≤◌, Bool, cond, List, [], ◌∷◌, ◌++◌, length, get_or, None, Some, refl, ap, ◌∙◌, subst, inl, inr, arith}
use Rattle.std.proofs.lemmas.Bool.{eq-eqb, ne_eqb, cases_lt}
use Rattle.std.specs.Prelude.{◌⊎◌}
use Rattle.rv_memory.specs.Memory.{Cell, cell_at}
use Rattle.rv_memory.specs.Stretches.{MappedStretch, cells_from, cells_in}
use Rattle.rv_memory.specs.Outline.{stretch_end, IsStretch, RiseFrom, AreInOrder}
use Rattle.rv_memory.specs.Inner.Places.{stretch_at, HasAddress, Misses, IsNowhere}

-- the stretches behind a place start at or behind the end of those before it
pub start_above : (low : ℕ) (stretches : List MappedStretch) (place : ℕ) → RiseFrom low stretches → place < length stretches → low ≤ (stretch_at stretches place).start
start_above low [] place h inside = absurd (omega arith)
start_above low (stretch ∷ stretches) zero h inside = h.0
start_above low (stretch ∷ stretches) (suc place) h inside =
    omega (arith, h.0, start_above (stretch_end stretch) stretches place h.1.1 (omega arith))

pub end_below : (low : ℕ) (stretches : List MappedStretch) (first second : ℕ) → RiseFrom low stretches → first < second → second < length stretches → stretch_end (stretch_at stretches first) ≤ (stretch_at stretches second).start
end_below low [] first second h less inside = absurd (omega arith)
end_below low (stretch ∷ stretches) first zero h less inside = absurd (omega arith)
end_below low (stretch ∷ stretches) zero (suc second) h less inside = start_above (stretch_end stretch) stretches second h.1.1 (omega arith)
end_below low (stretch ∷ stretches) (suc first) (suc second) h less inside =
    end_below (stretch_end stretch) stretches first second h.1.1 (omega arith) (omega arith)

pub stretch_is : (low : ℕ) (stretches : List MappedStretch) (place : ℕ) → RiseFrom low stretches → place < length stretches → IsStretch (stretch_at stretches place)
stretch_is low [] place h inside = absurd (omega arith)
stretch_is low (stretch ∷ stretches) zero h inside = h.1.0
stretch_is low (stretch ∷ stretches) (suc place) h inside = stretch_is (stretch_end stretch) stretches place h.1.1 (omega arith)

-- the cell that an address finds in the first of two lists of cells, or else in the second
pub cell_at-skip : (start : ℕ) (bytes : List ℕ) (writable : Bool) (rest : List Cell) (address : ℕ)
    → (address < start) ⊎ (start + length bytes ≤ address) → cell_at (cells_from start bytes writable ++ rest) address ≡ cell_at rest address
cell_at-skip start [] writable rest address misses = refl
cell_at-skip start (byte ∷ bytes) writable rest address misses =
    let other : start ≡ address → ⊥ = λ same. elim misses [ inl before ↦ omega arith | inr behind ↦ omega arith ] in
    let next : (address < suc start) ⊎ (suc start + length bytes ≤ address) = elim misses [ inl before ↦ inl (omega arith) | inr behind ↦ inr (omega arith) ] in
    ap (λ t. cond t (Some (record { address = start; byte = byte; writable = writable })) (cell_at (cells_from (suc start) bytes writable ++ rest) address)) (ne_eqb start address other)
    ∙ cell_at-skip (suc start) bytes writable rest address next

pub cell_at-here : (start : ℕ) (bytes : List ℕ) (writable : Bool) (rest : List Cell) (place address : ℕ)
    → address ≡ start + place → place < length bytes
    → cell_at (cells_from start bytes writable ++ rest) address ≡ Some (record { address = address; byte = get_or bytes place 0; writable = writable })
cell_at-here start [] writable rest place address is inside = absurd (omega arith)
cell_at-here start (byte ∷ bytes) writable rest zero address is inside =
    let here : start ≡ address = omega arith in
    ap (λ t. cond t (Some (record { address = start; byte = byte; writable = writable })) (cell_at (cells_from (suc start) bytes writable ++ rest) address)) (eq-eqb start address here)
    ∙ ap (λ (n : ℕ). Some (record { address = n; byte = byte; writable = writable })) here
cell_at-here start (byte ∷ bytes) writable rest (suc place) address is inside =
    let other : start ≡ address → ⊥ = λ same. omega arith in
    ap (λ t. cond t (Some (record { address = start; byte = byte; writable = writable })) (cell_at (cells_from (suc start) bytes writable ++ rest) address)) (ne_eqb start address other)
    ∙ cell_at-here (suc start) bytes writable rest place address (omega arith) (omega arith)

-- an address in no stretch has no cell
pub nowhere : (stretches : List MappedStretch) (address : ℕ) → ((place : ℕ) → place < length stretches → Misses (stretch_at stretches place) address) → cell_at (cells_in stretches) address ≡ None
nowhere [] address misses = refl
nowhere (stretch ∷ stretches) address misses =
    cell_at-skip stretch.start stretch.bytes stretch.writable (cells_in stretches) address (misses 0 (omega arith))
    ∙ nowhere stretches address (λ place inside. misses (suc place) (omega arith))

-- the cell of an address is that of the stretch which it lies in
abbrev pub cell_in : MappedStretch → ℕ → Cell
cell_in stretch address = record { address = address; byte = get_or stretch.bytes (address - stretch.start) 0; writable = stretch.writable }

pub cell_of : (low : ℕ) (stretches : List MappedStretch) (place address : ℕ) → RiseFrom low stretches → HasAddress stretches place address
    → cell_at (cells_in stretches) address ≡ Some (cell_in (stretch_at stretches place) address)
cell_of low [] place address h has = absurd (omega (arith, has.inside))
cell_of low (stretch ∷ stretches) zero address h has =
    cell_at-here stretch.start stretch.bytes stretch.writable (cells_in stretches) (address - stretch.start) address (omega (arith, has.above)) (omega (arith, has.above, has.below))
cell_of low (stretch ∷ stretches) (suc place) address h has =
    let inside : place < length stretches = omega (arith, has.inside) in
    cell_at-skip stretch.start stretch.bytes stretch.writable (cells_in stretches) address
    (inr (omega (arith, start_above (stretch_end stretch) stretches place h.1.1 inside, has.above)))
    ∙ cell_of (stretch_end stretch) stretches place address h.1.1 (record { inside = inside; above = has.above; below = has.below })

-- the starts rise
pub starts_rise : (stretches : List MappedStretch) (first second : ℕ) → AreInOrder stretches → first ≤ second → second < length stretches → (stretch_at stretches first).start ≤ (stretch_at stretches second).start
starts_rise stretches first second order le inside = elim (cases_lt first second) [
  | inl less ↦ omega (arith, end_below 0 stretches first second order.rise less inside)
  | inr not_less ↦ let same : first ≡ second = omega arith in subst (λ n. (stretch_at stretches first).start ≤ (stretch_at stretches n).start) same (omega arith)
]

-- an address that lies before the stretches from a place on, and isn't in the one before, is nowhere
pub nowhere_between : (stretches : List MappedStretch) (place address : ℕ) → AreInOrder stretches
    → ((other : ℕ) → place ≤ other → other < length stretches → address < (stretch_at stretches other).start)
    → ((last : ℕ) → place ≡ last + 1 → (last < length stretches) × (stretch_end (stretch_at stretches last) ≤ address)) → IsNowhere stretches address
nowhere_between stretches place address order behind before =
    record {
      missed = (λ other inside. elim (cases_lt other place) [
        | inr not_less ↦ inl (behind other not_less inside)
        | inl less ↦
            let last = before (place - 1) (omega arith) in
            inr (elim (cases_lt other (place - 1)) [
              | inl further ↦ omega (arith, end_below 0 stretches other (place - 1) order.rise further last.0, last.1)
              | inr at_last ↦ let same : place - 1 ≡ other = omega arith in subst (λ n. stretch_end (stretch_at stretches n) ≤ address) same last.1
            ])
      ]);
    }
