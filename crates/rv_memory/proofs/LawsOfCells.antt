-- Laws of addresses one behind another, of what is found and read at them, and of bytes that are put at them. Crates above
-- may cite this file.
use Rattle.std.proofs.Common.{◌≡◌, ◌≢◌, ℕ, zero, suc, ◌+◌, ◌-◌, ◌/◌, ◌^◌, ◌<◌, ◌≤◌, Bool, true, false, cond, eqb, List, [], ◌∷◌, ◌++◌, map, length, take, drop, Option, None, Some, refl, sym, ap, ◌∙◌, arith}
use Rattle.std.specs.Prelude.{not, is_some}
use Rattle.std.proofs.lemmas.Bool.{eqb-true, ne_eqb}
use Rattle.std.specs.List.{find}
use Rattle.rv_code.specs.Numbers.{wrap, bytes_of}
use Rattle.rv_memory.specs.Memory.{Cell, Rise, cell_at, is_mapped, is_writable, is_writable_cell, permission_of, permission_at, byte_at, span, bytes_at, first_hole, first_shut, with_byte, written}
use Rattle.rv_memory.specs.Laws.{KeepsOtherCells}

-- the address behind some
pub next_of : (address count : ℕ) → wrap (wrap (address + 1) + count) ≡ wrap (address + suc count)
next_of address count = omega arith

-- no more addresses than these
pub same_start : (address : ℕ) → address < 2 ^ 32 → wrap (address + 0) ≡ address
same_start address fits = omega arith

pub not_found : (t : Bool) (address : ℕ) (rest : Option ℕ) → cond t (Some address) rest ≡ None → (t ≡ false) × (rest ≡ None)
not_found true address rest none = absurd (cc none)
not_found false address rest none = (refl, none)

-- the first of some addresses that can be read or written, and the others
pub open_here : (free : Bool) (address : ℕ) (rest : Option ℕ) → cond (not free) (Some address) rest ≡ None → (free ≡ true) × (rest ≡ None)
open_here true address rest none = (refl, none)
open_here false address rest none = absurd (cc none)

-- where none of the first is found, what is found is among the others
pub found_behind : (p : ℕ → Bool) (address first count : ℕ) → address < 2 ^ 32 → find p (span address first) ≡ None
    → find p (span address (first + count)) ≡ find p (span (wrap (address + first)) count)
found_behind p address zero count fits none =
    let all : 0 + count ≡ count = omega arith in
    ap (λ n. find p (span address n)) all ∙ ap (λ n. find p (span n count)) (sym (same_start address fits))
found_behind p address (suc first) count fits none =
    let here = not_found (p address) address (find p (span (wrap (address + 1)) first)) none in
    let all : suc first + count ≡ suc (first + count) = omega arith in
    ap (λ n. find p (span address n)) all
    ∙ (ap (λ t. cond t (Some address) (find p (span (wrap (address + 1)) (first + count)))) here.0
    ∙ (found_behind p (wrap (address + 1)) first count (omega arith) here.1
    ∙ ap (λ n. find p (span n count)) (next_of address first)))

pub none_front : (p : ℕ → Bool) (address few many : ℕ) → few ≤ many → find p (span address many) ≡ None → find p (span address few) ≡ None
none_front p address zero many le none = refl
none_front p address (suc few) zero le none = absurd (omega arith)
none_front p address (suc few) (suc many) le none =
    let here = not_found (p address) address (find p (span (wrap (address + 1)) many)) none in
    ap (λ t. cond t (Some address) (find p (span (wrap (address + 1)) few))) here.0
    ∙ none_front p (wrap (address + 1)) few many (omega arith) here.1

pub none_behind : (p : ℕ → Bool) (address first count : ℕ) → address < 2 ^ 32 → find p (span address (first + count)) ≡ None
    → find p (span (wrap (address + first)) count) ≡ None
none_behind p address first count fits none =
    sym (found_behind p address first count fits (none_front p address first (first + count) (omega arith) none)) ∙ none

pub found_here : (p : ℕ → Bool) (address count : ℕ) → 0 < count → p address ≡ true → find p (span address count) ≡ Some address
found_here p address zero some is = absurd (omega arith)
found_here p address (suc count) some is = ap (λ t. cond t (Some address) (find p (span (wrap (address + 1)) count))) is

-- where none of the first is found, what is found is among those that are left
pub found_past : (p : ℕ → Bool) (address first left : ℕ) → address < 2 ^ 32 → first ≤ left → find p (span address first) ≡ None
    → find p (span address left) ≡ find p (span (wrap (address + first)) (left - first))
found_past p address first left fits le none =
    let all : left ≡ first + (left - first) = omega arith in
    ap (λ n. find p (span address n)) all ∙ found_behind p address first (left - first) fits none

pub hole_past : (memory : List Cell) (address first left : ℕ) → address < 2 ^ 32 → first ≤ left → first_hole memory (span address first) ≡ None
    → first_hole memory (span address left) ≡ first_hole memory (span (wrap (address + first)) (left - first))
hole_past memory = found_past (λ address. not (is_mapped memory address))

pub no_hole : (memory : List Cell) (address few many : ℕ) → few ≤ many → first_hole memory (span address many) ≡ None → first_hole memory (span address few) ≡ None
no_hole memory = none_front (λ address. not (is_mapped memory address))

pub shut_past : (memory : List Cell) (address first left : ℕ) → address < 2 ^ 32 → first ≤ left → first_shut memory (span address first) ≡ None
    → first_shut memory (span address left) ≡ first_shut memory (span (wrap (address + first)) (left - first))
shut_past memory = found_past (λ address. not (is_writable memory address))

pub none_shut : (memory : List Cell) (address few many : ℕ) → few ≤ many → first_shut memory (span address many) ≡ None → first_shut memory (span address few) ≡ None
none_shut memory = none_front (λ address. not (is_writable memory address))

-- the bytes of some addresses among others
pub bytes_among : (memory : List Cell) (address first few many : ℕ) → address < 2 ^ 32 → first + few ≤ many
    → take few (drop first (bytes_at memory (span address many))) ≡ bytes_at memory (span (wrap (address + first)) few)
bytes_among memory address zero zero many fits le = refl
bytes_among memory address zero (suc few) zero fits le = absurd (omega arith)
bytes_among memory address zero (suc few) (suc many) fits le =
    ap (λ xs. byte_at memory address ∷ xs) (bytes_among memory (wrap (address + 1)) zero few many (omega arith) (omega arith)
    ∙ ap (λ n. bytes_at memory (span n few)) (same_start (wrap (address + 1)) (omega arith)))
    ∙ ap (λ n. bytes_at memory (span n (suc few))) (sym (same_start address fits))
bytes_among memory address (suc first) few zero fits le = absurd (omega arith)
bytes_among memory address (suc first) few (suc many) fits le =
    bytes_among memory (wrap (address + 1)) first few many (omega arith) (omega arith)
    ∙ ap (λ n. bytes_at memory (span n few)) (next_of address first)

pub bytes_at-take : (memory : List Cell) (few many address : ℕ) → few ≤ many → bytes_at memory (span address few) ≡ take few (bytes_at memory (span address many))
bytes_at-take memory zero many address le = refl
bytes_at-take memory (suc few) zero address le = absurd (omega arith)
bytes_at-take memory (suc few) (suc many) address le =
    ap (λ xs. byte_at memory address ∷ xs) (bytes_at-take memory few many (wrap (address + 1)) (omega arith))

pub length-bytes_at : (memory : List Cell) (address count : ℕ) → length (bytes_at memory (span address count)) ≡ count
length-bytes_at memory address zero = refl
length-bytes_at memory address (suc count) = ap suc (length-bytes_at memory (wrap (address + 1)) count)

pub length-span : (address count : ℕ) → length (span address count) ≡ count
length-span address zero = refl
length-span address (suc count) = ap suc (length-span (wrap (address + 1)) count)

-- a byte put elsewhere leaves a cell as it was
pub elsewhere : (address byte : ℕ) (cell : Cell) → (cell.address ≡ address → ⊥) → with_byte address byte cell ≡ cell
elsewhere address byte cell other =
    let kept : cond (eqb cell.address address) byte cell.byte ≡ cell.byte = ap (λ t. cond t byte cell.byte) (ne_eqb cell.address address other) in
    λ i. record { address = cell.address; byte = kept i; writable = cell.writable }

found_either_way : (t : Bool) (changed cell : Cell) (rest : Option Cell) → (t ≡ true → changed ≡ cell) → cond t (Some changed) rest ≡ cond t (Some cell) rest
found_either_way true changed cell rest h = ap Some (h refl)
found_either_way false changed cell rest h = refl

-- a byte put elsewhere leaves the cell of an address as it was
pub cell_at-with_byte : (address byte other : ℕ) (memory : List Cell) → address ≢ other → cell_at (map (with_byte address byte) memory) other ≡ cell_at memory other
cell_at-with_byte address byte other [] ne = refl
cell_at-with_byte address byte other (cell ∷ memory) ne =
    found_either_way (eqb cell.address other) (with_byte address byte cell) cell (cell_at (map (with_byte address byte) memory) other) (λ here. elsewhere address byte cell (λ same. ne (sym same ∙ eqb-true cell.address other here)))
    ∙ ap (cond (eqb cell.address other) (Some cell)) (cell_at-with_byte address byte other memory ne)

pub other_cells_stay : KeepsOtherCells
other_cells_stay memory [] bytes other none = refl
other_cells_stay memory (address ∷ addresses) [] other none = refl
other_cells_stay memory (address ∷ addresses) (byte ∷ bytes) other none =
    other_cells_stay (map (with_byte address byte) memory) addresses bytes other none.1 ∙ cell_at-with_byte address byte other memory none.0

either_way : (t : Bool) (first second : Cell) (rest others : Option Cell) → first.writable ≡ second.writable → is_writable_cell rest ≡ is_writable_cell others
    → is_writable_cell (cond t (Some first) rest) ≡ is_writable_cell (cond t (Some second) others)
either_way true first second rest others same further = same
either_way false first second rest others same further = further

-- a byte that is put leaves what can be written
writable_kept : (address byte other : ℕ) (memory : List Cell) → is_writable (map (with_byte address byte) memory) other ≡ is_writable memory other
writable_kept address byte other [] = refl
writable_kept address byte other (cell ∷ memory) =
    either_way (eqb cell.address other) (with_byte address byte cell) cell (cell_at (map (with_byte address byte) memory) other) (cell_at memory other) refl (writable_kept address byte other memory)

pub shut_kept : (address byte : ℕ) (memory : List Cell) (addresses : List ℕ) → first_shut (map (with_byte address byte) memory) addresses ≡ first_shut memory addresses
shut_kept address byte memory [] = refl
shut_kept address byte memory (other ∷ addresses) =
    ap (λ t. cond (not t) (Some other) (first_shut (map (with_byte address byte) memory) addresses)) (writable_kept address byte other memory)
    ∙ ap (λ rest. cond (not (is_writable memory other)) (Some other) rest) (shut_kept address byte memory addresses)

pub shut_written : (memory : List Cell) (places : List ℕ) (bytes : List ℕ) (addresses : List ℕ) → first_shut (written memory places bytes) addresses ≡ first_shut memory addresses
shut_written memory [] bytes addresses = refl
shut_written memory (place ∷ places) [] addresses = refl
shut_written memory (place ∷ places) (byte ∷ bytes) addresses =
    shut_written (map (with_byte place byte) memory) places bytes addresses ∙ shut_kept place byte memory addresses

-- what is mapped stays mapped
either_mapped : (t : Bool) (first second : Cell) (rest others : Option Cell) → is_some rest ≡ is_some others → is_some (cond t (Some first) rest) ≡ is_some (cond t (Some second) others)
either_mapped true first second rest others further = refl
either_mapped false first second rest others further = further

mapped_kept : (address byte other : ℕ) (memory : List Cell) → is_mapped (map (with_byte address byte) memory) other ≡ is_mapped memory other
mapped_kept address byte other [] = refl
mapped_kept address byte other (cell ∷ memory) =
    either_mapped (eqb cell.address other) (with_byte address byte cell) cell (cell_at (map (with_byte address byte) memory) other) (cell_at memory other) (mapped_kept address byte other memory)

hole_kept : (address byte : ℕ) (memory : List Cell) (addresses : List ℕ) → first_hole (map (with_byte address byte) memory) addresses ≡ first_hole memory addresses
hole_kept address byte memory [] = refl
hole_kept address byte memory (other ∷ addresses) =
    ap (λ t. cond (not t) (Some other) (first_hole (map (with_byte address byte) memory) addresses)) (mapped_kept address byte other memory)
    ∙ ap (λ rest. cond (not (is_mapped memory other)) (Some other) rest) (hole_kept address byte memory addresses)

pub hole_written : (memory : List Cell) (places : List ℕ) (bytes : List ℕ) (addresses : List ℕ) → first_hole (written memory places bytes) addresses ≡ first_hole memory addresses
hole_written memory [] bytes addresses = refl
hole_written memory (place ∷ places) [] addresses = refl
hole_written memory (place ∷ places) (byte ∷ bytes) addresses =
    hole_written (map (with_byte place byte) memory) places bytes addresses ∙ hole_kept place byte memory addresses

same_permission : (t : Bool) (first second : Cell) (rest others : Option Cell) → first.writable ≡ second.writable → permission_of rest ≡ permission_of others
    → permission_of (cond t (Some first) rest) ≡ permission_of (cond t (Some second) others)
same_permission true first second rest others same further = ap Some same
same_permission false first second rest others same further = further

permission_kept : (address byte other : ℕ) (memory : List Cell) → permission_at (map (with_byte address byte) memory) other ≡ permission_at memory other
permission_kept address byte other [] = refl
permission_kept address byte other (cell ∷ memory) =
    same_permission (eqb cell.address other) (with_byte address byte cell) cell (cell_at (map (with_byte address byte) memory) other) (cell_at memory other) refl (permission_kept address byte other memory)

pub permission_at-written : (memory : List Cell) (addresses bytes : List ℕ) (other : ℕ) → permission_at (written memory addresses bytes) other ≡ permission_at memory other
permission_at-written memory [] bytes other = refl
permission_at-written memory (address ∷ addresses) [] other = refl
permission_at-written memory (address ∷ addresses) (byte ∷ bytes) other =
    permission_at-written (map (with_byte address byte) memory) addresses bytes other ∙ permission_kept address byte other memory

pub written_none : (memory : List Cell) (addresses : List ℕ) → memory ≡ written memory addresses []
written_none memory [] = refl
written_none memory (address ∷ addresses) = refl

-- only so many addresses are written as there are bytes
pub written_few : (memory : List Cell) (address count : ℕ) (bytes : List ℕ) → length bytes ≤ count
    → written memory (span address count) bytes ≡ written memory (span address (length bytes)) bytes
written_few memory address zero [] le = refl
written_few memory address (suc count) [] le = refl
written_few memory address zero (byte ∷ bytes) le = absurd (omega arith)
written_few memory address (suc count) (byte ∷ bytes) le = written_few (map (with_byte address byte) memory) (wrap (address + 1)) count bytes (omega arith)

-- two runs of bytes, one behind the other
pub written_both : (memory : List Cell) (address : ℕ) (xs ys : List ℕ) → address < 2 ^ 32
    → written (written memory (span address (length xs)) xs) (span (wrap (address + length xs)) (length ys)) ys ≡ written memory (span address (length (xs ++ ys))) (xs ++ ys)
written_both memory address [] ys fits = ap (λ n. written memory (span n (length ys)) ys) (same_start address fits)
written_both memory address (x ∷ xs) ys fits =
    let put : List Cell = map (with_byte address x) memory in
    ap (λ n. written (written put (span (wrap (address + 1)) (length xs)) xs) (span n (length ys)) ys) (sym (next_of address (length xs)))
    ∙ written_both put (wrap (address + 1)) xs ys (omega arith)

-- how many bytes a number is put as
pub length-bytes_of : (count value : ℕ) → length (bytes_of count value) ≡ count
length-bytes_of zero value = refl
length-bytes_of (suc count) value = ap suc (length-bytes_of count (value / 256))

-- bytes that are put change no address
rise-with_byte : (low address byte : ℕ) (memory : List Cell) → Rise low memory → Rise low (map (with_byte address byte) memory)
rise-with_byte low address byte [] h = tt
rise-with_byte low address byte (cell ∷ memory) h = (h.0, rise-with_byte (suc cell.address) address byte memory h.1)

pub rise-written : (memory : List Cell) (addresses bytes : List ℕ) → Rise 0 memory → Rise 0 (written memory addresses bytes)
rise-written memory [] bytes h = h
rise-written memory (address ∷ addresses) [] h = h
rise-written memory (address ∷ addresses) (byte ∷ bytes) h =
    rise-written (map (with_byte address byte) memory) addresses bytes (rise-with_byte 0 address byte memory h)
