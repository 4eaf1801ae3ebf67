-- Bytes put over others in one go, and one run of them after another.
use Rattle.std.proofs.Common.{◌≡◌, ℕ, zero, suc, ◌+◌, ◌-◌, ◌^◌, ◌<◌, ◌≤◌, true, false, List, [], ◌∷◌, ◌++◌, length, take, drop, set, None, refl, sym, ap, ◌∙◌, subst, arith}
use Rattle.std.specs.Prelude.{not}
use Rattle.std.proofs.lemmas.List.{take_rest, take-append-drop, length-take-le, length-drop}
use Rattle.rv_code.specs.Numbers.{wrap, number_of}
use Rattle.rv_memory.specs.Memory.{Cell, is_writable, span, bytes_at, first_shut, written}
use Rattle.rv_memory.specs.Stretches.{MappedStretch, cells_in}
use Rattle.rv_memory.specs.Outline.{outline, AreInOrder}
use Rattle.rv_memory.specs.Inner.Places.{stretch_at, HasAddress, IsNowhere}
use Rattle.rv_memory.specs.Inner.Stored.{with_bytes, stored}
use Rattle.rv_memory.proofs.LawsOfCells.{open_here, bytes_at-take, none_behind, shut_written, written_both}
use Rattle.rv_memory.proofs.ReadBytes.{not_writable}
use Rattle.rv_memory.proofs.WrittenBytes.{outline-set, length-stored, stored_in}

-- bytes put over others are a part in the place of another
stored_further : (first : ℕ) (bytes : List ℕ) (place : ℕ) (values : List ℕ) → stored (first ∷ bytes) (suc place) values ≡ first ∷ stored bytes place values
stored_further first bytes place [] = refl
stored_further first bytes place (value ∷ values) = stored_further first (set bytes place value) (suc place) values

stored_is : (bytes : List ℕ) (place : ℕ) (values : List ℕ) → place + length values ≤ length bytes
    → take place bytes ++ (values ++ drop (length values) (drop place bytes)) ≡ stored bytes place values
stored_is [] zero [] within = refl
stored_is [] zero (value ∷ values) within = absurd (omega arith)
stored_is [] (suc place) values within = absurd (omega arith)
stored_is (first ∷ bytes) zero [] within = refl
stored_is (first ∷ bytes) zero (value ∷ values) within =
    ap (λ (xs : List ℕ). value ∷ xs) (stored_is bytes zero values (omega arith)) ∙ sym (stored_further value bytes zero values)
stored_is (first ∷ bytes) (suc place) values within =
    ap (λ (xs : List ℕ). first ∷ xs) (stored_is bytes place values (omega arith)) ∙ sym (stored_further first bytes place values)

-- what a slice holds whose part was written
pub part_written : (items before part values : List ℕ) (place : ℕ) → before ≡ items → part ≡ values → place + length values ≤ length items
    → take place before ++ (part ++ drop (place + length values - place) (drop place before)) ≡ stored items place values
part_written items before part values place same is within =
    let count : place + length values - place ≡ length values = omega arith in
    ap (λ (xs : List ℕ). take place before ++ (xs ++ drop (place + length values - place) (drop place before))) is
    ∙ (ap (λ n. take place before ++ (values ++ drop n (drop place before))) count
    ∙ (ap (λ (xs : List ℕ). take place xs ++ (values ++ drop (length values) (drop place xs))) same
    ∙ stored_is items place values within))

-- an address that is written lies in a stretch
pub shut_nowhere : (stretches : List MappedStretch) (address count : ℕ) → 0 < count → IsNowhere stretches address → first_shut (cells_in stretches) (span address count) ≡ None → ⊥
shut_nowhere stretches address zero some is none = absurd (omega arith)
shut_nowhere stretches address (suc count) some is none =
    let free = (open_here (is_writable (cells_in stretches) address) address (first_shut (cells_in stretches) (span (wrap (address + 1)) count)) none).0 in
    let shut : false ≡ true = not_writable stretches address is ∙ free in cc shut

-- what bytes put into one stretch do
pub record AreStored (stretches : List MappedStretch) (place address : ℕ) (values : List ℕ) (changed : MappedStretch) : Type 0 where
  pub put : cells_in (set stretches place changed) ≡ written (cells_in stretches) (span address (length values)) values
  pub outline : outline (set stretches place changed) ≡ outline stretches

pub run_stored : (stretches : List MappedStretch) (place address : ℕ) (values : List ℕ) (stretch changed : MappedStretch) → AreInOrder stretches → HasAddress stretches place address
    → stretch ≡ stretch_at stretches place → (address - stretch.start) + length values ≤ length stretch.bytes
    → changed ≡ with_bytes stretch (stored stretch.bytes (address - stretch.start) values) → AreStored stretches place address values changed
run_stored stretches place address values stretch changed order has found within is =
    let offset : ℕ = address - stretch.start in
    let above : stretch.start ≤ address = subst (λ (b : MappedStretch). b.start ≤ address) (sym found) has.above in
    record {
      put = ap (λ (b : MappedStretch). cells_in (set stretches place b)) is
          ∙ stored_in values stretches place address offset stretch order has.inside (sym found) (λ _. omega arith) within;
      outline = ap (λ (b : MappedStretch). outline (set stretches place b)) is
          ∙ outline-set stretches place stretch (stored stretch.bytes offset values) (sym found) (length-stored stretch.bytes offset values);
    }

-- the number of the first four of bytes that are read
pub word_of : (memory : List Cell) (address : ℕ) (rest : List ℕ) → 4 ≤ length rest → bytes_at memory (span address (length rest)) ≡ rest
    → number_of (take 4 rest) ≡ number_of (bytes_at memory (span address 4))
word_of memory address rest enough bytes =
    ap (λ (xs : List ℕ). number_of (take 4 xs)) (sym bytes) ∙ ap number_of (sym (bytes_at-take memory 4 (length rest) address enough))

-- the first of some bytes written, and then the others
pub run_then : (memory next : List Cell) (address count : ℕ) (bytes : List ℕ) → address < 2 ^ 32 → count ≤ length bytes
    → next ≡ written memory (span address count) (take count bytes)
    → written next (span (wrap (address + count)) (length (take (length bytes - count) (drop count bytes)))) (take (length bytes - count) (drop count bytes)) ≡ written memory (span address (length bytes)) bytes
run_then memory next address count bytes fits within is =
    let first : List ℕ = take count bytes in
    let last : List ℕ = drop count bytes in
    let counted : count ≡ length first = sym (length-take-le count bytes within) in
    ap (λ (xs : List ℕ). written next (span (wrap (address + count)) (length xs)) xs) (take_rest bytes count)
    ∙ (ap (λ cells. written cells (span (wrap (address + count)) (length last)) last) is
    ∙ (ap (λ n. written (written memory (span address n) first) (span (wrap (address + n)) (length last)) last) counted
    ∙ (written_both memory address first last fits
    ∙ ap (λ (xs : List ℕ). written memory (span address (length xs)) xs) (take-append-drop count bytes))))

pub run_free : (memory next : List Cell) (address count : ℕ) (bytes : List ℕ) → address < 2 ^ 32 → count ≤ length bytes
    → next ≡ written memory (span address count) (take count bytes) → first_shut memory (span address (length bytes)) ≡ None
    → first_shut next (span (wrap (address + count)) (length (take (length bytes - count) (drop count bytes)))) ≡ None
run_free memory next address count bytes fits within is none =
    let first : List ℕ = take count bytes in
    let left : ℕ = length bytes - count in
    let counted : length (take left (drop count bytes)) ≡ left = ap (λ (xs : List ℕ). length xs) (take_rest bytes count) ∙ length-drop count bytes in
    let all : length bytes ≡ count + left = omega arith in
    ap (λ n. first_shut next (span (wrap (address + count)) n)) counted
    ∙ (ap (λ cells. first_shut cells (span (wrap (address + count)) left)) is
    ∙ (shut_written memory (span address count) first (span (wrap (address + count)) left)
    ∙ none_behind (λ at. not (is_writable memory at)) address count left fits (ap (λ n. first_shut memory (span address n)) (sym all) ∙ none)))
