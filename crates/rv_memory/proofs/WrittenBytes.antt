-- Bytes put into stretches.
use Rattle.std.proofs.Common.{◌≡◌, ℕ, zero, suc, ◌+◌, ◌-◌, ◌^◌, ◌<◌, ◌≤◌, Bool, true, cond, List, [], ◌∷◌, ◌++◌, length, map, set, None, Some, refl, sym, ap, ◌∙◌, subst, inl, inr, arith}
use Rattle.std.specs.Prelude.{◌⊎◌, not}
use Rattle.std.proofs.lemmas.Bool.{eq-eqb, ne_eqb}
use Rattle.std.proofs.lemmas.List.{map-append, map-set, set-get_or, set-set, get_or-set_same, length-set}
use Rattle.std.proofs.Math.Nat.{mod-eq_of_lt}
use Rattle.rv_code.specs.Numbers.{wrap, bytes_of}
use Rattle.rv_memory.specs.Memory.{Cell, is_writable, with_byte, span, first_shut, written}
use Rattle.rv_memory.specs.Stretches.{MappedStretch, stack, cells_from, cells_of, cells_in}
use Rattle.rv_memory.specs.Outline.{outline, stretch_end, RiseFrom, AreInOrder}
use Rattle.rv_memory.specs.Inner.Places.{stretch_at, HasAddress}
use Rattle.rv_memory.specs.Inner.Stored.{with_bytes, stored}
use Rattle.rv_memory.proofs.LawsOfCells.{open_here, elsewhere, length-bytes_of}
use Rattle.rv_memory.proofs.Order.{start_above, stretch_is}
use Rattle.rv_memory.proofs.ReadBytes.{span_more, writable_is}

with_byte-skip : (address byte start : ℕ) (bytes : List ℕ) (writable : Bool) → (address < start) ⊎ (start + length bytes ≤ address)
    → map (with_byte address byte) (cells_from start bytes writable) ≡ cells_from start bytes writable
with_byte-skip address byte start [] writable misses = refl
with_byte-skip address byte start (here ∷ bytes) writable misses =
    let other : start ≡ address → ⊥ = λ same. elim misses [ inl before ↦ omega arith | inr behind ↦ omega arith ] in
    let next : (address < suc start) ⊎ (suc start + length bytes ≤ address) = elim misses [ inl before ↦ inl (omega arith) | inr behind ↦ inr (omega arith) ] in
    ap (λ cell. cell ∷ map (with_byte address byte) (cells_from (suc start) bytes writable)) (elsewhere address byte (record { address = start; byte = here; writable = writable }) other)
    ∙ ap (λ cells. record { address = start; byte = here; writable = writable } ∷ cells) (with_byte-skip address byte (suc start) bytes writable next)

with_byte-here : (address byte start : ℕ) (bytes : List ℕ) (writable : Bool) (offset : ℕ) → address ≡ start + offset → offset < length bytes
    → map (with_byte address byte) (cells_from start bytes writable) ≡ cells_from start (set bytes offset byte) writable
with_byte-here address byte start [] writable offset is inside = absurd (omega arith)
with_byte-here address byte start (here ∷ bytes) writable zero is inside =
    let same : start ≡ address = omega arith in
    ap (λ t. record { address = start; byte = cond t byte here; writable = writable } ∷ map (with_byte address byte) (cells_from (suc start) bytes writable)) (eq-eqb start address same)
    ∙ ap (λ cells. record { address = start; byte = byte; writable = writable } ∷ cells) (with_byte-skip address byte (suc start) bytes writable (inl (omega arith)))
with_byte-here address byte start (here ∷ bytes) writable (suc offset) is inside =
    let other : start ≡ address → ⊥ = λ same. omega arith in
    ap (λ t. record { address = start; byte = cond t byte here; writable = writable } ∷ map (with_byte address byte) (cells_from (suc start) bytes writable)) (ne_eqb start address other)
    ∙ ap (λ cells. record { address = start; byte = here; writable = writable } ∷ cells) (with_byte-here address byte (suc start) bytes writable offset (omega arith) (omega arith))

memory-skip : (address byte low : ℕ) (stretches : List MappedStretch) → RiseFrom low stretches → address < low → map (with_byte address byte) (cells_in stretches) ≡ cells_in stretches
memory-skip address byte low [] h below = refl
memory-skip address byte low (stretch ∷ stretches) h below =
    map-append (with_byte address byte) (cells_of stretch) (cells_in stretches)
    ∙ (ap (λ cells. cells ++ map (with_byte address byte) (cells_in stretches)) (with_byte-skip address byte stretch.start stretch.bytes stretch.writable (inl (omega (arith, h.0, below))))
    ∙ ap (λ cells. cells_of stretch ++ cells) (memory-skip address byte (stretch_end stretch) stretches h.1.1 (omega (arith, h.0, below))))

-- a byte put into memory is put into the stretch of its address
byte_put : (low : ℕ) (stretches : List MappedStretch) (place address offset byte : ℕ) → RiseFrom low stretches → place < length stretches
    → address ≡ (stretch_at stretches place).start + offset → offset < length (stretch_at stretches place).bytes
    → map (with_byte address byte) (cells_in stretches) ≡ cells_in (set stretches place (with_bytes (stretch_at stretches place) (set (stretch_at stretches place).bytes offset byte)))
byte_put low [] place address offset byte h inside is within = absurd (omega arith)
byte_put low (stretch ∷ stretches) zero address offset byte h inside is within =
    map-append (with_byte address byte) (cells_of stretch) (cells_in stretches)
    ∙ (ap (λ cells. cells ++ map (with_byte address byte) (cells_in stretches)) (with_byte-here address byte stretch.start stretch.bytes stretch.writable offset is within)
    ∙ ap (λ cells. cells_from stretch.start (set stretch.bytes offset byte) stretch.writable ++ cells) (memory-skip address byte (stretch_end stretch) stretches h.1.1 (omega arith)))
byte_put low (stretch ∷ stretches) (suc place) address offset byte h inside is within =
    let past : stretch_end stretch ≤ address = omega (arith, is, start_above (stretch_end stretch) stretches place h.1.1 (omega arith)) in
    map-append (with_byte address byte) (cells_of stretch) (cells_in stretches)
    ∙ (ap (λ cells. cells ++ map (with_byte address byte) (cells_in stretches)) (with_byte-skip address byte stretch.start stretch.bytes stretch.writable (inr past))
    ∙ ap (λ cells. cells_of stretch ++ cells) (byte_put (stretch_end stretch) stretches place address offset byte h.1.1 (omega arith) is within))

-- stretches with the same outline are in order as well
rise_kept : (low : ℕ) (xs ys : List MappedStretch) → outline ys ≡ outline xs → RiseFrom low xs → RiseFrom low ys
rise_kept low xs [] same h = tt
rise_kept low [] (y ∷ ys) same h = absurd (cc same)
rise_kept low (x ∷ xs) (y ∷ ys) same h =
    let line : ◌≡◌ {A = ℕ × (ℕ × Bool)} (y.start, (length y.bytes, y.writable)) (x.start, (length x.bytes, x.writable)) = cc same in
    let start : y.start ≡ x.start = ap (λ (p : ℕ × (ℕ × Bool)). p.0) line in
    let count : length y.bytes ≡ length x.bytes = ap (λ (p : ℕ × (ℕ × Bool)). p.1.0) line in
    let rest : outline ys ≡ outline xs = cc same in
    let end : stretch_end x ≡ stretch_end y = omega arith in (
      omega (arith, h.0, start),
      (
        record { some = omega (arith, h.1.0.some); part = omega (arith, h.1.0.part); within = omega (arith, h.1.0.within) },
        subst (λ n. RiseFrom n ys) end (rise_kept (stretch_end x) xs ys rest h.1.1),
      ),
    )

pub order_kept : (xs ys : List MappedStretch) → outline ys ≡ outline xs → AreInOrder xs → AreInOrder ys
order_kept xs ys same order = record { rise = rise_kept 0 xs ys same order.rise }

pub outline-set : (stretches : List MappedStretch) (place : ℕ) (stretch : MappedStretch) (bytes : List ℕ) → stretch_at stretches place ≡ stretch → length bytes ≡ length stretch.bytes
    → outline (set stretches place (with_bytes stretch bytes)) ≡ outline stretches
outline-set stretches place stretch bytes found count =
    let line : MappedStretch → ℕ × (ℕ × Bool) = λ b. (b.start, (length b.bytes, b.writable)) in
    map-set line stretches place (with_bytes stretch bytes)
    ∙ (ap (λ n. set (outline stretches) place (stretch.start, (n, stretch.writable))) count
    ∙ (ap (λ (b : MappedStretch). set (outline stretches) place (line b)) (sym found)
    ∙ (sym (map-set line stretches place (stretch_at stretches place))
    ∙ ap outline (set-get_or stretches place stack))))

pub length-stored : (bytes : List ℕ) (place : ℕ) (values : List ℕ) → length (stored bytes place values) ≡ length bytes
length-stored bytes place [] = refl
length-stored bytes place (value ∷ values) = length-stored (set bytes place value) (suc place) values ∙ length-set bytes place value

-- bytes put into one stretch
pub stored_in : (values : List ℕ) (stretches : List MappedStretch) (place address offset : ℕ) (stretch : MappedStretch) → AreInOrder stretches → place < length stretches → stretch_at stretches place ≡ stretch
    → (0 < length values → address ≡ stretch.start + offset) → offset + length values ≤ length stretch.bytes
    → cells_in (set stretches place (with_bytes stretch (stored stretch.bytes offset values))) ≡ written (cells_in stretches) (span address (length values)) values
stored_in [] stretches place address offset stretch order inside found is within =
    ap (λ (b : MappedStretch). cells_in (set stretches place b)) (sym found) ∙ ap cells_in (set-get_or stretches place stack)
stored_in (value ∷ values) stretches place address offset stretch order inside found is within =
    let put : List ℕ = set stretch.bytes offset value in
    let next : List MappedStretch = set stretches place (with_bytes stretch put) in
    let at : address ≡ stretch.start + offset = is (omega arith) in
    let order_next : AreInOrder next = order_kept stretches next (outline-set stretches place stretch put found (length-set stretch.bytes offset value)) order in
    let found_next : stretch_at next place ≡ with_bytes stretch put = get_or-set_same stretches place (with_bytes stretch put) stack inside in
    let inside_next : place < length next = omega (arith, length-set stretches place (with_bytes stretch put)) in
    let fits : stretch_end stretch ≤ 2 ^ 32 = subst (λ (b : MappedStretch). stretch_end b ≤ 2 ^ 32) found (stretch_is 0 stretches place order.rise inside).within in
    let at_next : 0 < length values → wrap (address + 1) ≡ stretch.start + suc offset = λ some. mod-eq_of_lt (omega arith) ∙ omega arith in
    let first : map (with_byte address value) (cells_in stretches) ≡ cells_in next =
    byte_put 0 stretches place address offset value order.rise inside (at ∙ ap (λ (b : MappedStretch). b.start + offset) (sym found)) (subst (λ (b : MappedStretch). offset < length b.bytes) (sym found) (omega arith))
    ∙ ap (λ (b : MappedStretch). cells_in (set stretches place (with_bytes b (set b.bytes offset value)))) found in
    let others : cells_in (set next place (with_bytes stretch (stored put (suc offset) values))) ≡ written (cells_in next) (span (wrap (address + 1)) (length values)) values =
    stored_in values next place (wrap (address + 1)) (suc offset) (with_bytes stretch put) order_next inside_next found_next at_next (omega (arith, length-set stretch.bytes offset value)) in
    ap cells_in (sym (set-set stretches place (with_bytes stretch put) (with_bytes stretch (stored put (suc offset) values))))
    ∙ (others ∙ ap (λ memory. written memory (span (wrap (address + 1)) (length values)) values) (sym first))

pub shut_rest : (memory : List Cell) (address count : ℕ) → 0 < count → first_shut memory (span address count) ≡ None → first_shut memory (span (wrap (address + 1)) (count - 1)) ≡ None
shut_rest memory address count some none =
    (open_here (is_writable memory address) address (first_shut memory (span (wrap (address + 1)) (count - 1)))
    (ap (first_shut memory) (sym (span_more address count some)) ∙ none)).1

-- addresses in one stretch that can be written
pub all_open : (stretches : List MappedStretch) (place address count : ℕ) → AreInOrder stretches → (0 < count → HasAddress stretches place address) → address + count ≤ stretch_end (stretch_at stretches place) → place < length stretches
    → (stretch_at stretches place).writable ≡ true → first_shut (cells_in stretches) (span address count) ≡ None
all_open stretches place address zero order has within inside free = refl
all_open stretches place address (suc zero) order has within inside free =
    ap (λ t. cond (not t) (Some address) None) (sym (writable_is stretches place address order (has (omega arith))) ∙ free)
all_open stretches place address (suc (suc count)) order has within inside free =
    let here = has (omega arith) in
    let no_wrap : wrap (address + 1) ≡ address + 1 = mod-eq_of_lt (omega (arith, within, (stretch_is 0 stretches place order.rise inside).within)) in
    ap (λ t. cond (not t) (Some address) (first_shut (cells_in stretches) (span (wrap (address + 1)) (suc count)))) (sym (writable_is stretches place address order here) ∙ free)
    ∙ all_open stretches place (wrap (address + 1)) (suc count) order
    (λ _. record { inside = inside; above = omega (arith, here.above, no_wrap); below = omega (arith, within, no_wrap) }) (omega (arith, within, no_wrap)) inside free

-- what a store into one stretch does
pub record IsStored (stretches : List MappedStretch) (place address size value : ℕ) (changed : MappedStretch) : Type 0 where
  pub put : cells_in (set stretches place changed) ≡ written (cells_in stretches) (span address size) (bytes_of size value)
  pub outline : outline (set stretches place changed) ≡ outline stretches

pub stored_at : (stretches : List MappedStretch) (place address size value : ℕ) (stretch changed : MappedStretch) → AreInOrder stretches → HasAddress stretches place address
    → stretch ≡ stretch_at stretches place → (address - stretch.start) + size ≤ length stretch.bytes
    → changed ≡ with_bytes stretch (stored stretch.bytes (address - stretch.start) (bytes_of size value)) → IsStored stretches place address size value changed
stored_at stretches place address size value stretch changed order has found within is =
    let offset : ℕ = address - stretch.start in
    let values : List ℕ = bytes_of size value in
    let count : length values ≡ size = length-bytes_of size value in
    let above : stretch.start ≤ address = subst (λ (b : MappedStretch). b.start ≤ address) (sym found) has.above in
    record {
      put = ap (λ (b : MappedStretch). cells_in (set stretches place b)) is
          ∙ (stored_in values stretches place address offset stretch order has.inside (sym found) (λ _. omega arith) (omega (arith, within, count))
          ∙ ap (λ n. written (cells_in stretches) (span address n) values) count);
      outline = ap (λ (b : MappedStretch). outline (set stretches place b)) is
          ∙ outline-set stretches place stretch (stored stretch.bytes offset values) (sym found) (length-stored stretch.bytes offset values);
    }
