-- Reads give what was last written.
use Rattle.std.proofs.Common.{◌≡◌, ◌≢◌, ℕ, zero, suc, ◌+◌, ◌-◌, ◌*◌, ◌/◌, ◌%◌, ◌^◌, ◌<◌, ◌≤◌, Bool, true, false, cond, List, [], ◌∷◌, map, length, get_or, Option, Some, None, Ok, refl, sym, ap, ◌∙◌, subst, eqb, inl, inr, arith}
use Rattle.std.specs.Prelude.{not, is_some, nat_lt}
use Rattle.std.proofs.lemmas.Bool.{le-ltb, lt-ltb}
use Rattle.std.proofs.lemmas.Bool.Decides.{eqb_tells, leb_tells}
use Rattle.std.proofs.Math.Arith.{mod-mul}
use Rattle.std.proofs.Math.Nat.{pow-suc}
use Rattle.rv_code.specs.Numbers.{IsWord, wrap, bytes_of, number_of}
use Rattle.rv_memory.specs.Memory.{Cell, cell_at, is_writable, is_writable_cell, byte_at, byte_of_cell, with_byte, span, bytes_at, first_hole, first_shut, written}
use Rattle.rv_memory.specs.Answers.{hole_or}
use Rattle.rv_memory.specs.Laws.{distance, byte_after, ReadsFollowWrites, NumbersComeBack}
use Rattle.rv_memory.proofs.LawsOfCells.{open_here, cell_at-with_byte, shut_kept, shut_written, hole_written, length-bytes_of}

-- the byte that was put at a mapped address is there
byte_in : (t : Bool) (byte : ℕ) (cell : Cell) (changed rest : Option Cell) → (t ≡ false → byte_of_cell changed ≡ byte)
    → byte_of_cell (cond t (Some (record { address = cell.address; byte = cond t byte cell.byte; writable = cell.writable })) changed) ≡ byte
byte_in true byte cell changed rest h = refl
byte_in false byte cell changed rest h = h refl

mapped_behind : (t : Bool) (cell : Cell) (rest : Option Cell) → is_writable_cell (cond t (Some cell) rest) ≡ true → t ≡ false → is_writable_cell rest ≡ true
mapped_behind true cell rest h is = absurd (cc is)
mapped_behind false cell rest h is = h

byte_put_here : (address byte : ℕ) (memory : List Cell) → is_writable memory address ≡ true → byte_at (map (with_byte address byte) memory) address ≡ byte
byte_put_here address byte [] free = absurd (cc free)
byte_put_here address byte (cell ∷ memory) free =
    byte_in (eqb cell.address address) byte cell (cell_at (map (with_byte address byte) memory) address) (cell_at memory address)
    (λ is. byte_put_here address byte memory (mapped_behind (eqb cell.address address) cell (cell_at memory address) free is))

-- distances from the next start
distance_here : (start : ℕ) → IsWord start → (distance start start ≡ 0) × (distance (wrap (start + 1)) start ≡ 2 ^ 32 - 1)
distance_here start fits = (omega (arith, fits), omega (arith, fits))

distance_next : (start address : ℕ) → IsWord start → IsWord address → start ≢ address → distance start address ≡ suc (distance (wrap (start + 1)) address)
distance_next start address fits within other = omega (arith, fits, within)

lt_suc : (a b : ℕ) → nat_lt (suc a) (suc b) ≡ nat_lt a b
lt_suc a b = elim (leb_tells (suc a) b) [
  | inl less ↦ lt-ltb (suc a) (suc b) (omega (arith, less.1)) ∙ sym less.0
  | inr more ↦ le-ltb (suc a) (suc b) (omega (arith, more.1)) ∙ sym more.0
]

-- what `byte_after` is: at a far address, behind the first byte, and at the first byte
after_far : (memory : List Cell) (start : ℕ) (bytes : List ℕ) (address : ℕ) → length bytes ≤ distance start address → byte_after memory start bytes address ≡ byte_at memory address
after_far memory start bytes address far =
    ap (λ t. cond t (get_or bytes (distance start address) 0) (byte_at memory address)) (le-ltb (distance start address) (length bytes) far)

after_step : (memory next : List Cell) (start byte : ℕ) (bytes : List ℕ) (address : ℕ) → IsWord start → IsWord address → start ≢ address → byte_at next address ≡ byte_at memory address
    → byte_after next (wrap (start + 1)) bytes address ≡ byte_after memory start (byte ∷ bytes) address
after_step memory next start byte bytes address fits within other same =
    ap (λ old. cond (nat_lt (distance (wrap (start + 1)) address) (length bytes)) (get_or bytes (distance (wrap (start + 1)) address) 0) old) same
    ∙ (ap (λ t. cond t (get_or bytes (distance (wrap (start + 1)) address) 0) (byte_at memory address)) (sym (lt_suc (distance (wrap (start + 1)) address) (length bytes)))
    ∙ ap (λ n. cond (nat_lt n (suc (length bytes))) (get_or (byte ∷ bytes) n 0) (byte_at memory address)) (sym (distance_next start address fits within other)))

after_here : (memory : List Cell) (start byte : ℕ) (bytes : List ℕ) → IsWord start → byte_after memory start (byte ∷ bytes) start ≡ byte
after_here memory start byte bytes fits =
    ap (λ n. cond (nat_lt n (suc (length bytes))) (get_or (byte ∷ bytes) n 0) (byte_at memory start)) (distance_here start fits).0
    ∙ ap (λ t. cond t byte (byte_at memory start)) (lt-ltb 0 (suc (length bytes)) (omega arith))

-- what is left to put can be written as well
rest_free : (memory : List Cell) (start byte : ℕ) (bytes : List ℕ) → first_shut memory (span start (length (byte ∷ bytes))) ≡ None
    → (is_writable memory start ≡ true) × (first_shut (map (with_byte start byte) memory) (span (wrap (start + 1)) (length bytes)) ≡ None)
rest_free memory start byte bytes free =
    let next : ℕ = wrap (start + 1) in
    let opened = open_here (is_writable memory start) start (first_shut memory (span next (length bytes))) free in
    (opened.0, shut_kept start byte memory (span next (length bytes)) ∙ opened.1)

-- each byte after bytes were put
each_byte : (memory : List Cell) (start : ℕ) (bytes : List ℕ) → IsWord start → length bytes ≤ 2 ^ 32 → first_shut memory (span start (length bytes)) ≡ None
    → (address : ℕ) → IsWord address → byte_at (written memory (span start (length bytes)) bytes) address ≡ byte_after memory start bytes address
each_byte memory start [] fits few free address within = sym (after_far memory start [] address (omega arith))
each_byte memory start (byte ∷ bytes) fits few free address within =
    let put : List Cell = map (with_byte start byte) memory in
    let next : ℕ = wrap (start + 1) in
    let opened = rest_free memory start byte bytes free in
    each_byte put next bytes (omega arith) (omega (arith, few)) opened.1 address within
    ∙ elim (eqb_tells start address) [
      | inl same ↦ subst (λ at. byte_after put next bytes at ≡ byte_after memory start (byte ∷ bytes) at) same.1
          (after_far put next bytes start (omega (arith, few, (distance_here start fits).1)) ∙ (byte_put_here start byte memory opened.0 ∙ sym (after_here memory start byte bytes fits)))
      | inr other ↦ after_step memory put start byte bytes address fits within other.1 (ap byte_of_cell (cell_at-with_byte start byte address memory other.1))
    ]

-- the bytes that were put are read back
same_bytes : (memory : List Cell) (start : ℕ) (bytes : List ℕ) → IsWord start → length bytes ≤ 2 ^ 32 → first_shut memory (span start (length bytes)) ≡ None
    → bytes_at (written memory (span start (length bytes)) bytes) (span start (length bytes)) ≡ bytes
same_bytes memory start [] fits few free = refl
same_bytes memory start (byte ∷ bytes) fits few free =
    let put : List Cell = map (with_byte start byte) memory in
    let next : ℕ = wrap (start + 1) in
    let next_fits : IsWord next = omega arith in
    let few_next : length bytes ≤ 2 ^ 32 = omega (arith, few) in
    let opened = rest_free memory start byte bytes free in
    let after : List Cell = written put (span next (length bytes)) bytes in
    ap (λ first. first ∷ bytes_at after (span next (length bytes)))
    (each_byte put next bytes next_fits few_next opened.1 start fits ∙ (after_far put next bytes start (omega (arith, few, (distance_here start fits).1)) ∙ byte_put_here start byte memory opened.0))
    ∙ ap (λ (rest : List ℕ). byte ∷ rest) (same_bytes put next bytes next_fits few_next opened.1)

pub reads_follow_writes : ReadsFollowWrites
reads_follow_writes memory start bytes fits few free =
    record {
      same = same_bytes memory start bytes fits few free;
      each = each_byte memory start bytes fits few free;
      holes = hole_written memory (span start (length bytes)) bytes;
      shuts = shut_written memory (span start (length bytes)) bytes;
    }

-- what can be written can be read
free_is_mapped : (cell : Option Cell) → is_writable_cell cell ≡ true → is_some cell ≡ true
free_is_mapped None free = absurd (cc free)
free_is_mapped (Some cell) free = refl

free_has_no_hole : (memory : List Cell) (addresses : List ℕ) → first_shut memory addresses ≡ None → first_hole memory addresses ≡ None
free_has_no_hole memory [] free = refl
free_has_no_hole memory (address ∷ addresses) free =
    let opened = open_here (is_writable memory address) address (first_shut memory addresses) free in
    ap (λ t. cond (not t) (Some address) (first_hole memory addresses)) (free_is_mapped (cell_at memory address) opened.0)
    ∙ free_has_no_hole memory addresses opened.1

pos_pow : (size : ℕ) → 0 < 256 ^ size
pos_pow zero = omega arith
pos_pow (suc size) = let whole : 256 ^ suc size ≡ 256 ^ size * 256 = pow-suc 256 size in omega (arith, whole, pos_pow size)

-- the number of a number's bytes
number_of-bytes_of : (size number : ℕ) → number_of (bytes_of size number) ≡ number % 256 ^ size
number_of-bytes_of zero number = omega arith
number_of-bytes_of (suc size) number =
    let some : 0 < 256 ^ size = pos_pow size in
    let whole : 256 ^ suc size ≡ 256 ^ size * 256 = pow-suc 256 size in
    let rest = number_of-bytes_of size (number / 256) in
    let parts : number % (256 ^ size * 256) ≡ (number / 256 % 256 ^ size) * 256 + number % 256 = mod-mul number some (omega arith) in
    let sum : number % 256 + 256 * number_of (bytes_of size (number / 256)) ≡ (number / 256 % 256 ^ size) * 256 + number % 256 = omega (arith, rest) in
    sum ∙ (sym parts ∙ ap (λ n. number % n) (sym whole))

pub numbers_come_back : NumbersComeBack
numbers_come_back memory address size number fits few free =
    let bytes : List ℕ = bytes_of size number in
    let count : length bytes ≡ size = length-bytes_of size number in
    let all : first_shut memory (span address (length bytes)) ≡ None = ap (λ n. first_shut memory (span address n)) count ∙ free in
    let after : List Cell = written memory (span address size) bytes in
    let back : bytes_at after (span address size) ≡ bytes =
    subst (λ n. bytes_at (written memory (span address n) bytes) (span address n) ≡ bytes) count (same_bytes memory address bytes fits (omega (arith, few, count)) all) in
    let mapped : first_hole after (span address size) ≡ None = hole_written memory (span address size) bytes (span address size) ∙ free_has_no_hole memory (span address size) free in
    ap (λ hole. hole_or hole (number_of (bytes_at after (span address size)))) mapped
    ∙ (ap (λ (xs : List ℕ). Ok (number_of xs)) back ∙ ap (λ n. Ok n) (number_of-bytes_of size number))
