-- The note of a file of whose program headers none offends is sound.
use Rattle.std.proofs.Common.{◌≡◌, ℕ, suc, ◌+◌, ◌-◌, ◌*◌, ◌%◌, ◌<◌, Bool, true, false, List, length, get_or, drop, map, Option, None, Some, refl, sym, ap, ◌∙◌, inl, inr, subst, arith, zero-add}
use Rattle.std.specs.Prelude.{not, ◌&&◌, ◌||◌, IfSome, is_some}
use Rattle.std.specs.Option.{option_map}
use Rattle.std.specs.List.{All, AllByRecursion, find, list_all, range_with_len}
use Rattle.std.specs.List.Sorted.{IsStrictlyIncreasing}
use Rattle.std.proofs.lemmas.Bool.{and_parts, or_parts, cases_lt, eqb-true, ltb-true, not-false}
use Rattle.std.proofs.lemmas.List.{get_or-map, get_or_past, length-map}
use Rattle.std.proofs.lemmas.List.Elements.{All-contains, All-take, All-drop, All-get_or, recursion_from_All}
use Rattle.std.proofs.lemmas.List.FromFn.{get_or-range_with_len, length-range_with_len, get_or-map-range_with_len, length-map-range_with_len}
use Rattle.std.proofs.lemmas.List.Sums.{AllPass-from_list_all}
use Rattle.elf_raw.specs.declared.raw.RawElf.{RawElf}
use Rattle.elf_raw.specs.Raw.{raw_of}
use Rattle.elf_raw.specs.declared.segment.RawSegment.{RawSegment}
use Rattle.elf_raw.specs.Header.{header_of}
use Rattle.elf_raw.specs.Numbers.{word_at}
use Rattle.elf_raw.specs.Refusal.{reaches_past, IsSound}
use Rattle.elf_raw.specs.Segments.{segment_of, segments_of}
use Rattle.rv_code.specs.declared.image.Mark.{Mark}
use Rattle.rv_code.specs.Image.{IsNote}
use Rattle.rv_code.specs.Numbers.{IsByte, IsWord}
use Rattle.elf_image.specs.Loads.{is_note_header, piece_of, has_note, before, bad_note_at, bad_program_header, note_in}
use Rattle.elf_image.specs.NoteBytes.{mark_count, mark_of, note_of, rises_at, is_aligned_at, marks_rise, is_note}
use Rattle.elf_image.proofs.Found.{found, is_some-find}
use Rattle.elf_image.proofs.GoodLoads.{IsGood, good}
use Rattle.elf_image.proofs.HeaderRows.{header_row, headers_number, headers_read}

-- what holds of each program header by its number holds of each in the list
pub each_header : (P : RawSegment → Type 0) (bytes : List ℕ) → ((number : ℕ) → number < (header_of bytes).phnum → P (segment_of bytes number)) → All P (segments_of bytes)
each_header P bytes holds number d within =
    let below : number < (header_of bytes).phnum = omega (arith, headers_number bytes) in subst P (sym (header_row bytes number d below)) (holds number below)

-- the bytes of each lie in the file
pub each_within : (bytes : List ℕ) → IsSound bytes → All (λ segment. reaches_past bytes segment.offset segment.filesz ≡ false) (segments_of bytes)
each_within bytes sound = each_header (λ segment. reaches_past bytes segment.offset segment.filesz ≡ false) bytes sound.pieces

note_at : (bytes : List ℕ) (number : ℕ) → bad_note_at bytes number ≡ false → is_note_header (segment_of bytes number) ≡ true
    → is_note (piece_of bytes (segment_of bytes number)) ≡ true
note_at bytes number fine header =
    let rest : (not (is_note (piece_of bytes (segment_of bytes number))) || has_note (before bytes number)) ≡ false =
    ap (λ t. t && (not (is_note (piece_of bytes (segment_of bytes number))) || has_note (before bytes number))) (sym header) ∙ fine
    in
    not-false (is_note (piece_of bytes (segment_of bytes number))) (or_parts _ _ rest).0

-- where none offends, each header of the note's type has a note
pub each_note : (bytes : List ℕ) → IsGood bytes → All (λ segment. is_note_header segment ≡ true → is_note (piece_of bytes segment) ≡ true) (segments_of bytes)
each_note bytes fine =
    each_header (λ segment. is_note_header segment ≡ true → is_note (piece_of bytes segment) ≡ true) bytes
    (λ number within header. note_at bytes number (fine.notes number within) header)

-- the header that is found among those that were read
pub note_read : (raw : RawElf) (bytes : List ℕ) (headers : List RawSegment) (segment : RawSegment) → raw ≡ raw_of bytes → headers ≡ raw.segments
    → Some segment ≡ find is_note_header headers → find is_note_header (segments_of bytes) ≡ Some segment
note_read raw bytes headers segment read are is = ap (find is_note_header) (sym (headers_read raw bytes headers read are)) ∙ sym is

-- of the header that is found
pub note_within : (bytes : List ℕ) (segment : RawSegment) → IsSound bytes → find is_note_header (segments_of bytes) ≡ Some segment
    → reaches_past bytes segment.offset segment.filesz ≡ false
note_within bytes segment sound is =
    All-contains (λ segment. reaches_past bytes segment.offset segment.filesz ≡ false) (segments_of bytes) segment (each_within bytes sound)
    (found is_note_header (segments_of bytes) segment is).0

pub note_there : (bytes : List ℕ) (segment : RawSegment) → bad_program_header bytes ≡ None → find is_note_header (segments_of bytes) ≡ Some segment
    → is_note (piece_of bytes segment) ≡ true
note_there bytes segment none is =
    let there = found is_note_header (segments_of bytes) segment is in
    All-contains (λ segment. is_note_header segment ≡ true → is_note (piece_of bytes segment) ≡ true) (segments_of bytes) segment (each_note bytes (good bytes none))
    there.0 there.1

pub is_some-note_in : (bytes : List ℕ) → is_some (note_in bytes) ≡ has_note (segments_of bytes)
is_some-note_in bytes =
    mapped (λ segment. note_of (piece_of bytes segment)) (find is_note_header (segments_of bytes)) ∙ is_some-find is_note_header (segments_of bytes)
  where
    mapped : {A B : Type 0} (f : A → B) (o : Option A) → is_some (option_map f o) ≡ is_some o
    mapped f None = refl
    mapped f (Some x) = refl

-- each index gives a byte, past the end 0
pub byte_at : (bytes : List ℕ) (place : ℕ) → All IsByte bytes → IsByte (get_or bytes place 0)
byte_at bytes place all = elim (cases_lt place (length bytes)) [
  | inl within ↦ All-get_or IsByte bytes place 0 within all
  | inr past ↦ let zero : get_or bytes place 0 ≡ 0 = get_or_past bytes place 0 past in omega (arith, zero)
]

pub word_below : (bytes : List ℕ) (place : ℕ) → All IsByte bytes → IsWord (word_at bytes place)
word_below bytes place all =
    let first : get_or bytes place 0 < 256 = byte_at bytes place all in
    let second : get_or bytes (suc place) 0 < 256 = byte_at bytes (suc place) all in
    let third : get_or bytes (suc (suc place)) 0 < 256 = byte_at bytes (suc (suc place)) all in
    let fourth : get_or bytes (suc (suc (suc place))) 0 < 256 = byte_at bytes (suc (suc (suc place))) all in
    omega arith

each_mark : (P : Mark → Type 0) (piece : List ℕ) → ((number : ℕ) → number < mark_count piece → P (mark_of piece number)) → AllByRecursion P (note_of piece).map
each_mark P piece holds =
    recursion_from_All P (note_of piece).map
    (λ number d within.
    let below : number < mark_count piece = omega (arith, length-map-range_with_len (mark_of piece) 0 (mark_count piece)) in
    subst P (sym (get_or-map-range_with_len (mark_of piece) 0 (mark_count piece) number number d below (zero-add number))) (holds number below))

-- a test of each of some numbers holds of each
each_passes : (p : ℕ → Bool) (count : ℕ) → list_all p (range_with_len 0 count) ≡ true → (number : ℕ) → number < count → p number ≡ true
each_passes p count all number within =
    let here : get_or (range_with_len 0 count) number 0 ≡ number = get_or-range_with_len 0 count number 0 within ∙ zero-add number in
    ap p (sym here) ∙ AllPass-from_list_all p (range_with_len 0 count) all number 0 (omega (arith, length-range_with_len 0 count))

from_rise : (piece : List ℕ) → marks_rise piece ≡ true → IsStrictlyIncreasing (map (λ (mark : Mark). mark.from) (note_of piece).map)
from_rise piece rise number within =
    let marks = (note_of piece).map in
    let d = mark_of piece 0 in
    let count : length marks ≡ mark_count piece = length-map-range_with_len (mark_of piece) 0 (mark_count piece) in
    let below : number + 1 < mark_count piece = omega (arith, length-map marks (λ (mark : Mark). mark.from)) in
    let here : get_or (map (λ (mark : Mark). mark.from) marks) number 0 ≡ (mark_of piece number).from =
    get_or-map (λ (mark : Mark). mark.from) marks number d 0 (omega arith)
    ∙ ap (λ (mark : Mark). mark.from) (get_or-map-range_with_len (mark_of piece) 0 (mark_count piece) number number d (omega arith) (zero-add number))
    in
    let next : get_or (map (λ (mark : Mark). mark.from) marks) (number + 1) 0 ≡ (mark_of piece (number + 1)).from =
    get_or-map (λ (mark : Mark). mark.from) marks (number + 1) d 0 (omega arith)
    ∙ ap (λ (mark : Mark). mark.from) (get_or-map-range_with_len (mark_of piece) 0 (mark_count piece) (number + 1) (number + 1) d below (zero-add (number + 1)))
    in
    let order : (mark_of piece number).from < (mark_of piece (number + 1)).from = ltb-true _ _ (each_passes (rises_at piece) (mark_count piece - 1) rise number (omega arith)) in
    omega (arith, here, next, order)

pub note_sound : (piece : List ℕ) → All IsByte piece → is_note piece ≡ true → IsNote (note_of piece)
note_sound piece all is =
    let aligned = and_parts _ _ is in
    let rise = and_parts _ _ aligned.0 in
    let first = and_parts _ _ rise.0 in
    let entry = and_parts _ _ first.0 in
    record {
      words = (word_below piece 4 all, word_below piece 8 all, word_below piece 12 all, word_below piece 16 all, word_below piece 20 all);
      marks = each_mark (λ (mark : Mark). IsWord mark.from × IsWord mark.original) piece
          (λ number _. (word_below piece (28 + 8 * number) all, word_below piece (32 + 8 * number) all));
      entry = eqb-true (word_at piece 4 % 4) 0 entry.1;
      first = eqb-true (word_at piece 8 % 4) 0 first.1;
      rises = from_rise piece rise.1;
      originals = each_mark (λ (mark : Mark). mark.original % 4 ≡ 0) piece
          (λ number within. eqb-true _ 0 (each_passes (is_aligned_at piece) (mark_count piece) aligned.1 number within));
    }

-- the bytes of a program header are bytes
pub piece_bytes : (bytes : List ℕ) (segment : RawSegment) → All IsByte bytes → All IsByte (piece_of bytes segment)
piece_bytes bytes segment all = All-take IsByte segment.filesz (drop segment.offset bytes) (All-drop IsByte segment.offset bytes all)

note_case : (bytes : List ℕ) (header : Option RawSegment) → All IsByte bytes → bad_program_header bytes ≡ None → find is_note_header (segments_of bytes) ≡ header
    → IfSome (option_map (λ segment. note_of (piece_of bytes segment)) header) IsNote
note_case bytes None all none is = tt
note_case bytes (Some segment) all none is = note_sound (piece_of bytes segment) (piece_bytes bytes segment all) (note_there bytes segment none is)

pub note_in_sound : (bytes : List ℕ) → All IsByte bytes → bad_program_header bytes ≡ None → IfSome (note_in bytes) IsNote
note_in_sound bytes all none = note_case bytes (find is_note_header (segments_of bytes)) all none refl
