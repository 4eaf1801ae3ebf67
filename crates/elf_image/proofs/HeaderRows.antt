-- The program headers of a file as the rows of its table, by their numbers.
use Rattle.std.proofs.Common.{◌≡◌, ℕ, ◌+◌, ◌<◌, ◌≤◌, Bool, false, cond, List, [], ◌∷◌, ◌++◌, length, get_or, take, map, sym, ap, ◌∙◌, arith}
use Rattle.std.specs.List.{filter, range_with_len}
use Rattle.std.proofs.lemmas.List.FromFn.{get_or-map-range_with_len, length-map-range_with_len, take-map-range_with_len, filter_of_map_range_with_len_more}
use Rattle.elf_raw.specs.declared.raw.RawElf.{RawElf}
use Rattle.elf_raw.specs.declared.segment.RawSegment.{RawSegment}
use Rattle.elf_raw.specs.Header.{header_of}
use Rattle.elf_raw.specs.Raw.{raw_of}
use Rattle.elf_raw.specs.Segments.{segment_of, segments_of}
use Rattle.elf_image.specs.Loads.{before}
use Rattle.elf_raw.specs.Refusal.{reaches_past, IsSound}

pub headers_length : (raw : RawElf) (bytes : List ℕ) → raw ≡ raw_of bytes → length raw.segments ≡ raw.header.phnum
headers_length raw bytes read =
    ap (λ (r : RawElf). length r.segments) read
    ∙ length-map-range_with_len (segment_of bytes) 0 (header_of bytes).phnum
    ∙ ap (λ (r : RawElf). r.header.phnum) (sym read)

pub headers_number : (bytes : List ℕ) → length (segments_of bytes) ≡ (header_of bytes).phnum
headers_number bytes = length-map-range_with_len (segment_of bytes) 0 (header_of bytes).phnum

pub header_row : (bytes : List ℕ) (number : ℕ) (d : RawSegment) → number < (header_of bytes).phnum → get_or (segments_of bytes) number d ≡ segment_of bytes number
header_row bytes number d within = get_or-map-range_with_len (segment_of bytes) 0 (header_of bytes).phnum number number d within (omega arith)

-- what is read at a number is the row
pub header_here : (raw : RawElf) (bytes : List ℕ) (headers : List RawSegment) (number : ℕ) (d : RawSegment) → raw ≡ raw_of bytes → headers ≡ raw.segments
    → number < raw.header.phnum → get_or headers number d ≡ segment_of bytes number
header_here raw bytes headers number d read are within =
    let count : raw.header.phnum ≡ (header_of bytes).phnum = ap (λ (r : RawElf). r.header.phnum) read in
    ap (λ xs. get_or xs number d) are ∙ ap (λ (r : RawElf). get_or r.segments number d) read ∙ header_row bytes number d (omega arith)

pub headers_count : (raw : RawElf) (bytes : List ℕ) (headers : List RawSegment) → raw ≡ raw_of bytes → headers ≡ raw.segments → length headers ≡ raw.header.phnum
headers_count raw bytes headers read are = ap length are ∙ headers_length raw bytes read

pub before_rows : (bytes : List ℕ) (number : ℕ) → number ≤ (header_of bytes).phnum → before bytes number ≡ map (segment_of bytes) (range_with_len 0 number)
before_rows bytes number within = take-map-range_with_len (segment_of bytes) 0 (header_of bytes).phnum number within

-- those that pass a test, of one row more
pub passing_more : (p : RawSegment → Bool) (bytes : List ℕ) (number : ℕ) → number < (header_of bytes).phnum
    → filter p (before bytes (number + 1)) ≡ filter p (before bytes number) ++ cond (p (segment_of bytes number)) (segment_of bytes number ∷ []) []
passing_more p bytes number within =
    ap (filter p) (before_rows bytes (number + 1) (omega arith))
    ∙ filter_of_map_range_with_len_more p (segment_of bytes) 0 number number (omega arith)
    ∙ ap (λ xs. filter p xs ++ cond (p (segment_of bytes number)) (segment_of bytes number ∷ []) []) (sym (before_rows bytes number (omega arith)))

-- the bytes of a header of a sound file lie in the file
pub piece_within : (raw : RawElf) (bytes : List ℕ) (number : ℕ) (segment : RawSegment) → raw ≡ raw_of bytes → IsSound bytes → number < raw.header.phnum
    → segment ≡ segment_of bytes number → reaches_past bytes segment.offset segment.filesz ≡ false
piece_within raw bytes number segment read sound within is =
    let count : raw.header.phnum ≡ (header_of bytes).phnum = ap (λ (r : RawElf). r.header.phnum) read in
    ap (λ (s : RawSegment). reaches_past bytes s.offset s.filesz) is ∙ sound.pieces number (omega arith)

pub before_here : (raw : RawElf) (bytes : List ℕ) (headers : List RawSegment) (number : ℕ) → raw ≡ raw_of bytes → headers ≡ raw.segments
    → take number headers ≡ before bytes number
before_here raw bytes headers number read are = ap (take number) are ∙ ap (λ (r : RawElf). take number r.segments) read

pub count_read : (raw : RawElf) (bytes : List ℕ) → raw ≡ raw_of bytes → raw.header.phnum ≡ (header_of bytes).phnum
count_read raw bytes read = ap (λ (r : RawElf). r.header.phnum) read

pub headers_read : (raw : RawElf) (bytes : List ℕ) (headers : List RawSegment) → raw ≡ raw_of bytes → headers ≡ raw.segments → headers ≡ segments_of bytes
headers_read raw bytes headers read are = are ∙ ap (λ (r : RawElf). r.segments) read
