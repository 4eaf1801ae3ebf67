-- Program headers, and which of them offend (System V ABI, chapter 5, "Program Header"). Where segments may lie, how many
-- there may be, that one alone may be executed, and the type of the note are this project's own.
use Rattle.std.specs.Prelude.{ℕ, ◌+◌, ◌-◌, ◌/◌, ◌%◌, ◌^◌, Bool, not, ◌&&◌, ◌||◌, ◌==◌, List, map, length, take, drop, nat_lt, nat_le, if◌then◌else◌, Option, Some}
use Rattle.std.specs.Option.{option_map, option_or}
use Rattle.std.specs.List.{list_any, filter, find, range_with_len}
use Rattle.rv_code.specs.Ordered.{ordered}
use Rattle.elf_raw.specs.declared.segment.RawSegment.{RawSegment}
use Rattle.elf_raw.specs.Header.{header_of}
use Rattle.elf_raw.specs.Segments.{segment_of, segments_of}
use Rattle.rv_code.specs.declared.image.Note.{Note}
use Rattle.rv_code.specs.declared.image.Region.{Region}
use Rattle.rv_code.specs.Addresses.{stack_start, tracer_start}
use Rattle.rv_code.specs.Limits.{regions_limit}
use Rattle.elf_image.specs.NoteBytes.{is_note, note_of}

-- PT_LOAD, with bytes in memory
abbrev pub is_load : RawSegment → Bool
is_load segment = (segment.kind == 1) && not (segment.memsz == 0)

-- PT_DYNAMIC or PT_INTERP
abbrev pub is_dynamic : RawSegment → Bool
is_dynamic segment = (segment.kind == 2) || (segment.kind == 3)

-- the type of the note
abbrev pub is_note_header : RawSegment → Bool
is_note_header segment = segment.kind == 0x60414531

-- PF_X
abbrev pub is_executable : RawSegment → Bool
is_executable segment = segment.flags % 2 == 1

-- PF_W
abbrev pub is_writable_load : RawSegment → Bool
is_writable_load segment = segment.flags / 2 % 2 == 1

abbrev pub is_code_load : RawSegment → Bool
is_code_load segment = is_load segment && is_executable segment

-- the bytes of a program header in the file
abbrev pub piece_of : List ℕ → RawSegment → List ℕ
piece_of bytes segment = take segment.filesz (drop segment.offset bytes)

-- a program header of the note's type is there, whatever its bytes are
abbrev pub has_note : List RawSegment → Bool
has_note segments = list_any is_note_header segments

-- the first address behind
abbrev pub load_end : RawSegment → ℕ
load_end segment = segment.vaddr + segment.memsz

-- it lies below the stack or, in a file with a note, with the tracer's
abbrev pub is_allowed : (noted : Bool) → RawSegment → Bool
is_allowed noted segment =
    nat_le (load_end segment) stack_start || (noted && nat_le tracer_start segment.vaddr && nat_le (load_end segment) (2 ^ 32))

-- two that have bytes have one in common
abbrev pub shares_byte : RawSegment → RawSegment → Bool
shares_byte one other = nat_lt one.vaddr (load_end other) && nat_lt other.vaddr (load_end one)

-- one that is loaded offends behind the earlier ones that are
abbrev pub load_offends : (noted : Bool) → (earlier : List RawSegment) → RawSegment → Bool
load_offends noted earlier segment =
    nat_lt segment.memsz segment.filesz
    || not (is_allowed noted segment)
    || list_any (shares_byte segment) earlier
    || (is_executable segment && list_any is_executable earlier)
    || nat_le (regions_limit noted) (length earlier)

-- the program headers before the one with this number
abbrev pub before : List ℕ → ℕ → List RawSegment
before bytes number = take number (segments_of bytes)

abbrev pub bad_load_at : List ℕ → ℕ → Bool
bad_load_at bytes number =
    is_load (segment_of bytes number)
    && load_offends (has_note (segments_of bytes)) (filter is_load (before bytes number)) (segment_of bytes number)

-- the program header with this number is a note's, and no note stands there, or it is the second
abbrev pub bad_note_at : List ℕ → ℕ → Bool
bad_note_at bytes number =
    is_note_header (segment_of bytes number)
    && (not (is_note (piece_of bytes (segment_of bytes number))) || has_note (before bytes number))

-- the numbers of the program headers
abbrev pub numbers_of : List ℕ → List ℕ
numbers_of bytes = range_with_len 0 (header_of bytes).phnum

abbrev pub bad_load : List ℕ → Option ℕ
bad_load bytes = find (bad_load_at bytes) (numbers_of bytes)

abbrev pub bad_note : List ℕ → Option ℕ
bad_note bytes = find (bad_note_at bytes) (numbers_of bytes)

-- where nothing that is loaded offends: the number of the program headers, where no code is loaded, and else of a note's
abbrev pub code_or_note : List ℕ → Option ℕ
code_or_note bytes = if list_any is_code_load (segments_of bytes) then bad_note bytes else Some (header_of bytes).phnum

-- The number of the first program header that offends: of what is loaded; then their number, where no code is loaded; then
-- of notes.
abbrev pub bad_program_header : List ℕ → Option ℕ
bad_program_header bytes = option_or (bad_load bytes) (code_or_note bytes)

-- what is loaded, zeros behind the bytes of the file
abbrev pub region_of : List ℕ → RawSegment → Region
region_of bytes segment =
    record {
      start = segment.vaddr;
      bytes = piece_of bytes segment;
      zeros = segment.memsz - segment.filesz;
      writable = is_writable_load segment;
    }

-- in the order of addresses
abbrev pub regions_of : List ℕ → List Region
regions_of bytes = ordered (λ (region : Region). region.start) (map (region_of bytes) (filter is_load (segments_of bytes)))

-- the note of a file that has one
abbrev pub note_in : List ℕ → Option Note
note_in bytes = option_map (λ segment. note_of (piece_of bytes segment)) (find is_note_header (segments_of bytes))
