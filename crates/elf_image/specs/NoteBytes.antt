-- The note of a rewritten executable, as the bytes of its program header hold it: `AEN1`, six words (entry, first code
-- address, number of code words, buffer, used, number of marks), and for each mark two words (from, original), the lowest
-- byte first. This project's own.
use Rattle.std.specs.Prelude.{ℕ, ◌+◌, ◌-◌, ◌*◌, ◌%◌, Bool, ◌&&◌, ◌==◌, List, [], ◌∷◌, ◌++◌, map, length, take, nat_lt, nat_le}
use Rattle.std.specs.List.{list_all, flat_map, range_with_len}
use Rattle.std.specs.Str.{bytes_eq}
use Rattle.elf_raw.specs.Numbers.{word_at}
use Rattle.elf_raw.specs.Written.{word_bytes}
use Rattle.rv_code.specs.declared.image.Mark.{Mark}
use Rattle.rv_code.specs.declared.image.Note.{Note}

-- `AEN1`
abbrev pub note_magic : List ℕ
note_magic = 0x41 ∷ 0x45 ∷ 0x4e ∷ 0x31 ∷ []

abbrev pub has_note_magic : List ℕ → Bool
has_note_magic piece = bytes_eq (take 4 piece) note_magic

abbrev pub mark_count : List ℕ → ℕ
mark_count piece = word_at piece 24

-- the mark with this number
abbrev pub mark_of : List ℕ → ℕ → Mark
mark_of piece number = record { from = word_at piece (28 + 8 * number); original = word_at piece (32 + 8 * number) }

abbrev pub note_of : List ℕ → Note
note_of piece =
    record {
      entry = word_at piece 4;
      first = word_at piece 8;
      count = word_at piece 12;
      buffer = word_at piece 16;
      used = word_at piece 20;
      map = map (mark_of piece) (range_with_len 0 (mark_count piece));
    }

-- the mark with this number begins below the next
abbrev pub rises_at : List ℕ → ℕ → Bool
rises_at piece number = nat_lt (mark_of piece number).from (mark_of piece (number + 1)).from

-- the from addresses of the marks rise strictly
abbrev pub marks_rise : List ℕ → Bool
marks_rise piece = list_all (rises_at piece) (range_with_len 0 (mark_count piece - 1))

-- an instruction stands at a multiple of 4
abbrev pub is_aligned_at : List ℕ → ℕ → Bool
is_aligned_at piece number = (mark_of piece number).original % 4 == 0

abbrev pub originals_are_aligned : List ℕ → Bool
originals_are_aligned piece = list_all (is_aligned_at piece) (range_with_len 0 (mark_count piece))

-- it has as many bytes as its number of marks says
abbrev pub has_note_length : List ℕ → Bool
has_note_length piece = nat_le 28 (length piece) && (length piece == 28 + 8 * mark_count piece)

abbrev pub is_note : List ℕ → Bool
is_note piece =
    has_note_length piece && has_note_magic piece
    && (word_at piece 4 % 4 == 0) && (word_at piece 8 % 4 == 0)
    && marks_rise piece && originals_are_aligned piece

-- the words of a mark, and of a note
abbrev pub mark_words : Mark → List ℕ
mark_words mark = mark.from ∷ mark.original ∷ []

abbrev pub note_words : Note → List ℕ
note_words note =
    note.entry ∷ note.first ∷ note.count ∷ note.buffer ∷ note.used ∷ length note.map ∷ flat_map mark_words note.map

-- the bytes that say a note
abbrev pub note_bytes : Note → List ℕ
note_bytes note = note_magic ++ word_bytes (note_words note)
