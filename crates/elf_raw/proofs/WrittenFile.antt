-- The file of tables and pieces that can be written.
use Rattle.std.proofs.Common.{◌≡◌, ℕ, suc, ◌+◌, ◌*◌, ◌<◌, ◌≤◌, List, [], ◌∷◌, length, max, take, drop, get_or, replicate, None, refl, sym, ap, subst, ◌∙◌, arith, length-take, length-drop}
use Rattle.std.proofs.lemmas.List.{ext_get_or, get_or-take, get_or-drop, length-replicate}
use Rattle.std.specs.List.{All, AllPairs, flat_map, fold}
use Rattle.elf_raw.specs.declared.piece.Piece.{Piece}
use Rattle.elf_raw.specs.declared.raw.RawElf.{RawElf}
use Rattle.elf_raw.specs.Raw.{raw_of}
use Rattle.elf_raw.specs.Tables.{AreTablesOf}
use Rattle.elf_raw.specs.Refusal.{elf_refusal}
use Rattle.elf_raw.specs.Writable.{IsCounted, IsApart, IsWritable, IsTaken}
use Rattle.elf_raw.specs.Written.{header_bytes, segment_bytes, section_bytes, parts_of, end_of, file_end, lay, file_of}
use Rattle.elf_raw.proofs.Ends.{end_within, ends_each}
use Rattle.elf_raw.proofs.Kept.{EndsWithin, part_at, length_all}
use Rattle.elf_raw.proofs.Laid.{rows_length}
use Rattle.elf_raw.proofs.Placed.{IsAt}
use Rattle.elf_raw.proofs.ReadBack.{IsBack, HasTables, read_back, not_refused}
use Rattle.elf_raw.proofs.Sound.{sound}
use Rattle.elf_raw.proofs.RowBytes.{segment_bytes_length, section_bytes_length}

-- where the parts end
pub record Fits (raw : RawElf) (others : List Piece) (size : ℕ) : Type 0 where
  pub header : 52 ≤ size
  pub segments : end_of raw.header.phoff (32 * length raw.segments) ≤ size
  pub sections : end_of raw.header.shoff (40 * length raw.sections) ≤ size
  pub pieces : All (EndsWithin size) others

module _ (raw : RawElf) (pieces : List Piece) (size : ℕ) (is : size ≡ file_end (parts_of raw pieces)) where
  ends : All (EndsWithin size) (parts_of raw pieces)
  ends = λ k d within. omega (arith, is, ends_each 0 (parts_of raw pieces) k d within)

  pub fits : length (header_bytes raw.header) ≡ 52 → Fits raw pieces size
  fits long =
      let d : Piece = record { offset = 0; bytes = header_bytes raw.header } in
      record {
        header = subst (λ n. end_of 0 n ≤ size) long (ends 0 d (omega arith));
        segments = subst (λ n. end_of raw.header.phoff n ≤ size) (rows_length segment_bytes 32 segment_bytes_length raw.segments) (ends 1 d (omega arith));
        sections = subst (λ n. end_of raw.header.shoff n ≤ size) (rows_length section_bytes 40 section_bytes_length raw.sections) (ends 2 d (omega arith));
        pieces = λ k e within. ends (suc (suc (suc k))) e (omega arith);
      }

-- the parts laid into a file of that size
module _ (raw : RawElf) (pieces : List Piece) (zeros : List ℕ) (is : length zeros ≡ file_end (parts_of raw pieces)) where
  length_laid_all : length (fold lay zeros (parts_of raw pieces)) ≡ length zeros
  length_laid_all = length_all (parts_of raw pieces) zeros (ends raw pieces (length zeros) is)

  tables_laid : AllPairs IsApart (parts_of raw pieces) → length (header_bytes raw.header) ≡ 52 → HasTables (fold lay zeros (parts_of raw pieces)) raw
  tables_laid apart long =
      let d : Piece = record { offset = 0; bytes = header_bytes raw.header } in
      let all : All (EndsWithin (length zeros)) (parts_of raw pieces) = ends raw pieces (length zeros) is in
      record {
        whole = omega (arith, length_laid_all, (fits raw pieces (length zeros) is long).header);
        header = part_at (parts_of raw pieces) zeros 0 d all apart (omega arith);
        segments = part_at (parts_of raw pieces) zeros 1 d all apart (omega arith);
        sections = part_at (parts_of raw pieces) zeros 2 d all apart (omega arith);
      }

  piece_laid : AllPairs IsApart (parts_of raw pieces) → (k : ℕ) (d : Piece) → k < length pieces
      → IsAt (fold lay zeros (parts_of raw pieces)) (get_or pieces k d).offset (get_or pieces k d).bytes
  piece_laid apart k d within = part_at (parts_of raw pieces) zeros (suc (suc (suc k))) d (ends raw pieces (length zeros) is) apart (omega arith)

-- bytes that stand in a file, as a part of its list
bytes_there : (file : List ℕ) (at : ℕ) (bytes : List ℕ) → end_of at (length bytes) ≤ length file → IsAt file at bytes → take (length bytes) (drop at file) ≡ bytes
bytes_there file at [] within is = refl
bytes_there file at (byte ∷ bytes) within is =
    let inside : at + length (byte ∷ bytes) ≤ length file = end_within at (length (byte ∷ bytes)) (length file) (omega arith) within in
    let long : length (take (length (byte ∷ bytes)) (drop at file)) ≡ length (byte ∷ bytes) = omega (arith, length-take (length (byte ∷ bytes)) (drop at file), length-drop at file) in
    ext_get_or 0 (take (length (byte ∷ bytes)) (drop at file)) (byte ∷ bytes) long
    (λ k here.
    let below : k < length (byte ∷ bytes) = omega arith in
    get_or-take (length (byte ∷ bytes)) (drop at file) k 0 below ∙ get_or-drop at file k 0 ∙ is.byte k below)

abbrev pub zeros : RawElf → List Piece → List ℕ
zeros raw pieces = replicate (file_end (parts_of raw pieces)) 0

module _ (raw : RawElf) (pieces : List Piece) where
  zeros_length : length (zeros raw pieces) ≡ file_end (parts_of raw pieces)
  zeros_length = length-replicate (file_end (parts_of raw pieces)) 0

  pub file_length : length (file_of raw pieces) ≡ file_end (parts_of raw pieces)
  unfolding file_of
  file_length = length_laid_all raw pieces (zeros raw pieces) zeros_length ∙ zeros_length

  pub file_laid : (empty file : List ℕ) → empty ≡ zeros raw pieces → file ≡ fold lay empty (parts_of raw pieces) → file ≡ file_of raw pieces
  unfolding file_of
  file_laid empty file none all = all ∙ ap (λ (xs : List ℕ). fold lay xs (parts_of raw pieces)) none

  file_tables : AllPairs IsApart (parts_of raw pieces) → length (header_bytes raw.header) ≡ 52 → HasTables (file_of raw pieces) raw
  unfolding file_of
  file_tables = tables_laid raw pieces (zeros raw pieces) zeros_length

  file_piece : AllPairs IsApart (parts_of raw pieces) → (k : ℕ) (d : Piece) → k < length pieces → IsAt (file_of raw pieces) (get_or pieces k d).offset (get_or pieces k d).bytes
  unfolding file_of
  file_piece = piece_laid raw pieces (zeros raw pieces) zeros_length

  module _ (writable : IsWritable raw pieces) where
    pub file_pieces : All (λ piece. take (length piece.bytes) (drop piece.offset (file_of raw pieces)) ≡ piece.bytes) pieces
    file_pieces = λ k d within.
        bytes_there (file_of raw pieces) (get_or pieces k d).offset (get_or pieces k d).bytes
        (omega (arith, file_length, ends raw pieces (length (file_of raw pieces)) file_length (suc (suc (suc k))) d (omega arith)))
        (file_piece writable.placed.apart k d within)

    module _ (back : IsBack raw) where
      taken : IsTaken raw (length (file_of raw pieces))
      taken = subst (IsTaken raw) (sym file_length) writable.taken

      file_read_back : raw_of (file_of raw pieces) ≡ raw
      file_read_back = read_back (file_of raw pieces) raw (file_tables writable.placed.apart back.size) back writable.counted writable.held taken

      file_not_refused : elf_refusal (file_of raw pieces) ≡ None
      file_not_refused =
          let fit : Fits raw pieces (length (file_of raw pieces)) = fits raw pieces (length (file_of raw pieces)) file_length back.size in
          not_refused (file_of raw pieces) raw (file_tables writable.placed.apart back.size) back writable.counted writable.held taken
          (subst (λ n. end_of raw.header.phoff (32 * n) ≤ length (file_of raw pieces)) (sym writable.counted.segments) fit.segments)
          (subst (λ n. end_of raw.header.shoff (40 * n) ≤ length (file_of raw pieces)) (sym writable.counted.sections) fit.sections)

      -- what was written is read as it
      pub file_read : AreTablesOf raw (file_of raw pieces)
      file_read =
          record {
            small = omega (arith, file_length, writable.placed.end);
            same = sym file_read_back;
            taken = file_not_refused;
            sound = sound (file_of raw pieces) file_not_refused;
          }

-- where the tables end, by the header's counts
pub tables_end_is : (raw : RawElf) → IsCounted raw → length (header_bytes raw.header) ≡ 52
    → max (max 52 (end_of raw.header.phoff (32 * raw.header.phnum))) (end_of raw.header.shoff (40 * raw.header.shnum)) ≡ file_end (parts_of raw [])
tables_end_is raw counted long =
    let segments : 32 * raw.header.phnum ≡ length (flat_map segment_bytes raw.segments) =
    ap (λ n. 32 * n) counted.segments ∙ sym (rows_length segment_bytes 32 segment_bytes_length raw.segments) in
    let sections : 40 * raw.header.shnum ≡ length (flat_map section_bytes raw.sections) =
    ap (λ n. 40 * n) counted.sections ∙ sym (rows_length section_bytes 40 section_bytes_length raw.sections) in
    λ i. max (max (max 0 (end_of 0 (sym long i))) (end_of raw.header.phoff (segments i))) (end_of raw.header.shoff (sections i))
