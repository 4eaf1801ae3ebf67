-- A file of which no refusal holds.
use Rattle.std.proofs.Common.{◌≡◌, ℕ, zero, suc, ◌+◌, ◌*◌, ◌/◌, ◌%◌, ◌<◌, ◌≤◌, Bool, true, false, List, length, take, get_or, Option, None, Some, refl, sym, ap, ◌∙◌, arith}
use Rattle.std.proofs.lemmas.Bool.{cond-false, le-ltb, eq-eqb, and_right, or_from, not_from_true}
use Rattle.std.proofs.lemmas.List.{take-take, get_or-take}
use Rattle.std.specs.List.{find, range_with_len}
use Rattle.std.specs.Option.{option_map, option_or}
use Rattle.std.specs.Prelude.{not, nat_lt, ◌&&◌, ◌||◌, ◌==◌, slice_index}
use Rattle.std.specs.Str.{bytes_eq}
use Rattle.elf_raw.specs.declared.fault.ElfFault.TheVariants.{BadTable}
use Rattle.elf_raw.specs.declared.header.RawHeader.{RawHeader}
use Rattle.elf_raw.specs.Header.{header_of}
use Rattle.elf_raw.specs.Refusal.{magic, passes, has_magic, segment_offends, section_offends, bad_segment, bad_section, bad_table, flag, table_refusal, elf_refusal}
use Rattle.elf_raw.specs.Segments.{segment_offset}
use Rattle.elf_raw.specs.Sections.{section_offset}
use Rattle.elf_raw.specs.declared.raw.RawElf.{RawElf}
use Rattle.elf_raw.specs.Writable.{IsTaken}
use Rattle.elf_raw.specs.Written.{end_of}
use Rattle.elf_raw.proofs.Ends.{end_within}
use Rattle.elf_raw.proofs.LawsOfPieces.{within-passes}

pub not_past : (end offset size : ℕ) → end_of offset size ≤ end → passes end offset size ≡ false
not_past end offset size within = within-passes end offset size (λ some. end_within offset size end some within)

pub none_bad : (p : ℕ → Bool) (from count : ℕ) → ((k : ℕ) → k < count → p (from + k) ≡ false) → find p (range_with_len from count) ≡ None
none_bad p from zero none = refl
none_bad p from (suc count) none =
    let here : from ≡ from + 0 = omega arith in
    cond-false (p from) (Some from) (find p (range_with_len (from + 1) count)) (ap p here ∙ none 0 (omega arith))
    ∙ none_bad p (from + 1) count
    (λ k below.
    let there : from + 1 + k ≡ from + suc k = omega arith in
    ap p there ∙ none (suc k) (omega arith))

is_number : (m n : ℕ) → m ≡ n → not (m == n) ≡ false
is_number m n is = not_from_true (m == n) (eq-eqb m n is)

some_sized : (count size want : ℕ) → (0 < count → size ≡ want) → (not (count == 0) && not (size == want)) ≡ false
some_sized zero size want sized = refl
some_sized (suc count) size want sized = and_right (not (suc count == 0)) (not (size == want)) (is_number size want (sized (omega arith)))

flag_clear : (flags bit : ℕ) → flags / bit % 2 ≡ 0 → (flags / bit % 2 == 1) ≡ false
flag_clear flags bit clear = ap (λ n. n == 1) clear

none_of_both : (one other : Option ℕ) → one ≡ None → other ≡ None → option_or one other ≡ None
none_of_both None other one two = two
none_of_both (Some x) other one two = absurd (cc one)

-- the file's fields are those of the header
module _ (bytes : List ℕ) (header : RawHeader) (same : header_of bytes ≡ header) where
  front : take 16 bytes ≡ header.ident
  front = ap (λ (h : RawHeader). h.ident) same

  magic_there : has_magic header.ident ≡ true → has_magic bytes ≡ true
  magic_there is = ap (λ (xs : List ℕ). bytes_eq xs magic) (sym (take-take 4 16 bytes (omega arith))) ∙ ap has_magic front ∙ is

  ident_there : (k : ℕ) → k < 16 → get_or bytes k 0 ≡ get_or header.ident k 0
  ident_there k below = sym (get_or-take 16 bytes k 0 below) ∙ ap (λ (xs : List ℕ). get_or xs k 0) front

module _ (bytes : List ℕ) (raw : RawElf) (same : header_of bytes ≡ raw.header) (is : IsTaken raw (length bytes)) where
  pub tables_taken : end_of raw.header.phoff (32 * raw.header.phnum) ≤ length bytes → end_of raw.header.shoff (40 * raw.header.shnum) ≤ length bytes
      → ((k : ℕ) → k < raw.header.phnum → segment_offends bytes k ≡ false) → ((k : ℕ) → k < raw.header.shnum → section_offends bytes k ≡ false) → bad_table bytes ≡ None
  tables_taken segments_end sections_end segments sections =
      let phnum : (header_of bytes).phnum ≡ raw.header.phnum = ap (λ (h : RawHeader). h.phnum) same in
      let shnum : (header_of bytes).shnum ≡ raw.header.shnum = ap (λ (h : RawHeader). h.shnum) same in
      let phoff : (header_of bytes).phoff ≡ raw.header.phoff = ap (λ (h : RawHeader). h.phoff) same in
      let shoff : (header_of bytes).shoff ≡ raw.header.shoff = ap (λ (h : RawHeader). h.shoff) same in
      let no_segment : bad_segment bytes ≡ None =
      ap (option_map (segment_offset bytes)) (none_bad (segment_offends bytes) 0 (header_of bytes).phnum (λ k below. let there : 0 + k ≡ k = omega arith in ap (segment_offends bytes) there ∙ segments k (omega arith))) in
      let no_section : bad_section bytes ≡ None =
      ap (option_map (section_offset bytes)) (none_bad (section_offends bytes) 0 (header_of bytes).shnum (λ k below. let there : 0 + k ≡ k = omega arith in ap (section_offends bytes) there ∙ sections k (omega arith))) in
      cond-false _ _ _ ((λ i. not (phnum i == 0) && not ((same i).phentsize == 32)) ∙ some_sized raw.header.phnum raw.header.phentsize 32 is.phentsize)
      ∙ cond-false _ _ _ ((λ i. passes (length bytes) (phoff i) (32 * phnum i)) ∙ not_past (length bytes) raw.header.phoff (32 * raw.header.phnum) segments_end)
      ∙ cond-false _ _ _ ((λ i. not (shnum i == 0) && not ((same i).shentsize == 40)) ∙ some_sized raw.header.shnum raw.header.shentsize 40 is.shentsize)
      ∙ cond-false _ _ _ ((λ i. passes (length bytes) (shoff i) (40 * shnum i)) ∙ not_past (length bytes) raw.header.shoff (40 * raw.header.shnum) sections_end)
      ∙ none_of_both (bad_segment bytes) (bad_section bytes) no_segment no_section

  flags_clear : (bit : ℕ) → raw.header.flags / bit % 2 ≡ 0 → flag bytes bit ≡ false
  flags_clear bit clear = ap (λ (h : RawHeader). h.flags / bit % 2 == 1) same ∙ flag_clear raw.header.flags bit clear

  header_taken : bad_table bytes ≡ None → table_refusal bytes ≡ None
  header_taken tables =
      let flags = is.flags in
      cond-false _ _ _ (is_number (header_of bytes).kind 2 (ap (λ (h : RawHeader). h.kind) same ∙ is.kind))
      ∙ cond-false _ _ _ (is_number (header_of bytes).machine 243 (ap (λ (h : RawHeader). h.machine) same ∙ is.machine))
      ∙ cond-false _ _ _ (flags_clear 1 (omega arith))
      ∙ cond-false _ _ _ (or_from (flag bytes 2 || flag bytes 4) (flag bytes 8) (or_from (flag bytes 2) (flag bytes 4) (flags_clear 2 (omega arith)) (flags_clear 4 (omega arith))) (flags_clear 8 (omega arith)))
      ∙ ap (option_map BadTable) tables

  pub file_taken : 52 ≤ length bytes → bad_table bytes ≡ None → elf_refusal bytes ≡ None
  file_taken whole tables =
      cond-false _ _ _ (or_from (nat_lt (length bytes) 52) (not (has_magic bytes)) (le-ltb (length bytes) 52 whole) (not_from_true (has_magic bytes) (magic_there bytes raw.header same is.magic)))
      ∙ cond-false _ _ _
      (or_from (not (slice_index bytes 4 == 1)) (not (slice_index bytes 5 == 1))
      (is_number (slice_index bytes 4) 1 (ident_there bytes raw.header same 4 (omega arith) ∙ is.class))
      (is_number (slice_index bytes 5) 1 (ident_there bytes raw.header same 5 (omega arith) ∙ is.order)))
      ∙ header_taken tables
