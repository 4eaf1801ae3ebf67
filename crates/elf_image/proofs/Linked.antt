-- The sections of a file by their numbers, and the symbol tables that relocations link.
use Rattle.std.proofs.Common.{◌≡◌, ℕ, ◌+◌, ◌*◌, ◌/◌, ◌<◌, ◌≤◌, true, false, ◌&&◌, eqb, ltb, List, length, get_or, sym, ap, ◌∙◌, arith}
use Rattle.std.proofs.lemmas.Bool.{and_parts, lt-ltb, le-ltb, ltb-true, eqb-true}
use Rattle.std.proofs.lemmas.List.FromFn.{get_or-map-range_with_len, length-map-range_with_len}
use Rattle.elf_raw.specs.declared.relocation.RawRelocation.{RawRelocation}
use Rattle.elf_raw.specs.declared.section.RawSection.{RawSection}
use Rattle.elf_raw.specs.Header.{header_of}
use Rattle.elf_raw.specs.Refusal.{reaches_past, IsSound}
use Rattle.elf_raw.specs.Sections.{has_no_bytes, section_of, sections_of}
use Rattle.elf_raw.proofs.LawsOfPieces.{passes-within}
use Rattle.elf_image.specs.Named.{linked, symbol_number, has_entry, has_symbol}

pub section_count : (bytes : List ℕ) (sections : List RawSection) → sections ≡ sections_of bytes → length sections ≡ (header_of bytes).shnum
section_count bytes sections same = ap length same ∙ length-map-range_with_len (section_of bytes) 0 (header_of bytes).shnum

pub section_at : (bytes : List ℕ) (sections : List RawSection) (number : ℕ) (d : RawSection) → sections ≡ sections_of bytes → number < length sections
    → get_or sections number d ≡ section_of bytes number
section_at bytes sections number d same inside =
    let count = section_count bytes sections same in
    ap (λ xs. get_or xs number d) same
    ∙ get_or-map-range_with_len (section_of bytes) 0 (header_of bytes).shnum number number d (omega arith) (omega arith)

pub link_at : (bytes : List ℕ) (sections : List RawSection) (relocation : RawRelocation) (d : RawSection) → sections ≡ sections_of bytes → relocation.section < length sections
    → (get_or sections relocation.section d).link ≡ linked bytes relocation
link_at bytes sections relocation d same inside = ap (λ (s : RawSection). s.link) (section_at bytes sections relocation.section d same inside)

pub has_symbol_there : (bytes : List ℕ) (sections : List RawSection) (relocation : RawRelocation) (d e : RawSection) → sections ≡ sections_of bytes → relocation.section < length sections
    → (get_or sections relocation.section d).link < length sections
    → has_entry (get_or sections (get_or sections relocation.section d).link e) (relocation.info / 256) ≡ has_symbol bytes relocation
has_symbol_there bytes sections relocation d e same own inside =
    let link : ℕ = (get_or sections relocation.section d).link in
    let is : (get_or sections relocation.section d).link ≡ linked bytes relocation = link_at bytes sections relocation d same own in
    let within : ltb (linked bytes relocation) (header_of bytes).shnum ≡ true =
    lt-ltb (linked bytes relocation) (header_of bytes).shnum (omega (arith, is, inside, section_count bytes sections same))
    in
    ap (λ s. has_entry s (relocation.info / 256)) (section_at bytes sections (get_or sections relocation.section d).link e same inside)
    ∙ ap (λ n. has_entry (section_of bytes n) (relocation.info / 256)) is
    ∙ ap (λ b. b && has_entry (section_of bytes (linked bytes relocation)) (relocation.info / 256)) (sym within)

pub has_symbol_nowhere : (bytes : List ℕ) (sections : List RawSection) (relocation : RawRelocation) (d : RawSection) → sections ≡ sections_of bytes → relocation.section < length sections
    → length sections ≤ (get_or sections relocation.section d).link → ltb (get_or sections relocation.section d).link (length sections) ≡ has_symbol bytes relocation
has_symbol_nowhere bytes sections relocation d same own past =
    let is = link_at bytes sections relocation d same own in
    let without : ltb (linked bytes relocation) (header_of bytes).shnum ≡ false =
    le-ltb (linked bytes relocation) (header_of bytes).shnum (omega (arith, is, past, section_count bytes sections same))
    in
    le-ltb (get_or sections relocation.section d).link (length sections) past
    ∙ ap (λ b. b && has_entry (section_of bytes (linked bytes relocation)) (relocation.info / 256)) (sym without)

-- what is known of the table of a symbol that is there
pub record IsTable (bytes : List ℕ) (sections : List RawSection) (relocation : RawRelocation) (own : RawSection) : Type 0 where
  pub inside : own.link < length sections
  pub is : own.link ≡ linked bytes relocation
  pub held : (section_of bytes (linked bytes relocation)).offset + 16 * (relocation.info / 256) + 16 ≤ length bytes

entry_within : (bytes : List ℕ) (offset size number : ℕ) → reaches_past bytes offset size ≡ false → number < size / 16 → offset + 16 * number + 16 ≤ length bytes
entry_within bytes offset size number whole inside =
    let within = passes-within (length bytes) offset size whole (omega (arith, inside)) in
    omega (arith, within, inside)

pub table_of : (bytes : List ℕ) (sections : List RawSection) (relocation : RawRelocation) (d : RawSection) → IsSound bytes → sections ≡ sections_of bytes → relocation.section < length sections
    → has_symbol bytes relocation ≡ true → IsTable bytes sections relocation (get_or sections relocation.section d)
table_of bytes sections relocation d sound same own there =
    let is = link_at bytes sections relocation d same own in
    let parts = and_parts (ltb (linked bytes relocation) (header_of bytes).shnum) (has_entry (section_of bytes (linked bytes relocation)) (symbol_number relocation)) there in
    let below : linked bytes relocation < (header_of bytes).shnum = ltb-true (linked bytes relocation) (header_of bytes).shnum parts.0 in
    let entry = and_parts (eqb (section_of bytes (linked bytes relocation)).kind 2) (ltb (symbol_number relocation) ((section_of bytes (linked bytes relocation)).size / 16)) parts.1 in
    let some = ap has_no_bytes (eqb-true (section_of bytes (linked bytes relocation)).kind 2 entry.0) in
    record {
      inside = omega (arith, is, below, section_count bytes sections same);
      is = is;
      held = entry_within bytes (section_of bytes (linked bytes relocation)).offset (section_of bytes (linked bytes relocation)).size (relocation.info / 256) (sound.held (linked bytes relocation) below some)
          (ltb-true (symbol_number relocation) ((section_of bytes (linked bytes relocation)).size / 16) entry.1);
    }

-- the table, where it stands among the sections
pub table_at : (bytes : List ℕ) (sections : List RawSection) (relocation : RawRelocation) (own d : RawSection) → sections ≡ sections_of bytes → IsTable bytes sections relocation own
    → get_or sections own.link d ≡ section_of bytes (linked bytes relocation)
table_at bytes sections relocation own d same table = section_at bytes sections own.link d same table.inside ∙ ap (section_of bytes) table.is

-- the value of the table's entry lies in the file
pub value_held : (bytes : List ℕ) (sections : List RawSection) (relocation : RawRelocation) (own d : RawSection) → sections ≡ sections_of bytes → IsTable bytes sections relocation own
    → (get_or sections own.link d).offset + 16 * (relocation.info / 256) + 4 + 4 ≤ length bytes
value_held bytes sections relocation own d same table =
    let offset = ap (λ (s : RawSection). s.offset) (table_at bytes sections relocation own d same table) in
    omega (arith, table.held, offset)
