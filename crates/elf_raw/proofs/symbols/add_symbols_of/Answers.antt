use Rattle.std.proofs.Common.{◌≡◌, ℕ, ◌<◌, false, List, sym, ap, ◌∙◌, arith}
use Rattle.elf_raw.specs.declared.header.RawHeader.{RawHeader}
use Rattle.elf_raw.specs.declared.section.RawSection.{RawSection}
use Rattle.elf_raw.specs.Header.{header_of}
use Rattle.elf_raw.specs.Refusal.{reaches_past, IsSound}
use Rattle.elf_raw.specs.Sections.{has_no_bytes, section_of}
use Rattle.elf_raw.proofs.symbols.add_symbols_of.Goals as goal

-- what a sound file says of its section with this number, a symbol table
linked : (bytes : List ℕ) (number : ℕ) (section : RawSection) → IsSound bytes → number < (header_of bytes).shnum → section ≡ section_of bytes number → section.kind ≡ 2
    → section.link < (header_of bytes).shnum
linked bytes number section sound within same is =
    let link : section.link ≡ (section_of bytes number).link = ap (λ (s : RawSection). s.link) same in
    omega (arith, link, sound.linked number within (sym (ap (λ (s : RawSection). s.kind) same) ∙ is))

held : (bytes : List ℕ) (number : ℕ) (section : RawSection) → IsSound bytes → number < (header_of bytes).shnum → section ≡ section_of bytes number → section.kind ≡ 2
    → reaches_past bytes section.offset section.size ≡ false
held bytes number section sound within same is =
    let some : has_no_bytes (section_of bytes number).kind ≡ false = ap has_no_bytes (sym (ap (λ (s : RawSection). s.kind) same) ∙ is) in
    ap (λ (s : RawSection). reaches_past bytes s.offset s.size) same ∙ sound.held number within some

pub section_of-strings-requires-clause-number : goal.section_of-strings-requires-clause-number
section_of-strings-requires-clause-number c =
    let bytes : List ℕ = c.args.bytes.now in
    let count : c.args.header.now.shnum ≡ (header_of bytes).shnum = ap (λ (h : RawHeader). h.shnum) c.requires.header in
    let is = c.section_of-section.ensures ∙ ap (section_of bytes) c.from-number.ensures in
    omega (arith, count, linked bytes c.args.number c.section_of-section.result c.requires.sound (omega arith) is c.if-section-ne-SYMBOLS.false)

pub add_symbols-requires-clause-whole : goal.add_symbols-requires-clause-whole
add_symbols-requires-clause-whole c =
    let bytes : List ℕ = c.args.bytes.now in
    let count : c.args.header.now.shnum ≡ (header_of bytes).shnum = ap (λ (h : RawHeader). h.shnum) c.requires.header in
    let is = c.section_of-section.ensures ∙ ap (section_of bytes) c.from-number.ensures in
    held bytes c.args.number c.section_of-section.result c.requires.sound (omega arith) is c.if-section-ne-SYMBOLS.false
