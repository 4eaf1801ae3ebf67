-- What a section has that doesn't offend.
use Rattle.std.proofs.Common.{◌≡◌, ℕ, ◌%◌, ◌<◌, Bool, true, false, List, refl, ap}
use Rattle.std.proofs.lemmas.Bool.{ltb-true}
use Rattle.std.specs.Prelude.{not, nat_lt, ◌&&◌, ◌||◌, ◌==◌}
use Rattle.elf_raw.specs.declared.section.RawSection.{RawSection}
use Rattle.elf_raw.specs.Header.{header_of}
use Rattle.elf_raw.specs.Refusal.{reaches_past, symbols_misfit, symbols_offend, relocations_offend, section_offends}
use Rattle.elf_raw.specs.Sections.{has_no_bytes, section_of}

-- of tests of which none holds
first_fails : (empty past symbols relocations : Bool) → empty ≡ false → ((not empty && past) || symbols || relocations) ≡ false → past ≡ false
first_fails true past symbols relocations is none = absurd (cc is)
first_fails false true symbols relocations is none = absurd (cc none)
first_fails false false symbols relocations is none = refl

pub second_fails : (past symbols relocations : Bool) → (past || symbols || relocations) ≡ false → symbols ≡ false
second_fails true symbols relocations none = absurd (cc none)
second_fails false true relocations none = absurd (cc none)
second_fails false false relocations none = refl

third_fails : (kind size part link strings : Bool) → kind ≡ true → (kind && (size || part || not link || strings)) ≡ false → link ≡ true
third_fails false size part link strings is none = absurd (cc is)
third_fails true true part link strings is none = absurd (cc none)
third_fails true false true link strings is none = absurd (cc none)
third_fails true false false false strings is none = absurd (cc none)
third_fails true false false true strings is none = refl

-- the bytes of a section lie in the file
pub section_held : (bytes : List ℕ) (number : ℕ) → section_offends bytes number ≡ false → has_no_bytes (section_of bytes number).kind ≡ false
    → reaches_past bytes (section_of bytes number).offset (section_of bytes number).size ≡ false
section_held bytes number none some =
    first_fails
    (has_no_bytes (section_of bytes number).kind)
    (reaches_past bytes (section_of bytes number).offset (section_of bytes number).size)
    (symbols_offend bytes (section_of bytes number))
    (relocations_offend (section_of bytes number))
    some
    none

-- the string table of a symbol table is there
pub symbols_linked : (sections : ℕ → RawSection) (count : ℕ) (section : RawSection) → symbols_misfit sections count section ≡ false → section.kind ≡ 2 → section.link < count
symbols_linked sections count section none is =
    ltb-true section.link count
    (third_fails
    (section.kind == 2)
    (not (section.entsize == 16))
    (not (section.size % 16 == 0))
    (nat_lt section.link count)
    (not ((sections section.link).kind == 3))
    (ap (λ (k : ℕ). k == 2) is)
    none)

pub section_linked : (bytes : List ℕ) (number : ℕ) → section_offends bytes number ≡ false → (section_of bytes number).kind ≡ 2
    → (section_of bytes number).link < (header_of bytes).shnum
section_linked bytes number none is = symbols_linked (section_of bytes) (header_of bytes).shnum (section_of bytes number) (second_fails _ _ _ none) is
