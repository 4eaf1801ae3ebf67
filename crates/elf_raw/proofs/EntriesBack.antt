-- Symbols, names and relocations are read back where their bytes stand.
use Rattle.std.proofs.Common.{◌≡◌, ◌≢◌, ℕ, zero, suc, ◌+◌, ◌*◌, ◌/◌, ◌<◌, Bool, cond, List, [], ◌∷◌, ◌++◌, length, take, drop, get_or, Option, Some, refl, sym, ap, ◌∙◌, append_assoc, arith, length-append}
use Rattle.std.proofs.lemmas.Bool.{ne_eqb}
use Rattle.std.proofs.lemmas.Int.{to_z-of_z}
use Rattle.std.proofs.lemmas.List.{drop_at, get_or-drop, get_or-take}
use Rattle.std.proofs.lemmas.List.FromFn.{fill_by_all}
use Rattle.std.specs.Int.{cast_signed, cast_unsigned, w32}
use Rattle.std.specs.List.{All, AllByRecursion, flat_map}
use Rattle.std.specs.Option.{option_map}
use mir.ValLaws.{of_z_fits}
use Rattle.elf_raw.specs.declared.relocation.RawRelocation.{RawRelocation}
use Rattle.elf_raw.specs.declared.section.RawSection.{RawSection}
use Rattle.elf_raw.specs.declared.symbol.RawSymbol.{RawSymbol}
use Rattle.elf_raw.specs.Entries.{symbol_bytes, relocation_bytes, name_bytes, symbol_table, relocation_table, string_table, AreNamedFrom, AreSymbolsIn, AreNamesIn, AreRelocationsIn}
use Rattle.elf_raw.specs.Inner.Fits.{SymbolFits, RelocationFits}
use Rattle.elf_raw.specs.Names.{before_zero, or_empty, name_in}
use Rattle.elf_raw.specs.Numbers.{word_at}
use Rattle.elf_raw.specs.Relocations.{relocation_at, relocation_of}
use Rattle.elf_raw.specs.Symbols.{symbol_at, symbol_of}
use Rattle.elf_raw.proofs.HeaderBytes.{half_back, word_back}
use Rattle.elf_raw.proofs.Laid.{rows_length}
use Rattle.elf_raw.proofs.Placed.{IsAt, number_at}
use Rattle.elf_raw.proofs.RowsAt.{row_at}

-- bytes that are a part of a file's list stand there
stands_at : (file : List ℕ) (offset : ℕ) (table : List ℕ) → take (length table) (drop offset file) ≡ table → IsAt file offset table
stands_at file offset table same =
    record {
      byte = λ k here.
          sym (get_or-drop offset file k 0) ∙ sym (get_or-take (length table) (drop offset file) k 0 here) ∙ ap (λ (xs : List ℕ). get_or xs k 0) same;
    }

symbol_there : (file : List ℕ) (at number : ℕ) (strings : RawSection) (symbol : RawSymbol) → SymbolFits symbol → IsAt file at (symbol_bytes symbol) → symbol.section ≡ number
    → name_in file strings symbol.name ≡ symbol.text → symbol_at file number strings at ≡ symbol
symbol_there file at number strings symbol fits is own named =
    let name = number_at file at (symbol_bytes symbol) is 4 at 0 (omega arith) (omega arith) ∙ word_back symbol.name fits.name in
    let value = number_at file at (symbol_bytes symbol) is 4 (at + 4) 4 refl (omega arith) ∙ word_back symbol.value fits.value in
    let size = number_at file at (symbol_bytes symbol) is 4 (at + 8) 8 refl (omega arith) ∙ word_back symbol.size fits.size in
    let info = is.byte 12 (omega arith) in
    let other = is.byte 13 (omega arith) in
    let shndx = number_at file at (symbol_bytes symbol) is 2 (at + 14) 14 refl (omega arith) ∙ half_back symbol.shndx fits.shndx in
    let text : name_in file strings (word_at file at) ≡ symbol.text = ap (name_in file strings) name ∙ named in
    λ i.
    record {
      section = sym own i;
      name = name i;
      value = value i;
      size = size i;
      info = info i;
      other = other i;
      shndx = shndx i;
      text = text i;
    }

relocation_there : (file : List ℕ) (at number : ℕ) (relocation : RawRelocation) → RelocationFits relocation → IsAt file at (relocation_bytes relocation) → relocation.section ≡ number
    → relocation_at file number at ≡ relocation
relocation_there file at number relocation fits is own =
    let offset = number_at file at (relocation_bytes relocation) is 4 at 0 (omega arith) (omega arith) ∙ word_back relocation.offset fits.offset in
    let info = number_at file at (relocation_bytes relocation) is 4 (at + 4) 4 refl (omega arith) ∙ word_back relocation.info fits.info in
    let bits = number_at file at (relocation_bytes relocation) is 4 (at + 8) 8 refl (omega arith)
    ∙ word_back (cast_unsigned w32 relocation.addend) (of_z_fits w32 relocation.addend fits.addend).fits in
    let addend : cast_signed w32 (word_at file (at + 8)) ≡ relocation.addend = ap (cast_signed w32) bits ∙ to_z-of_z w32 relocation.addend fits.addend in
    λ i. record { section = sym own i; offset = offset i; info = info i; addend = addend i }

pub symbols_in_table : (symbols : List RawSymbol) → All SymbolFits symbols → AreSymbolsIn (symbol_table symbols) symbols
symbols_in_table symbols fits = λ file sections number stands own named.
    let section : RawSection = sections number in
    let is = stands_at file section.offset (symbol_table symbols) stands.bytes in
    let size = rows_length symbol_bytes 16 (λ symbol. refl) symbols in
    let count : length symbols ≡ section.size / 16 = omega (arith, size, stands.size) in
    sym
    (fill_by_all (symbol_of file sections number section) symbols (section.size / 16) (symbol_of file sections number section 0) count
    (λ k below.
    let d : RawSymbol = symbol_of file sections number section 0 in
    let left : k < length symbols = omega arith in
    let row = row_at symbol_bytes 16 (λ symbol. refl) file section.offset symbols is k d left (omega arith) in
    sym (symbol_there file (section.offset + 16 * k) number (sections section.link) (get_or symbols k d) (fits k d left) row (own k d left) (named k d left))))

pub relocations_in_table : (relocations : List RawRelocation) → All RelocationFits relocations → AreRelocationsIn (relocation_table relocations) relocations
relocations_in_table relocations fits = λ file section number stands own.
    let is = stands_at file section.offset (relocation_table relocations) stands.bytes in
    let size = rows_length relocation_bytes 12 (λ relocation. refl) relocations in
    let count : length relocations ≡ section.size / 12 = omega (arith, size, stands.size) in
    sym
    (fill_by_all (relocation_of file number section) relocations (section.size / 12) (relocation_of file number section 0) count
    (λ k below.
    let d : RawRelocation = relocation_of file number section 0 in
    let left : k < length relocations = omega arith in
    let row = row_at relocation_bytes 12 (λ relocation. refl) file section.offset relocations is k d left (omega arith) in
    sym (relocation_there file (section.offset + 12 * k) number (get_or relocations k d) (fits k d left) row (own k d left))))

-- a name ends at the zero behind it
name_ends : (text rest : List ℕ) → AllByRecursion (λ byte. byte ≢ 0) text → before_zero (text ++ 0 ∷ rest) ≡ Some text
name_ends [] rest some = refl
name_ends (byte ∷ text) rest some =
    ap (λ (t : Bool). cond t (Some []) (option_map (λ more. byte ∷ more) (before_zero (text ++ 0 ∷ rest)))) (ne_eqb byte 0 some.0)
    ∙ ap (λ (o : Option (List ℕ)). option_map (λ more. byte ∷ more) o) (name_ends text rest some.1)

-- each of the names behind a front
name_there : (front : List ℕ) (place : ℕ) (symbols : List RawSymbol) → length front ≡ place → AreNamedFrom place symbols → (k : ℕ) (d : RawSymbol) → k < length symbols
    → or_empty (before_zero (drop (get_or symbols k d).name (front ++ flat_map name_bytes symbols))) ≡ (get_or symbols k d).text
name_there front place [] long named k d within = absurd (omega arith)
name_there front place (symbol ∷ symbols) long named zero d within =
    ap (λ n. or_empty (before_zero (drop n (front ++ flat_map name_bytes (symbol ∷ symbols))))) named.0
    ∙ ap (λ (xs : List ℕ). or_empty (before_zero xs))
    (drop_at front (flat_map name_bytes (symbol ∷ symbols)) place long ∙ append_assoc symbol.text (0 ∷ []) (flat_map name_bytes symbols))
    ∙ ap or_empty (name_ends symbol.text (flat_map name_bytes symbols) named.1)
name_there front place (symbol ∷ symbols) long named (suc k) d within =
    let longer : length (front ++ name_bytes symbol) ≡ place + length symbol.text + 1 = omega (arith, length-append front (name_bytes symbol), length-append symbol.text (0 ∷ [])) in
    ap (λ (xs : List ℕ). or_empty (before_zero (drop (get_or symbols k d).name xs))) (sym (append_assoc front (name_bytes symbol) (flat_map name_bytes symbols)))
    ∙ name_there (front ++ name_bytes symbol) (place + length symbol.text + 1) symbols longer named.2 k d (omega arith)

pub names_in_table : (symbols : List RawSymbol) → AreNamesIn (string_table symbols) symbols
names_in_table symbols = λ file strings same named k d within.
    ap (λ (xs : List ℕ). or_empty (before_zero (drop (get_or symbols k d).name xs))) same ∙ name_there (0 ∷ []) 1 symbols refl named k d within
