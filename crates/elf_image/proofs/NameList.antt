-- The names of a file are those that its symbols give at the words of its extents.
use Rattle.std.proofs.Common.{◌≡◌, ℕ, ◌≤◌, ◌%◌, ◌&&◌, eqb, List, length, map, take, ap, ◌∙◌}
use Rattle.std.specs.List.{filter}
use Rattle.std.proofs.lemmas.List.{take_all}
use Rattle.std.proofs.lemmas.List.Elements.{filter_agree}
use Rattle.elf_raw.specs.declared.symbol.RawSymbol.{RawSymbol}
use Rattle.elf_raw.specs.Symbols.{symbols_of}
use Rattle.rv_code.specs.declared.extent.Extent.{Extent}
use Rattle.rv_code.specs.declared.image.Name.{Name}
use Rattle.rv_code.specs.Code.{is_code}
use Rattle.elf_image.specs.CodeWords.{extents_in, is_function_at, is_function, name_of, names_of}
use Rattle.elf_image.proofs.CodeAt.{extents_in-is_code}

pub names_in_file : (bytes : List ℕ) (symbols : List RawSymbol) (extents : List Extent) (names : List Name) (index : ℕ) → length symbols ≤ index
    → symbols ≡ symbols_of bytes → extents ≡ extents_in bytes
    → names ≡ map name_of (filter (is_function_at (is_code extents)) (take index symbols)) → names ≡ names_of bytes
names_in_file bytes symbols extents names index all same code is =
    is
    ∙ ap (λ xs. map name_of (filter (is_function_at (is_code extents)) xs)) (take_all index symbols all ∙ same)
    ∙ ap (map name_of)
    (filter_agree (is_function_at (is_code extents)) (is_function bytes)
    (λ symbol.
    ap (λ b. eqb (symbol.info % 16) 2 && b) (ap (λ xs. is_code xs symbol.value) code ∙ extents_in-is_code bytes symbol.value))
    (symbols_of bytes))
