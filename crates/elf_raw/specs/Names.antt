-- Names in a string table (System V ABI, chapter 4, "String Table"): a name runs from its place to the next zero byte. A
-- name that reaches outside its table is empty: this project's own.
use Rattle.std.specs.Prelude.{ℕ, ◌-◌, List, [], ◌∷◌, drop, take, ◌==◌, if◌then◌else◌, Option, None, Some}
use Rattle.std.specs.Option.{option_map}
use Rattle.elf_raw.specs.declared.section.RawSection.{RawSection}

-- the bytes before the first zero, none where there is no zero
abbrev pub before_zero : List ℕ → Option (List ℕ)
before_zero [] = None
before_zero (byte ∷ bytes) = if byte == 0 then Some [] else option_map (λ more. byte ∷ more) (before_zero bytes)

abbrev pub or_empty : Option (List ℕ) → List ℕ
or_empty None = []
or_empty (Some name) = name

-- the bytes of a string table
abbrev pub strings_of : List ℕ → RawSection → List ℕ
strings_of bytes table = take (table.span.to - table.span.from) (drop table.span.from bytes)

-- the name at this place of a string table
abbrev pub name_in : List ℕ → RawSection → ℕ → List ℕ
name_in bytes table place = or_empty (before_zero (drop place (strings_of bytes table)))
