-- A list of files, each a name and its bytes. The first of a name is the file of that name.
use Rattle.std.specs.Prelude.{ℕ, List, [], ◌∷◌, ◌++◌, Option, None, Some, if◌then◌else◌}
use Rattle.std.specs.List.{position_from}
use Rattle.std.specs.Str.{bytes_eq}

-- each file's name and bytes
abbrev pub NamedFiles : Type 0
NamedFiles = List (List ℕ × List ℕ)

-- the bytes of the file of this name
abbrev pub file_named : NamedFiles → List ℕ → Option (List ℕ)
file_named [] name = None
file_named (file ∷ files) name = if bytes_eq file.0 name then Some file.1 else file_named files name

-- where the file of this name stands in the list
abbrev pub place_named : NamedFiles → List ℕ → Option ℕ
place_named files name = position_from (λ file. bytes_eq file.0 name) 0 files

-- these bytes in place of those that the file of this name had; a new file at the end where there was none
abbrev pub put_file : NamedFiles → List ℕ → List ℕ → NamedFiles
put_file [] name bytes = (name, bytes) ∷ []
put_file (file ∷ files) name bytes = if bytes_eq file.0 name then (file.0, bytes) ∷ files else file ∷ put_file files name bytes

-- these bytes behind those that the file of this name had
abbrev pub grow_file : NamedFiles → List ℕ → List ℕ → NamedFiles
grow_file [] name bytes = []
grow_file (file ∷ files) name bytes = if bytes_eq file.0 name then (file.0, file.1 ++ bytes) ∷ files else file ∷ grow_file files name bytes
