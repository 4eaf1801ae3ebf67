-- How contracts see a table from names' texts to addresses: as the list of the names.
use Rattle.std.specs.Prelude.{ℕ, Bool, List, [], ◌∷◌, ◌++◌, map, if◌then◌else◌}
use Rattle.std.specs.List.{list_any}
use Rattle.std.specs.Str.{bytes_eq}
use Rattle.rv_code.specs.declared.image.Name.{Name}

abbrev pub name_by : {K : Type 0} → (K → List ℕ) → K × ℕ → Name
name_by text entry = record { address = entry.1; text = text entry.0 }

abbrev pub names_by : {K : Type 0} → (K → List ℕ) → List (K × ℕ) → List Name
names_by text entries = map (name_by text) entries

abbrev pub has_name : List Name → (text : List ℕ) → Bool
has_name names text = list_any (λ (name : Name). bytes_eq text name.text) names

-- the names, and one more behind them unless its text is there
abbrev pub with_name : List Name → Name → List Name
with_name names name = names ++ (if has_name names name.text then [] else name ∷ [])
