-- Files in a list: where the file of a name stands, and what a change of it leaves.
use Rattle.std.proofs.Common.{◌≡◌, ◌≢◌, ℕ, suc, ◌+◌, ◌<◌, List, [], ◌∷◌, ◌++◌, length, get_or, set, Some, None, Result, Ok, Err, OnOk, OnErr, inl, inr, true, false, subst, refl, sym, ◌∙◌, ap, arith}
use Rattle.std.specs.Option.{option_map}
use Rattle.std.specs.List.{position_from}
use Rattle.std.specs.Str.{bytes_eq}
use Rattle.std.proofs.lemmas.Bool.{cases_Bool}
use Rattle.std.proofs.lemmas.Slice.Eq.{bytes_eq-Decides}
use Rattle.ae_ports.specs.Named.{NamedFiles, file_named, place_named, put_file, grow_file}

-- another name than that of a file
other_name : (file name other : List ℕ) → bytes_eq file name ≡ true → other ≢ name → bytes_eq file other ≡ false
other_name file name other is differs = elim (cases_Bool (bytes_eq file other)) [
  | inl also ↦ absurd (differs (sym ((bytes_eq-Decides file other).0 also) ∙ (bytes_eq-Decides file name).0 is))
  | inr not ↦ not
]

-- the file of this name stands at this place of the list
pub record Stands (files : NamedFiles) (name : List ℕ) (at : ℕ) : Type 0 where
  pub within : at < length files
  pub held : (d : List ℕ × List ℕ) → file_named files name ≡ Some (get_or files at d).1
  pub put : (d : List ℕ × List ℕ) (bytes : List ℕ) → put_file files name bytes ≡ set files at ((get_or files at d).0, bytes)
  pub grown : (d : List ℕ × List ℕ) (bytes : List ℕ) → grow_file files name bytes ≡ set files at ((get_or files at d).0, (get_or files at d).1 ++ bytes)

-- there is no file of this name
pub record IsAbsent (files : NamedFiles) (name : List ℕ) : Type 0 where
  pub held : file_named files name ≡ None
  pub put : (bytes : List ℕ) → put_file files name bytes ≡ files ++ (name, bytes) ∷ []
  pub grown : (bytes : List ℕ) → grow_file files name bytes ≡ files

-- the first file of this name
stands_first : (file : List ℕ × List ℕ) (files : NamedFiles) (name : List ℕ) → bytes_eq file.0 name ≡ true → Stands (file ∷ files) name 0
stands_first file files name here = record {
  within = omega arith;
  held = λ d. rw here refl;
  put = λ d bytes. rw here refl;
  grown = λ d bytes. rw here refl;
}

stands_later : (file : List ℕ × List ℕ) (files : NamedFiles) (name : List ℕ) (at : ℕ) → bytes_eq file.0 name ≡ false → Stands files name at → Stands (file ∷ files) name (suc at)
stands_later file files name at not there = record {
  within = omega (arith, there.within);
  held = λ d. rw not (there.held d);
  put = λ d bytes. rw not (ap (λ (l : NamedFiles). file ∷ l) (there.put d bytes));
  grown = λ d bytes. rw not (ap (λ (l : NamedFiles). file ∷ l) (there.grown d bytes));
}

stands_from : (files : NamedFiles) (name : List ℕ) (start place : ℕ) → position_from (λ file. bytes_eq file.0 name) start files ≡ Some place → (at : ℕ) × (place ≡ start + at) × Stands files name at
stands_from [] name start place is = absurd (cc)
stands_from (file ∷ files) name start place is = elim (cases_Bool (bytes_eq file.0 name)) [
  | inl here ↦ let same : Some start ≡ Some place = rw here at is in (0, grind arith, stands_first file files name here)
  | inr not ↦ let there = stands_from files name (start + 1) place (rw not at is) in
      (suc there.0, omega (arith, there.1), stands_later file files name there.0 not there.2)
]

pub stands : (files : NamedFiles) (name : List ℕ) (place : ℕ) → Some place ≡ place_named files name → Stands files name place
stands files name place is = let from = stands_from files name 0 place (sym is) in let same : from.0 ≡ place = omega (arith, from.1) in subst (Stands files name) same from.2

absent_from : (files : NamedFiles) (name : List ℕ) (start : ℕ) → position_from (λ file. bytes_eq file.0 name) start files ≡ None → IsAbsent files name
absent_from [] name start is = record { held = refl; put = λ bytes. refl; grown = λ bytes. refl }
absent_from (file ∷ files) name start is = elim (cases_Bool (bytes_eq file.0 name)) [
  | inl here ↦ let none : Some start ≡ None = rw here at is in absurd (cc)
  | inr not ↦ let rest = absent_from files name (start + 1) (rw not at is) in
      record {
        held = rw not rest.held;
        put = λ bytes. rw not (ap (λ (l : NamedFiles). file ∷ l) (rest.put bytes));
        grown = λ bytes. rw not (ap (λ (l : NamedFiles). file ∷ l) (rest.grown bytes));
      }
]

pub absent : (files : NamedFiles) (name : List ℕ) → None ≡ place_named files name → IsAbsent files name
absent files name is = absent_from files name 0 (sym is)

pub file_named-put_file : (files : NamedFiles) (name bytes : List ℕ) → file_named (put_file files name bytes) name ≡ Some bytes
file_named-put_file [] name bytes = rw ((bytes_eq-Decides name name).1 refl) refl
file_named-put_file (file ∷ files) name bytes = elim (cases_Bool (bytes_eq file.0 name)) [
  | inl here ↦ rw (here, here) refl
  | inr not ↦ rw (not, not) (file_named-put_file files name bytes)
]

pub file_named-put_other : (files : NamedFiles) (name bytes other : List ℕ) → other ≢ name → file_named (put_file files name bytes) other ≡ file_named files other
file_named-put_other [] name bytes other differs = grind (arith, bytes_eq-Decides name other)
file_named-put_other (file ∷ files) name bytes other differs = elim (cases_Bool (bytes_eq file.0 name)) [
  | inl here ↦ grind (arith, other_name file.0 name other here differs)
  | inr not ↦ grind (arith, file_named-put_other files name bytes other differs)
]

pub file_named-grow_file : (files : NamedFiles) (name bytes : List ℕ) → file_named (grow_file files name bytes) name ≡ option_map (λ had. had ++ bytes) (file_named files name)
file_named-grow_file [] name bytes = refl
file_named-grow_file (file ∷ files) name bytes = elim (cases_Bool (bytes_eq file.0 name)) [
  | inl here ↦ grind arith
  | inr not ↦ grind (arith, file_named-grow_file files name bytes)
]

pub file_named-grow_other : (files : NamedFiles) (name bytes other : List ℕ) → other ≢ name → file_named (grow_file files name bytes) other ≡ file_named files other
file_named-grow_other [] name bytes other differs = refl
file_named-grow_other (file ∷ files) name bytes other differs = elim (cases_Bool (bytes_eq file.0 name)) [
  | inl here ↦ grind (arith, other_name file.0 name other here differs)
  | inr not ↦ grind (arith, file_named-grow_other files name bytes other differs)
]

-- what a put leaves under the name
pub put_holds : {E : Type 0} (result : Result (Unit {0}) E) (before now : NamedFiles) (name bytes : List ℕ) → OnOk result (now ≡ put_file before name bytes) → OnOk result (file_named now name ≡ Some bytes)
put_holds (Ok _) before now name bytes ok = rw ok (file_named-put_file before name bytes)
put_holds (Err _) before now name bytes ok = tt

-- what a put leaves under another name
pub put_keeps : {E : Type 0} (result : Result (Unit {0}) E) (before now : NamedFiles) (name bytes other : List ℕ) → OnOk result (now ≡ put_file before name bytes) → OnErr result (now ≡ before) → other ≢ name → file_named now other ≡ file_named before other
put_keeps (Ok _) before now name bytes other ok err differs = rw ok (file_named-put_other before name bytes other differs)
put_keeps (Err _) before now name bytes other ok err differs = rw err refl
