-- What is told of a file behind a call that changed none.
use Rattle.std.proofs.Common.{◌≡◌, ℕ, List, length, Option, None, Some, Ok, refl, ◌∙◌, subst}
use Rattle.std.specs.Prelude.{⊤, MatchOption, IsSome}
use Rattle.std.specs.Option.{option_map}
use Rattle.ae_ports.specs.Files.{Files, IsThere, SameFiles, HasBytes, TellsSize}
use Rattle.ae_top.specs.Inputs.{IsAbsent}

-- what holds of the file of this name, if one is there, where the files are told
abbrev OfName : Option Files → List ℕ → (Option (List ℕ) → Type 0) → Type 0
OfName told name P = MatchOption told ⊤ (λ files. P (files name))

name_before : (P : Option (List ℕ) → Type 0) (before now : Option Files) (name : List ℕ) → SameFiles before now → OfName now name P → OfName before name P
name_before P None now name same is = tt
name_before P (Some before) None name same is = absurd same
name_before P (Some before) (Some now) name same is = subst P (same name) is

pub same_files_both : (before mid now : Option Files) → SameFiles before mid → SameFiles mid now → SameFiles before now
same_files_both None None now first then = then
same_files_both None (Some mid) now first then = absurd first
same_files_both (Some before) None now first then = absurd first
same_files_both (Some before) (Some mid) None first then = absurd then
same_files_both (Some before) (Some mid) (Some now) first then = λ name. then name ∙ first name

-- a file whose size is told is there
there_of : (size : ℕ) (file : Option (List ℕ)) → Some size ≡ option_map length file → IsSome file
there_of size None is = absurd (cc is)
there_of size (Some bytes) is = refl

pub sized_there : (told : Option Files) (name : List ℕ) (size : ℕ) → TellsSize told name (Ok (Some size)) → IsThere told name
sized_there None name size is = tt
sized_there (Some files) name size is = there_of size (files name) is

pub there_before : (before now : Option Files) (name : List ℕ) → SameFiles before now → IsThere now name → IsThere before name
there_before before now name same is = name_before IsSome before now name same is

pub bytes_before : (before now : Option Files) (name bytes : List ℕ) → SameFiles before now → HasBytes now name bytes → HasBytes before name bytes
bytes_before before now name bytes same is = name_before (λ file. file ≡ Some bytes) before now name same is

pub absent_before : (before now : Option Files) (name : List ℕ) → SameFiles before now → IsAbsent now name → IsAbsent before name
absent_before before now name same is = name_before (λ file. file ≡ None) before now name same is

-- each file is as it is
pub same_files : (told : Option Files) → SameFiles told told
same_files None = tt
same_files (Some files) = λ name. refl
