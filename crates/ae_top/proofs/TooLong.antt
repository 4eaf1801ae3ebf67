-- Why a file isn't read, by its size.
use Rattle.std.proofs.Common.{◌≡◌, ℕ, ◌≤◌, ◌<◌, true, List, [], length, arith, Option, None, Some, Ok, refl, ap}
use Rattle.std.proofs.lemmas.Bool.Decides.{nat_tests}
use Rattle.std.proofs.lemmas.List.{length-replicate}
use Rattle.std.specs.Prelude.{nat_lt, if◌then◌else◌, replicate}
use Rattle.std.specs.Option.{option_map}
use Rattle.ae_ports.specs.Files.{Files, TellsSize}
use Rattle.elf_image.specs.declared.fault.ImageFault.TheVariants.{TooLarge}
use Rattle.elf_image.specs.declared.fault.Over.TheVariants.{File}
use Rattle.elf_raw.specs.declared.limits.TheConstants.{FILE_LIMIT}
use Rattle.elf_raw.specs.Refusal.{elf_refusal}
use Rattle.ae_top.specs.declared.inputs.NotRead.{NotRead}
use Rattle.ae_top.specs.Inputs.{IsAbsent, IsNotRead}
use Rattle.ae_top.specs.declared.no_file.NoFile.{NoFile}
use Rattle.ae_top.specs.declared.no_file.NotTaken.{NotTaken}
use Rattle.ae_top.specs.declared.refusal.Refusal.TheVariants.{Elf, Image}
use Rattle.ae_top.specs.NoFile.{Lacks}
use Rattle.ae_top.specs.Refusing.{tables_refusal}

refused : (bytes : List ℕ) → FILE_LIMIT < length bytes → tables_refusal bytes ≡ Some (Image (TooLarge File))
refused bytes long =
    let over : nat_lt FILE_LIMIT (length bytes) ≡ true = grind (arith, nat_tests) in
    ap (λ t. if t then Some (Image (TooLarge File)) else option_map Elf (elf_refusal bytes)) over

pub too_long : (told : Option Files) (name : List ℕ) (size : ℕ) → TellsSize told name (Ok (Some size)) → FILE_LIMIT < size
    → Lacks tables_refusal told name (NoFile.NotTaken (NotTaken.Refused (Image (TooLarge File))))
too_long None name size tells long = (replicate size 0, tt, refused (replicate size 0) (omega (arith, long, length-replicate {A = ℕ} size 0)))
too_long (Some files) name size tells long = go (files name) refl tells
  where
    go : (file : Option (List ℕ)) → files name ≡ file → Some size ≡ option_map length file → Lacks tables_refusal (Some files) name (NoFile.NotTaken (NotTaken.Refused (Image (TooLarge File))))
    go None is tells = absurd (cc tells)
    go (Some bytes) is tells = let same : size ≡ length bytes = cc in (bytes, is, refused bytes (omega (arith, same, long)))

pub no_room : (told : Option Files) (name : List ℕ) (size : ℕ) → TellsSize told name (Ok (Some size)) → size ≤ FILE_LIMIT
    → Lacks tables_refusal told name (NoFile.NotTaken NotTaken.NoMemory)
no_room None name size tells small = ([], tt, omega arith)
no_room (Some files) name size tells small = go (files name) refl tells
  where
    go : (file : Option (List ℕ)) → files name ≡ file → Some size ≡ option_map length file → Lacks tables_refusal (Some files) name (NoFile.NotTaken NotTaken.NoMemory)
    go None is tells = absurd (cc tells)
    go (Some bytes) is tells = let same : size ≡ length bytes = cc in (bytes, is, omega (arith, same, small))

pub missing : (told : Option Files) (name : List ℕ) → TellsSize told name (Ok None) → Lacks tables_refusal told name NoFile.Missing
missing None name tells = tt
missing (Some files) name tells = go (files name) tells
  where
    go : (file : Option (List ℕ)) → None ≡ option_map length file → file ≡ None
    go None is = refl
    go (Some bytes) is = absurd (cc is)

-- the same of any file that a command reads, and its limit
pub longer : (told : Option Files) (name : List ℕ) (size limit : ℕ) → TellsSize told name (Ok (Some size)) → limit < size → IsNotRead told name limit NotRead.TooLong
longer None name size limit tells long = (replicate size 0, tt, omega (arith, long, length-replicate {A = ℕ} size 0))
longer (Some files) name size limit tells long = go (files name) refl tells
  where
    go : (file : Option (List ℕ)) → files name ≡ file → Some size ≡ option_map length file → IsNotRead (Some files) name limit NotRead.TooLong
    go None is tells = absurd (cc tells)
    go (Some bytes) is tells = let same : size ≡ length bytes = cc in (bytes, is, omega (arith, same, long))

pub no_room_for : (told : Option Files) (name : List ℕ) (size limit : ℕ) → TellsSize told name (Ok (Some size)) → size ≤ limit → IsNotRead told name limit NotRead.NoMemory
no_room_for None name size limit tells small = ([], tt, omega arith)
no_room_for (Some files) name size limit tells small = go (files name) refl tells
  where
    go : (file : Option (List ℕ)) → files name ≡ file → Some size ≡ option_map length file → IsNotRead (Some files) name limit NotRead.NoMemory
    go None is tells = absurd (cc tells)
    go (Some bytes) is tells = let same : size ≡ length bytes = cc in (bytes, is, omega (arith, same, small))

pub absent : (told : Option Files) (name : List ℕ) → TellsSize told name (Ok None) → IsAbsent told name
absent None name tells = tt
absent (Some files) name tells = go (files name) tells
  where
    go : (file : Option (List ℕ)) → None ≡ option_map length file → file ≡ None
    go None is = refl
    go (Some bytes) is = absurd (cc is)
