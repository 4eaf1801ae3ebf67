-- The front of a file in a buffer grows by the piece that a get puts behind it.
use Rattle.std.proofs.Common.{◌≡◌, ℕ, ◌+◌, ◌≤◌, List, ◌++◌, length, take, drop, Option, None, Some, Ok, Err, MatchOption, IfOk, Result, sym, subst}
use Rattle.std.proofs.Math.Seq.{take-add}
use Rattle.std.specs.Bool.{⊤}
use borrow.Rule.Slice.PartMut.{put_mid}
use Rattle.ae_ports.specs.declared.failed.Failed.{Failed}
use Rattle.ae_ports.specs.Files.{Files, SameFiles, Copies, Gets}
use Rattle.rv_code.proofs.LawsOfElements.{take_filled}
use Rattle.ae_top.specs.Inner.Reading.{IsRead}

-- what holds of the file of this name, where the files are told
abbrev OfFile : Option Files → List ℕ → (List ℕ → Type 0) → Type 0
OfFile told name P = MatchOption told ⊤ (λ files. MatchOption (files name) ⊥ P)

-- what holds of a file holds while the files stay the same
of_file_after : (P : List ℕ → Type 0) (before now : Option Files) (name : List ℕ) → SameFiles before now → OfFile before name P → OfFile now name P
of_file_after P None None name same was = tt
of_file_after P None (Some now) name same was = absurd same
of_file_after P (Some before) None name same was = absurd same
of_file_after P (Some before) (Some now) name same was =
    let Family : Option (List ℕ) → Type 0 = λ file. MatchOption file ⊥ P in subst Family (sym (same name)) was

-- what two facts on a file give
of_file_both : (P Q R : List ℕ → Type 0) (told : Option Files) (name : List ℕ) → ((all : List ℕ) → P all → Q all → R all) → OfFile told name P → OfFile told name Q → OfFile told name R
of_file_both P Q R None name both p q = tt
of_file_both P Q R (Some files) name both p q =
    let Family : Option (List ℕ) → Type 0 = λ file. MatchOption file ⊥ P → MatchOption file ⊥ Q → MatchOption file ⊥ R in
    let each : (file : Option (List ℕ)) → Family file = elim [ None ↦ λ none _. none | Some all ↦ λ p q. both all p q ] in
    each (files name) p q

-- a piece of the file, behind its front
front_joins :
    (got more k : ℕ) (buf piece all : List ℕ) →
    got ≤ length buf →
    more ≤ length piece →
    take got buf ≡ take got all →
    Copies all got piece more →
    take (got + more) (put_mid got k buf piece) ≡ take (got + more) all
front_joins got more k buf piece all room within was copies =
    let joined = take_filled got more k buf piece room within in
    let whole : take (got + more) all ≡ take got all ++ take more (drop got all) = take-add got more all in
    let part = copies.front in
    cc (joined, whole, part)

pub read_more :
    (told now : Option Files) (name : List ℕ) (got k : ℕ) (buf piece : List ℕ) (result : Result ℕ Failed) →
    got ≤ length buf →
    IfOk result (λ more. more ≤ length piece) →
    IsRead told name got (take got buf) →
    Gets told name got piece result →
    SameFiles told now →
    IfOk result (λ more. IsRead now name (got + more) (take (got + more) (put_mid got k buf piece)))
read_more told now name got k buf piece (Err fault) room within was gets same = tt
read_more told now name got k buf piece (Ok more) room within was gets same =
    of_file_after (λ all. take (got + more) (put_mid got k buf piece) ≡ take (got + more) all) told now name same
    (of_file_both (λ all. take got buf ≡ take got all) (λ all. Copies all got piece more) _ told name
    (λ all here copies. front_joins got more k buf piece all room within here copies) was gets)
