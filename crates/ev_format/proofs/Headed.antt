-- A header that isn't the shape's.
use Rattle.std.proofs.Common.{◌≡◌, ℕ, List, ◌++◌, length, take, Bool, true, false, Option, None, Some, sym, ap, ◌∙◌, arith, length-append}
use Rattle.std.specs.Prelude.{not}
use Rattle.std.specs.Bool.{Decides}
use Rattle.std.specs.Str.{bytes_eq}
use Rattle.std.proofs.lemmas.List.{take_at}
use Rattle.std.proofs.lemmas.Slice.Eq.{bytes_eq-Decides}
use Rattle.ae_ports.specs.Content.{Consumes}
use Rattle.ev_format.specs.declared.halt.Halt.TheVariants.{Stopped}
use Rattle.ev_format.specs.declared.stop.Stop.TheVariants.{OtherProgram}
use Rattle.ev_format.specs.Answers.{IfStopped}
use Rattle.ev_format.specs.Reading.{HeaderStops}
use Rattle.ev_format.specs.Shapes.{ShapeView, shape_header}

pub other_header : (shape : ShapeView) (before now : Option (List ℕ)) (header : List ℕ) → Consumes before now header → length header ≡ 16 → (header ≡ shape_header shape → ⊥)
    → IfStopped before (HeaderStops shape) (Stopped OtherProgram)
other_header shape None now header taken long differs = tt
other_header shape (Some bytes) None header taken long differs = absurd (cc taken)
other_header shape (Some bytes) (Some rest) header taken long differs =
    let same : bytes ≡ header ++ rest = cc taken in
    let front : take 16 bytes ≡ header = ap (take 16) same ∙ take_at header rest 16 long in
    (omega (arith, long, ap (λ (l : List ℕ). length l) same, length-append header rest), λ is. differs (sym front ∙ is))

-- what a comparison of bytes says
pub differ : (one other : List ℕ) → true ≡ not (bytes_eq one other) → one ≡ other → ⊥
differ one other differs =
    let Family : Bool → Type 0 = λ equal. true ≡ not equal → Decides equal (one ≡ other) → one ≡ other → ⊥ in
    let each : (equal : Bool) → Family equal = elim [ true ↦ λ unequal decided same. absurd (cc unequal) | false ↦ λ unequal decided same. absurd (cc (decided.1 same)) ] in
    each (bytes_eq one other) differs (bytes_eq-Decides one other)
