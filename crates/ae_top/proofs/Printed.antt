-- Why a file isn't printed.
use Rattle.std.proofs.Common.{◌≡◌, ℕ, List, Option, Some, ap, ◌∙◌, subst}
use Rattle.std.specs.Option.{option_map, option_or}
use Rattle.ae_ports.specs.Files.{Files, HasBytes}
use Rattle.std.specs.Prelude.{if◌then◌else◌, is_some, None}
use Rattle.elf_image.specs.declared.fault.ImageFault.TheVariants.{Traced}
use Rattle.elf_image.specs.Loads.{note_in}
use Rattle.elf_image.specs.Refusal.{image_refusal}
use Rattle.ae_top.specs.declared.no_file.NoFile.{NoFile}
use Rattle.ae_top.specs.declared.no_file.NotTaken.{NotTaken}
use Rattle.ae_top.specs.declared.refusal.Refusal.{Refusal}
use Rattle.ae_top.specs.declared.refusal.Refusal.TheVariants.{Image}
use Rattle.ae_top.specs.declared.task.PrintKind.{PrintKind}
use Rattle.ae_top.specs.declared.task.PrintKind.TheVariants.{Elf, Code, Graph, Needs, Slice}
use Rattle.ae_top.specs.NoFile.{IsNotTaken, Lacks}
use Rattle.ae_top.specs.Printing.{asks_of}
use Rattle.ae_top.specs.Refusing.{tables_refusal, refusal_of, traced_refusal}
use Rattle.ae_top.specs.World.{Port, port, streams}

asked_of_all : (bytes : List ℕ) (refusal : Refusal) → tables_refusal bytes ≡ Some refusal → refusal_of bytes ≡ Some refusal
asked_of_all bytes refusal is = ap (λ first. option_or first (option_map Image (image_refusal bytes))) is

asked_of_traced : (bytes : List ℕ) (refusal : Refusal) → tables_refusal bytes ≡ Some refusal → traced_refusal bytes ≡ Some refusal
asked_of_traced bytes refusal is = ap (λ first. option_or first (if is_some (note_in bytes) then Some (Image Traced) else None)) (asked_of_all bytes refusal is)

-- what refuses the tables comes first of all that is asked
asked_first : (kind : PrintKind) (bytes : List ℕ) (refusal : Refusal) → tables_refusal bytes ≡ Some refusal → asks_of kind bytes ≡ Some refusal
asked_first Elf bytes refusal is = is
asked_first Code bytes refusal is = asked_of_all bytes refusal is
asked_first Graph bytes refusal is = asked_of_traced bytes refusal is
asked_first Needs bytes refusal is = asked_of_traced bytes refusal is
asked_first Slice bytes refusal is = asked_of_traced bytes refusal is

not_taken_first : (kind : PrintKind) (bytes : List ℕ) (why : NotTaken) → IsNotTaken tables_refusal why bytes → IsNotTaken (asks_of kind) why bytes
not_taken_first kind bytes (NotTaken.Refused refusal) is = asked_first kind bytes refusal is
not_taken_first kind bytes NotTaken.NoMemory small = small

pub lacks_first : (kind : PrintKind) (told : Option Files) (name : List ℕ) (why : NoFile) → Lacks tables_refusal told name why → Lacks (asks_of kind) told name why
lacks_first kind told name NoFile.Missing lacks = lacks
lacks_first kind told name NoFile.StoreFault lacks = lacks
lacks_first kind told name (NoFile.NotTaken why) lacks = (lacks.0, lacks.1, not_taken_first kind lacks.0 why lacks.2)

-- a file that was read, and isn't taken
pub lacks_taken : (kind : PrintKind) (told : Option Files) (name items bytes : List ℕ) (why : NotTaken) → HasBytes told name items → items ≡ bytes
    → IsNotTaken (asks_of kind) why bytes → Lacks (asks_of kind) told name (NoFile.NotTaken why)
lacks_taken kind told name items bytes why has same refuses = (bytes, subst (HasBytes told name) same has, refuses)

-- streams of which the output is as before
pub same_streams : (input err : Port (List ℕ)) (told told_now : Option (List ℕ)) (faults faults_now : ℕ) → told_now ≡ told → faults_now ≡ faults
    → streams input (port told_now faults_now) err ≡ streams input (port told faults) err
same_streams input err told told_now faults faults_now same counted =
    ap (λ t. streams input (port t faults_now) err) same ∙ ap (λ n. streams input (port told n) err) counted
