-- What is printed of an executable's graph is printed of the executable.
use Rattle.std.proofs.Common.{◌≡◌, ◌≤◌, ℕ, List, Option, None, Result, Ok, Err, length, sym, subst}
use Rattle.elf_image.specs.Accepted.{image_of}
use Rattle.elf_raw.specs.declared.limits.TheConstants.{FILE_LIMIT}
use Rattle.flow_graph.specs.CodeParts.{CodeParts, code_parts}
use Rattle.ae_top.specs.declared.from_graph.FromGraph.{FromGraph}
use Rattle.ae_top.specs.declared.from_graph.FromGraph.TheVariants.{Witnesses, Needs, Slices}
use Rattle.ae_top.specs.declared.no_file.NotTaken.{NotTaken}
use Rattle.ae_top.specs.declared.printing.NotPrinted.{NotPrinted}
use Rattle.ae_top.specs.declared.refusal.Refusal.{Refusal}
use Rattle.ae_top.specs.Inner.FromGraph.{printed_as, PrintsFrom}
use Rattle.ae_top.specs.Inner.Printing.{Prints}
use Rattle.ae_top.specs.NoFile.{IsNotTaken}
use Rattle.ae_top.specs.Refusing.{traced_refusal}

wanting : (asks : List ℕ → Option Refusal) (bytes : List ℕ) (why : NotTaken) → length bytes ≤ FILE_LIMIT → why ≡ NotTaken.NoMemory → IsNotTaken asks why bytes
wanting asks bytes why small is = subst (λ (known : NotTaken). IsNotTaken asks known bytes) (sym is) small

module _ (bytes : List ℕ) (before now : Option (List ℕ)) (asked : traced_refusal bytes ≡ None) (small : length bytes ≤ FILE_LIMIT) where
  of_image : (from : FromGraph) (result : Result Unit NotPrinted) → PrintsFrom from (code_parts (image_of bytes)) result before now
      → Prints (printed_as from) bytes result before now
  of_image Witnesses (Ok done) prints = (asked, prints)
  of_image Witnesses (Err NotPrinted.OutFault) prints = (asked, prints)
  of_image Witnesses (Err NotPrinted.NoMemory) prints = (asked, prints.0, prints.1)
  of_image Witnesses (Err (NotPrinted.NotTaken why)) prints = (wanting traced_refusal bytes why small prints.0, prints.1)
  of_image Needs (Ok done) prints = (asked, prints)
  of_image Needs (Err NotPrinted.OutFault) prints = (asked, prints)
  of_image Needs (Err NotPrinted.NoMemory) prints = (asked, prints.0, prints.1)
  of_image Needs (Err (NotPrinted.NotTaken why)) prints = (wanting traced_refusal bytes why small prints.0, prints.1)
  of_image Slices (Ok done) prints = (asked, prints)
  of_image Slices (Err NotPrinted.OutFault) prints = (asked, prints)
  of_image Slices (Err NotPrinted.NoMemory) prints = (asked, prints.0, prints.1)
  of_image Slices (Err (NotPrinted.NotTaken why)) prints = (wanting traced_refusal bytes why small prints.0, prints.1)

  pub of_its_graph : (from : FromGraph) (parts : CodeParts) (result : Result Unit NotPrinted) → parts ≡ code_parts (image_of bytes)
      → PrintsFrom from parts result before now → Prints (printed_as from) bytes result before now
  of_its_graph from parts result is prints =
      of_image from result (subst (λ (known : CodeParts). PrintsFrom from known result before now) is prints)
