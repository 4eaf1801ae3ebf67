-- What is printed of a flow graph that is there.
use Rattle.std.specs.Prelude.{◌≡◌, ℕ, List, Option, Result, Ok, Err}
use Rattle.ae_print.specs.NeedsText.{IsNeedsText, IsFirstOfNeedsText}
use Rattle.ae_print.specs.SliceText.{IsSliceText, IsFirstOfSliceText}
use Rattle.ae_print.specs.SomeText.{AppendsFrontOfSome, AppendsSome}
use Rattle.flow_graph.specs.CodeParts.{CodeParts}
use Rattle.ae_top.specs.declared.from_graph.FromGraph.{FromGraph}
use Rattle.ae_top.specs.declared.from_graph.FromGraph.TheVariants.{Witnesses, Needs, Slices}
use Rattle.ae_top.specs.declared.no_file.NotTaken.{NotTaken}
use Rattle.ae_top.specs.declared.printing.NotPrinted.{NotPrinted}
use Rattle.ae_top.specs.declared.task.PrintKind.{PrintKind}
use Rattle.ae_top.specs.Printing.{IsWitnessText, WantsMemory}

-- what the command calls it
abbrev pub printed_as : FromGraph → PrintKind
printed_as Witnesses = PrintKind.Graph
printed_as Needs = PrintKind.Needs
printed_as Slices = PrintKind.Slice

abbrev pub IsTextFrom : FromGraph → CodeParts → (text : List ℕ) → Type 0
IsTextFrom Witnesses parts text = IsWitnessText parts text
IsTextFrom Needs parts text = IsNeedsText parts.code text
IsTextFrom Slices parts text = IsSliceText parts.code text

abbrev pub IsBegunTextFrom : FromGraph → CodeParts → (text : List ℕ) → Type 0
IsBegunTextFrom Witnesses parts text = IsWitnessText parts text
IsBegunTextFrom Needs parts text = IsFirstOfNeedsText parts.code text
IsBegunTextFrom Slices parts text = IsFirstOfSliceText parts.code text

-- its text went to the output, or a front of it, or there was no memory to begin with
abbrev pub PrintsFrom : FromGraph → CodeParts → Result Unit NotPrinted → (before now : Option (List ℕ)) → Type 0
PrintsFrom from parts (Ok done) before now = AppendsSome (IsTextFrom from parts) before now
PrintsFrom from parts (Err NotPrinted.OutFault) before now = AppendsFrontOfSome (IsBegunTextFrom from parts) before now
PrintsFrom from parts (Err NotPrinted.NoMemory) before now =
    WantsMemory (printed_as from) × AppendsFrontOfSome (IsBegunTextFrom from parts) before now
PrintsFrom from parts (Err (NotPrinted.NotTaken why)) before now = (why ≡ NotTaken.NoMemory) × (now ≡ before)
