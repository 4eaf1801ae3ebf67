-- A file that was read and printed.
use Rattle.std.specs.Prelude.{◌≡◌, ℕ, List, Option, None, Result, Ok, Err}
use Rattle.ae_print.specs.SomeText.{AppendsFrontOfSome, AppendsSome}
use Rattle.ae_top.specs.declared.printing.NotPrinted.{NotPrinted}
use Rattle.ae_top.specs.declared.task.PrintKind.{PrintKind}
use Rattle.ae_top.specs.NoFile.{IsNotTaken}
use Rattle.ae_top.specs.Printing.{IsBegunTextOf, IsTextOf, WantsMemory, asks_of}

-- what came of a file with these bytes: its text went to the output, or a front of it, or it isn't taken
abbrev pub Prints : PrintKind → (bytes : List ℕ) → Result Unit NotPrinted → (before now : Option (List ℕ)) → Type 0
Prints kind bytes (Ok done) before now = (asks_of kind bytes ≡ None) × AppendsSome (IsTextOf kind bytes) before now
Prints kind bytes (Err NotPrinted.OutFault) before now =
    (asks_of kind bytes ≡ None) × AppendsFrontOfSome (IsBegunTextOf kind bytes) before now
Prints kind bytes (Err NotPrinted.NoMemory) before now =
    (asks_of kind bytes ≡ None) × WantsMemory kind × AppendsFrontOfSome (IsBegunTextOf kind bytes) before now
Prints kind bytes (Err (NotPrinted.NotTaken why)) before now = IsNotTaken (asks_of kind) why bytes × (now ≡ before)
