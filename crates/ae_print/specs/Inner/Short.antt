-- A text that is written to a writer of lines as far as memory is there.
use Rattle.std.specs.Prelude.{◌≡◌, ℕ, true, List, ◌++◌, Option, Result, Ok, Err}
use Rattle.ae_nums.specs.Writer.{Puts}
use Rattle.ae_nums.specs.declared.writer.LineWriter.{LineWriter}
use Rattle.ae_ports.specs.declared.failed.Failed.{Failed}
use Rattle.ae_print.specs.declared.fault.PrintFault.{PrintFault}

-- A call wrote a text, as far as the sink didn't fail. Where memory was wanting it wrote a front of the text.
abbrev pub PutsShort : {K : Type 0} → (told : K → Option (List ℕ)) → (faults : K → ℕ) → (same_rest : K → K → Type 0) → (before now : LineWriter K) → (text : List ℕ) → Result Unit PrintFault → Type 0
PutsShort told faults same_rest before now text (Ok done) = Puts told faults same_rest before now text (Ok tt)
PutsShort told faults same_rest before now text (Err PrintFault.Failed) =
    (now.broken ≡ true) × ((result : Result Unit Failed) → Puts told faults same_rest before now text result)
PutsShort told faults same_rest before now text (Err PrintFault.NoMemory) =
    (front : List ℕ) × (more : List ℕ) × (front ++ more ≡ text) × Puts told faults same_rest before now front (Ok tt)
