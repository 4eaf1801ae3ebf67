-- The line that says how a run ended, on the second output: this project's own. It ends with one newline byte.
use Rattle.std.specs.Prelude.{ℕ, List, [], ◌++◌, codes}
use Rattle.ae_nums.specs.Decimal.{decimal_text}
use Rattle.ae_nums.specs.Hex.{hex8_text}
use Rattle.ae_nums.specs.Trace.{newline}
use Rattle.rv_code.specs.declared.ending.Ending.{Ending}
use Rattle.rv_code.specs.declared.ending.Ending.TheVariants.{Exit, Illegal, Breakpoint, LoadFault, StoreFault, FetchFault, JumpMisaligned}
use Rattle.rv_machine.specs.declared.outcome.Outcome.{Outcome}
use Rattle.rv_machine.specs.declared.outcome.Outcome.TheVariants.{Ended, Spent}

-- an exit code in decimal, words and addresses in eight hexadecimal digits
abbrev pub ending_text : Ending → List ℕ
ending_text (Exit code) = codes "exit " ++ decimal_text code
ending_text (Illegal word) = codes "illegal " ++ hex8_text word
ending_text Breakpoint = codes "breakpoint"
ending_text (LoadFault address) = codes "load fault " ++ hex8_text address
ending_text (StoreFault address) = codes "store fault " ++ hex8_text address
ending_text (FetchFault address) = codes "fetch fault " ++ hex8_text address
ending_text (JumpMisaligned target) = codes "misaligned jump " ++ hex8_text target

abbrev pub ending_line : Ending → List ℕ
ending_line ending = ending_text ending ++ newline

-- a run that hasn't ended has no such line
abbrev pub line_of_outcome : Outcome → List ℕ
line_of_outcome (Ended ending) = ending_line ending
line_of_outcome Spent = []
