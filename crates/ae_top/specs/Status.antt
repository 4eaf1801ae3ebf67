-- The exit code of each status: this project's own.
use Rattle.std.specs.Prelude.{ℕ}
use Rattle.ae_top.specs.declared.status.Status.{Status}
use Rattle.ae_top.specs.declared.status.Status.TheVariants.{Done, Usage, CutShort, Missing, Refused, BadSchema, BadEvents, StoreFault, InputFault, OutFault, ErrFault, FuelSpent, Faulted, Memory}

abbrev pub exit_code_of : Status → ℕ
exit_code_of Done = 0
exit_code_of Usage = 2
exit_code_of CutShort = 3
exit_code_of (Missing word) = 4
exit_code_of (Refused refusal) = 5
exit_code_of (BadSchema fault) = 6
exit_code_of (BadEvents refusal) = 7
exit_code_of StoreFault = 8
exit_code_of InputFault = 9
exit_code_of OutFault = 10
exit_code_of ErrFault = 10
exit_code_of (FuelSpent steps) = 11
exit_code_of (Faulted ending) = 12
exit_code_of Memory = 70
