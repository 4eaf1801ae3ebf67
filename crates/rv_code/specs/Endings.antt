-- The endings by number, as event files have them: this project's own.
use Rattle.std.specs.Prelude.{ℕ}
use Rattle.rv_code.specs.declared.ending.Ending.{Ending}
use Rattle.rv_code.specs.declared.ending.Ending.TheVariants.{Exit, Illegal, Breakpoint, LoadFault, StoreFault, FetchFault, JumpMisaligned}

abbrev pub kind_of : Ending → ℕ
kind_of (Exit code) = 1
kind_of (Illegal word) = 2
kind_of Breakpoint = 3
kind_of (LoadFault address) = 4
kind_of (StoreFault address) = 5
kind_of (FetchFault address) = 6
kind_of (JumpMisaligned target) = 7

abbrev pub detail_of : Ending → ℕ
detail_of (Exit code) = code
detail_of (Illegal word) = word
detail_of Breakpoint = 0
detail_of (LoadFault address) = address
detail_of (StoreFault address) = address
detail_of (FetchFault address) = address
detail_of (JumpMisaligned target) = target
