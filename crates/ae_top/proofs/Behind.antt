-- The line of a status behind what a command gave.
use Rattle.std.proofs.Common.{◌≢◌, ℕ, ◌≤◌, ◌<◌, List, arith, refl}
use Rattle.ae_ports.specs.Fault.{HasRisen}
use Rattle.rv_code.specs.declared.ending.Ending.{Ending}
use Rattle.ae_top.specs.declared.status.Status.{Status}
use Rattle.ae_top.specs.declared.status.Status.TheVariants.{Done, Faulted}
use Rattle.ae_top.specs.StatusLines.{status_line, GetsLine, LineBehind}
use Rattle.ae_top.specs.World.{Port}

pub line_behind : (words : List (List ℕ)) (status : Status) (before now : Port (List ℕ)) → status ≢ Done → ((ending : Ending) → status ≢ Faulted ending)
    → GetsLine before now (status_line words status) → LineBehind words status before now
line_behind words Done before now not_done unended gets = absurd (not_done refl)
line_behind words (Faulted ending) before now not_done unended gets = absurd (unended ending refl)
line_behind words _ before now not_done unended gets = gets

-- a count that rose and then doesn't fall has risen
pub risen_behind : (before middle now : ℕ) → HasRisen before middle → middle ≤ now → HasRisen before now
risen_behind before middle now risen later = λ few. let more : before < middle = risen few in omega arith
