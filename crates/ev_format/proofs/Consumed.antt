-- Bytes that are taken from a source piece by piece, and why none is next where reading stopped behind some.
use Rattle.std.proofs.Common.{◌≡◌, ℕ, List, ◌++◌, Option, None, Some, sym, subst}
use Rattle.ae_ports.specs.Content.{Consumes}
use Rattle.ev_format.specs.declared.halt.Halt.{Halt}
use Rattle.ev_format.specs.declared.halt.Halt.TheVariants.{Stopped, Failed}
use Rattle.ev_format.specs.declared.stop.Stop.{Stop}
use Rattle.ev_format.specs.Answers.{IfStopped}

-- where a stop means one thing of the bytes that are left, it means another
pub IfStopped-means : (told : Option (List ℕ)) (P Q : List ℕ → Stop → Type 0) (halt : Halt) → ((bytes : List ℕ) (stop : Stop) → P bytes stop → Q bytes stop)
    → IfStopped told P halt → IfStopped told Q halt
IfStopped-means told P Q Failed means stopped = tt
IfStopped-means None P Q (Stopped stop) means stopped = tt
IfStopped-means (Some bytes) P Q (Stopped stop) means stopped = means bytes stop stopped

-- the same behind a piece that was taken
pub IfStopped-behind : (before mid : Option (List ℕ)) (first : List ℕ) (P Q : List ℕ → Stop → Type 0) (halt : Halt) → Consumes before mid first
    → ((rest : List ℕ) (stop : Stop) → P rest stop → Q (first ++ rest) stop) → IfStopped mid P halt → IfStopped before Q halt
IfStopped-behind before mid first P Q Failed taken means stopped = tt
IfStopped-behind None mid first P Q (Stopped stop) taken means stopped = tt
IfStopped-behind (Some bytes) None first P Q (Stopped stop) taken means stopped = absurd (cc taken)
IfStopped-behind (Some bytes) (Some rest) first P Q (Stopped stop) taken means stopped =
    let same : bytes ≡ first ++ rest = cc taken in
    subst (λ (l : List ℕ). Q l stop) (sym same) (means rest stop stopped)
