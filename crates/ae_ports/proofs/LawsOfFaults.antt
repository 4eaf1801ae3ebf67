-- Laws of answers and of their causes. They have no code, and proofs of every crate may cite them.
use Rattle.std.proofs.Common.{◌≡◌, ℕ, ◌≤◌, Result, Ok, Err, subst}
use Rattle.std.specs.Prelude.{OnErr, IsErr}
use Rattle.ae_ports.specs.declared.failed.Failed.{Failed}
use Rattle.ae_ports.specs.Fault.{HasRisen, HasCause}

-- what holds anyway holds after an error
pub OnErr-always : {T : Type 0} (P : Type 0) (result : Result T Failed) → P → OnErr result P
OnErr-always P (Ok value) holds = tt
OnErr-always P (Err failed) holds = holds

-- a call that failed has its cause where the count has risen
pub HasCause-failed : {T : Type 0} (before now : ℕ) (result : Result T Failed) → IsErr result → before ≤ now → HasRisen before now → HasCause before now result
HasCause-failed before now (Ok value) failed later risen = absurd (cc failed)
HasCause-failed before now (Err fault) failed later risen = record { later = later; same = tt; risen = risen }

-- the cause of an answer, at a count that is the same
pub HasCause-at : {T : Type 0} (before now end : ℕ) (result : Result T Failed) → now ≡ end → HasCause before now result → HasCause before end result
HasCause-at before now end result is cause = subst (λ (count : ℕ). HasCause before count result) is cause

-- a success has the cause of one that says less
pub HasCause-success : {T : Type 0} (before now : ℕ) (value : T) (done : Unit) → HasCause {T = Unit} before now (Ok done) → HasCause before now (Ok value)
HasCause-success before now value done cause = record { later = cause.later; same = cause.same; risen = tt }
