-- When an object of the outside may answer Failed: only where its count of faults rose in that call.
use Rattle.std.specs.Prelude.{◌≡◌, ℕ, ◌-◌, ◌^◌, ◌<◌, ◌≤◌, Result, OnOk, OnErr}
use Rattle.ae_ports.specs.declared.failed.Failed.{Failed}

-- A count of faults has risen. One that stands at the largest u64 can't show it, and counts as risen.
abbrev pub HasRisen : ℕ → ℕ → Type 0
HasRisen before now = before < 2 ^ 64 - 1 → before < now

-- the count of faults before a call and after it, beside what the call answered
pub record HasCause {T : Type 0} (before now : ℕ) (result : Result T Failed) : Type 0 where
  pub later : before ≤ now
  pub same : OnOk result (now ≡ before)
  pub risen : OnErr result (HasRisen before now)
