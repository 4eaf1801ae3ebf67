-- What a call for the next record answers and leaves.
use Rattle.std.specs.Prelude.{◌≡◌, ℕ, ⊤, List, Option, MatchOption, Result, Ok, Err}
use Rattle.ae_ports.specs.Fault.{HasRisen}
use Rattle.ev_format.specs.declared.halt.Halt.{Halt}
use Rattle.ev_format.specs.declared.halt.Halt.TheVariants.{Stopped, Failed}
use Rattle.ev_format.specs.declared.next.EventFault.{EventFault}
use Rattle.ev_format.specs.declared.next.EventFault.TheVariants as faults
use Rattle.ev_format.specs.declared.next.Next.{Next}
use Rattle.ev_format.specs.declared.next.Next.TheVariants as nexts
use Rattle.ev_format.specs.declared.record.Record.{Record}
use Rattle.ev_format.specs.declared.stop.Stop.{Stop}
use Rattle.ev_format.specs.declared.stop.Stop.TheVariants.{Cut, Finished, OtherProgram, BadRecord}

-- the answer where there is no further record
abbrev pub answer_of : Halt → Result Next EventFault
answer_of (Stopped Cut) = Ok nexts.Cut
answer_of (Stopped Finished) = Ok nexts.Finished
answer_of (Stopped OtherProgram) = Err faults.OtherProgram
answer_of (Stopped (BadRecord offset)) = Err (faults.BadRecord offset)
answer_of Failed = Err faults.SourceFault

-- what holds of the record that was answered, and its offset
abbrev pub IfWhole : Result Next EventFault → (ℕ → Record → Type 0) → Type 0
IfWhole (Ok (nexts.Whole offset rec)) P = P offset rec
IfWhole (Ok nexts.Cut) P = ⊤
IfWhole (Ok nexts.Finished) P = ⊤
IfWhole (Err fault) P = ⊤

-- what holds of the bytes that were left, where they are told, and of why reading stopped
abbrev pub IfStopped : Option (List ℕ) → (List ℕ → Stop → Type 0) → Halt → Type 0
IfStopped told P (Stopped stop) = MatchOption told ⊤ (λ bytes. P bytes stop)
IfStopped told P Failed = ⊤

-- a source failed only where its count of faults rose
abbrev pub HaltRises : ℕ → ℕ → Halt → Type 0
HaltRises before now (Stopped stop) = now ≡ before
HaltRises before now Failed = HasRisen before now

-- The count of a source's faults before a call and after it, beside what the call answered, where no fault was kept
abbrev pub AnswerRises : ℕ → ℕ → Result Next EventFault → Type 0
AnswerRises before now (Ok next) = now ≡ before
AnswerRises before now (Err faults.SourceFault) = HasRisen before now
AnswerRises before now (Err faults.OtherProgram) = now ≡ before
AnswerRises before now (Err (faults.BadRecord offset)) = now ≡ before
