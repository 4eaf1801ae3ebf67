-- Each halt has an answer of its own, and none of them is a record.
use Rattle.std.proofs.Common.{◌≡◌, ℕ, Result, Ok, Err, refl, sym, ◌∙◌, ap}
use Rattle.ev_format.specs.declared.halt.Halt.{Halt}
use Rattle.ev_format.specs.declared.halt.Halt.TheVariants.{Stopped, Failed}
use Rattle.ev_format.specs.declared.next.EventFault.{EventFault}
use Rattle.ev_format.specs.declared.next.EventFault.TheVariants as faults
use Rattle.ev_format.specs.declared.next.Next.{Next}
use Rattle.ev_format.specs.declared.next.Next.TheVariants as nexts
use Rattle.ev_format.specs.declared.record.Record.{Record}
use Rattle.ev_format.specs.declared.stop.Stop.TheVariants.{Cut, Finished, OtherProgram, BadRecord}
use Rattle.ev_format.specs.Answers.{answer_of}

pub no_record : (offset : ℕ) (rec : Record) (halt : Halt) → Ok (nexts.Whole offset rec) ≡ answer_of halt → ⊥
no_record offset rec (Stopped Cut) same = absurd (cc same)
no_record offset rec (Stopped Finished) same = absurd (cc same)
no_record offset rec (Stopped OtherProgram) same = absurd (cc same)
no_record offset rec (Stopped (BadRecord bad)) same = absurd (cc same)
no_record offset rec Failed same = absurd (cc same)

-- the halt behind an answer
halt_behind : Result Next EventFault → Halt
halt_behind (Ok (nexts.Whole offset rec)) = Failed
halt_behind (Ok nexts.Cut) = Stopped Cut
halt_behind (Ok nexts.Finished) = Stopped Finished
halt_behind (Err faults.SourceFault) = Failed
halt_behind (Err faults.OtherProgram) = Stopped OtherProgram
halt_behind (Err (faults.BadRecord offset)) = Stopped (BadRecord offset)

halt_behind-answer_of : (halt : Halt) → halt_behind (answer_of halt) ≡ halt
unfolding halt_behind
halt_behind-answer_of (Stopped Cut) = refl
halt_behind-answer_of (Stopped Finished) = refl
halt_behind-answer_of (Stopped OtherProgram) = refl
halt_behind-answer_of (Stopped (BadRecord bad)) = refl
halt_behind-answer_of Failed = refl

pub one_halt : (halt other : Halt) → answer_of halt ≡ answer_of other → halt ≡ other
one_halt halt other same = sym (halt_behind-answer_of halt) ∙ (ap halt_behind same ∙ halt_behind-answer_of other)
