-- What a traced run leaves: what the sink of the lines got, and whether it is to blame.
use Rattle.std.proofs.Common.{◌≡◌, ℕ, List, Option, Result, Ok, Err, subst}
use Rattle.ae_ports.specs.Content.{Appends}
use Rattle.rv_machine.specs.declared.outcome.MachineFault.{MachineFault}
use Rattle.rv_machine.specs.declared.outcome.Outcome.{Outcome}
use Rattle.ae_top.specs.Inner.Tracing.{TraceGot}
use Rattle.ae_top.specs.World.{Blames}
use Rattle.ae_ports.proofs.LawsOfContent.{AppendsFront-all}

-- all lines went to the sink, and then came the line of the ending
pub got_all : (answer : Result Outcome MachineFault) (text : List ℕ) (before now : Option (List ℕ)) → Appends before now text → TraceGot answer text before now
got_all (Ok shown) text before now all = all
got_all (Err fault) text before now all = AppendsFront-all before now text all

-- the same of a sink by another name
pub got_at : (answer : Result Outcome MachineFault) (text : List ℕ) (before now sink_now : Option (List ℕ)) → now ≡ sink_now → TraceGot answer text before now → TraceGot answer text before sink_now
got_at answer text before now sink_now to got = subst (λ (known : Option (List ℕ)). TraceGot answer text before known) to got

-- the same of a count by another name
pub blames_at : (failed : Type 0) (before now sink_now : ℕ) → now ≡ sink_now → Blames failed before now → Blames failed before sink_now
blames_at failed before now sink_now to blames = subst (λ (n : ℕ). Blames failed before n) to blames
