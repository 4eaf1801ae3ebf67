-- A machine that was run with the lines of its items going to a sink.
use Rattle.std.specs.Prelude.{ℕ, List, Option, Result, Ok, Err}
use Rattle.ae_ports.specs.Content.{Appends, AppendsFront}
use Rattle.rv_machine.specs.declared.outcome.MachineFault.{MachineFault}
use Rattle.rv_machine.specs.declared.outcome.Outcome.{Outcome}

-- what the sink got of a text: all of it, or after a device's fault a front of it
abbrev pub TraceGot : Result Outcome MachineFault → (text : List ℕ) → (before now : Option (List ℕ)) → Type 0
TraceGot (Ok outcome) text before now = Appends before now text
TraceGot (Err fault) text before now = AppendsFront before now text
