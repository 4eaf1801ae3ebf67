-- Events that are given one piece behind another.
use Rattle.std.proofs.Common.{◌≡◌, ℕ, List, ◌++◌, Option, Some, Result, Ok, Err, OnErr, sym, ap, ◌∙◌}
use Rattle.ae_ports.specs.Content.{Appends, AppendsFront}
use Rattle.ae_ports.specs.declared.failed.Failed.{Failed}
use Rattle.ae_ports.proofs.LawsOfContent.{AppendsFront-behind}
use Rattle.rv_code.specs.declared.ending.Ending.{Ending}
use Rattle.rv_code.specs.declared.image.Note.{Note}
use Rattle.rv_memory.specs.Memory.{Cell}
use Rattle.rv_machine.specs.Events.{drained, end_of_run, events_behind}

-- a piece, and a front of another behind it where the sink failed
pub front_behind : (before mid now : Option (List ℕ)) (first second : List ℕ) (result : Result Unit Failed) → Appends before mid first
    → OnErr result (AppendsFront mid now second) → OnErr result (AppendsFront before now (first ++ second))
front_behind before mid now first second (Ok done) one front = tt
front_behind before mid now first second (Err fault) one front = AppendsFront-behind before mid now first second one front

-- what comes behind the events, of a machine that has this note
pub rest_of : (found : Option Note) (note : Note) (pc other : ℕ) (memory whole : List Cell) (ending last : Option Ending) → found ≡ Some note → pc ≡ other → memory ≡ whole → ending ≡ last
    → drained note memory ++ end_of_run note pc ending ≡ events_behind found other whole last
rest_of found note pc other memory whole ending last is same mapped ends =
    sym (ap (λ (known : Option Note). events_behind known pc memory ending) is)
    ∙ (ap (λ (known : ℕ). events_behind found known memory ending) same
    ∙ (ap (λ (known : List Cell). events_behind found other known ending) mapped ∙ ap (λ (known : Option Ending). events_behind found other whole known) ends))
