use Rattle.std.proofs.Common.{◌≡◌, take}
use Rattle.std.specs.List.{fold}
use Rattle.rv_machine.specs.Events.{original_by}
use Rattle.rv_machine.proofs.recording.original_of.Given as goal

abbrev pub invariant-loop-mark : goal.invariant-loop-mark
invariant-loop-mark l = l.found ≡ fold (original_by l.pc) 0 (take l.mark-index l.map)
