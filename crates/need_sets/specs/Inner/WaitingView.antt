-- How contracts see places that wait.
use Rattle.std.specs.Prelude.{length}
use Rattle.need_sets.specs.declared.waiting.Waiting.TheInside.{Inside}
use Rattle.need_sets.specs.Inner.Waiting.{WaitingParts, AreMarked}

abbrev pub waiting_parts : Inside → WaitingParts
waiting_parts waiting = record { size = length waiting.marks.items; places = waiting.places.items }

abbrev pub IsWaiting : Inside → Type 0
IsWaiting waiting = AreMarked waiting.places.items waiting.marks.items
