use Rattle.std.proofs.Common.{◌≡◌, Ok, length}
use Rattle.ev_format.specs.declared.place.Place.{Place}
use Rattle.regen_walk.specs.WalkView.{IsWalkOver}
use Rattle.regen_walk.proofs.Replayed.{HasReplayed}
use Rattle.regen_walk.proofs.replaying.replay.Given as goal

abbrev pub invariant-loop-offset : goal.invariant-loop-offset
invariant-loop-offset g l =
    (place : Place)
    × (l.records ≡ Ok place)
    × HasReplayed l.fn.schema l.initial.events place l.events l.walk (g.K.Taker.took l.initial.items l.items)
    × IsWalkOver l.fn.schema l.walk
    × (g.K.Taker.faults l.items ≡ g.K.Taker.faults l.initial.items)
    × g.K.Taker.same_rest l.initial.items l.items

abbrev pub decreases-loop-offset : goal.decreases-loop-offset
decreases-loop-offset g l = length l.events
