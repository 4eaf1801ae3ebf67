use Rattle.std.proofs.Common.{◌≡◌, Ok, length}
use Rattle.ev_format.specs.declared.place.Place.{Place}
use Rattle.ae_print.specs.Inner.EventsRead.{IsReadTo}
use Rattle.ae_print.specs.Inner.SomePut.{PutsSome}
use Rattle.ae_print.proofs.events.write_events.Given as goal

abbrev pub invariant-loop-offset : goal.invariant-loop-offset
invariant-loop-offset g l =
    (place : Place)
    × (l.records ≡ Ok place)
    × PutsSome g.K.Sink.told g.K.Sink.faults g.K.Sink.same_rest (IsReadTo (g.H.Shape.shown l.fn.shape) l.initial.events place l.events) l.initial.lines l.lines

abbrev pub decreases-loop-offset : goal.decreases-loop-offset
decreases-loop-offset g l = length l.events
