use Rattle.std.proofs.Common.{◌≡◌, ◌≤◌, ◌-◌, length, take}
use Rattle.ae_ports.specs.Files.{SameFiles}
use Rattle.ae_top.specs.Inner.Reading.{IsRead}
use Rattle.ae_top.proofs.reading.fill.Given as goal

abbrev pub invariant-loop-got : goal.invariant-loop-got
invariant-loop-got g l =
    (l.got ≤ length l.buf)
    × IsRead (g.S.Store.told l.store) l.name l.got (take l.got l.buf)
    × SameFiles (g.S.Store.told l.fn.store) (g.S.Store.told l.store)
    × (g.S.Store.faults l.store ≡ g.S.Store.faults l.fn.store)
    × g.S.Store.same_rest l.fn.store l.store

abbrev pub decreases-loop-got : goal.decreases-loop-got
decreases-loop-got g l = length l.buf - l.got
