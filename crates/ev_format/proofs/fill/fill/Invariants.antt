use Rattle.std.proofs.Common.{length, ◌-◌, ◌≡◌, ◌≤◌, take}
use Rattle.ae_ports.specs.Content.{Consumes}
use Rattle.ev_format.proofs.fill.fill.Given as goal

abbrev pub invariant-loop-got : goal.invariant-loop-got
invariant-loop-got g l = record {
  within : l.got ≤ length l.piece;
  taken : Consumes (g.S.Source.told l.initial.source) (g.S.Source.told l.source) (take l.got l.piece);
  same : g.S.Source.faults l.source ≡ g.S.Source.faults l.initial.source;
  rest : g.S.Source.same_rest l.initial.source l.source;
}

abbrev pub decreases-loop-got : goal.decreases-loop-got
decreases-loop-got g l = length l.piece - l.got
