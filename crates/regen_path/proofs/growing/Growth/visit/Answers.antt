-- What waited is visited, or was before.
use Rattle.std.proofs.Common.{◌<◌, length, sym, ◌∙◌, rules}
use Rattle.regen_path.proofs.Grown.{waited_within, numbers_kept, waited_past, waited_fresh, waited_on, work_falls}
use Rattle.regen_path.proofs.growing.Growth.visit.Goals as goal

pub index-requires : goal.index-requires
index-requires c =
    let inside : c.args.visit.node < length c.args.self.now.numbers.items = waited_within c.args.ground.now.ways.items c.args.self.now c.args.visit c.requires.waited in
    search rules

pub returns-then-is_some-clause-growing : goal.returns-then-is_some-clause-growing
returns-then-is_some-clause-growing c = waited_past c.args.ground.now.ways.items c.args.self.now c.args.visit c.requires.waited c.index.result.now c.index.ensures (sym c.is_some.ensures ∙ c.if-is_some.true)

pub returns-then-is_some-clause-kept : goal.returns-then-is_some-clause-kept
returns-then-is_some-clause-kept c = λ node number is. is

pub enter-requires-clause-left : goal.enter-requires-clause-left
enter-requires-clause-left c = c.requires.waited.1.numbered.left

pub enter-requires-clause-long : goal.enter-requires-clause-long
enter-requires-clause-long c = c.requires.waited.1.numbered.long

pub enter-requires-clause-fresh : goal.enter-requires-clause-fresh
enter-requires-clause-fresh c = waited_fresh c.args.ground.now.ways.items c.args.self.now c.args.visit c.requires.waited c.index.result.now c.index.ensures (sym c.is_some.ensures ∙ c.if-is_some.false)

pub returns-clause-growing : goal.returns-clause-growing
returns-clause-growing c =
    waited_on c.args.ground.now.ways.items c.args.self.now c.args.visit c.requires.waited c.enter.new.self c.requires.ground.within
    (waited_fresh c.args.ground.now.ways.items c.args.self.now c.args.visit c.requires.waited c.index.result.now c.index.ensures (sym c.is_some.ensures ∙ c.if-is_some.false)) c.in_ok-enter.ensures

pub returns-clause-kept : goal.returns-clause-kept
returns-clause-kept c =
    let fresh = waited_fresh c.args.ground.now.ways.items c.args.self.now c.args.visit c.requires.waited c.index.result.now c.index.ensures (sym c.is_some.ensures ∙ c.if-is_some.false) in
    numbers_kept c.args.ground.now.ways.items c.args.self.now c.enter.new.self c.args.visit fresh c.in_ok-enter.ensures c.requires.waited.1.numbered

pub returns-clause-less : goal.returns-clause-less
returns-clause-less c =
    work_falls c.args.ground.now.ways.items c.args.self.now c.enter.new.self c.args.visit
    (waited_fresh c.args.ground.now.ways.items c.args.self.now c.args.visit c.requires.waited c.index.result.now c.index.ensures (sym c.is_some.ensures ∙ c.if-is_some.false)) c.in_ok-enter.ensures
