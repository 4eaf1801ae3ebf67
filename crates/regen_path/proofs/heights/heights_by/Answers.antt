use Rattle.std.proofs.Common.{ap}
use Rattle.regen_path.specs.Inner.Growing.{parent_of}
use Rattle.regen_path.proofs.heights.heights_by.Goals as goal

pub bounds-heights-parent : goal.bounds-heights-parent
bounds-heights-parent c = c.requires c.in-Up.parent (ap parent_of c.in-Up.is)

pub bounds-heights-parent-in-Down : goal.bounds-heights-parent-in-Down
bounds-heights-parent-in-Down c = c.requires c.in-Down.parent (ap parent_of c.in-Down.is)
