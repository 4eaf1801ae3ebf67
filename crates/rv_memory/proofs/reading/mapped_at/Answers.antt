use Rattle.std.proofs.Common.{◌∙◌}
use Rattle.rv_memory.proofs.ReadBytes.{mapped_is}
use Rattle.rv_memory.proofs.reading.mapped_at.Goals as goal

pub returns : goal.returns
returns c = c.is_some.ensures ∙ mapped_is c.args.stretches.now c.args.address c.place_of.result c.requires c.place_of.ensures
