-- What is kept beside code words with their predecessors.
use Rattle.std.specs.Prelude.{◌<◌, ◌^◌, true, false}
use Rattle.std.specs.List.{AllByRecursion}
use Rattle.rv_code.specs.Code.{extents_of}
use Rattle.rv_code.specs.Image.{word_count}
use Rattle.rv_code.specs.Places.{AreCodeExtents, EndsInSpace}
use Rattle.need_sets.specs.declared.predecessors.Predecessors.TheInside.{Inside}
use Rattle.need_sets.specs.Inner.Sources.{AreSources}

pub record IsPredecessors (predecessors : Inside) : Type 0 where
  pub order : AreCodeExtents (extents_of predecessors.code)
  pub ends : AllByRecursion EndsInSpace (extents_of predecessors.code)
  pub words : word_count predecessors.code < 2 ^ 32
  pub falls : AreSources predecessors.code false (word_count predecessors.code) predecessors.falls.last.items predecessors.falls.before.items
  pub takes : AreSources predecessors.code true (word_count predecessors.code) predecessors.takes.last.items predecessors.takes.before.items
