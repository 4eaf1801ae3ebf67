-- What needs keep beside the code words.
use Rattle.std.specs.Prelude.{◌<◌, ◌^◌}
use Rattle.std.specs.List.{AllByRecursion}
use Rattle.rv_code.specs.Code.{extents_of}
use Rattle.rv_code.specs.Image.{word_count}
use Rattle.rv_code.specs.Places.{AreCodeExtents, EndsInSpace}
use Rattle.need_sets.specs.declared.needs.Needs.TheInside.{Inside}
use Rattle.need_sets.specs.Masks.{AreNeeded}
use Rattle.need_sets.specs.Words.{base_at}

pub record IsNeeds (needs : Inside) : Type 0 where
  pub order : AreCodeExtents (extents_of needs.code)
  pub ends : AllByRecursion EndsInSpace (extents_of needs.code)
  pub words : word_count needs.code < 2 ^ 32
  pub needed : AreNeeded needs.code (base_at needs.code) needs.masks needs.used
