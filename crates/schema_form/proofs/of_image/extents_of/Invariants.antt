use Rattle.std.proofs.Common.{◌≡◌, take}
use Rattle.rv_code.specs.Code.{extents_of}
use Rattle.schema_form.proofs.of_image.extents_of.Given as goal

abbrev pub invariant-loop-range : goal.invariant-loop-range
invariant-loop-range l = l.extents.items ≡ extents_of (take l.range-index l.ranges)
