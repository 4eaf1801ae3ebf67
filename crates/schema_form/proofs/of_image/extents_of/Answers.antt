use Rattle.schema_form.proofs.MadeWords.{range_small}
use Rattle.schema_form.proofs.of_image.extents_of.Goals as goal

pub extent_of-requires : goal.extent_of-requires
extent_of-requires c = range_small c.args.ranges.now c.loop-range.range-index c.range-item.result c.loop-range-test.true c.range-item.is c.requires
