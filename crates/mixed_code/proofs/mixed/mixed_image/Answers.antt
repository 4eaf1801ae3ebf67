-- The image is one that an accepted executable may have.
use Rattle.std.proofs.Common.{◌∙◌}
use Rattle.mixed_code.proofs.MixedImage.{image_is}
use Rattle.mixed_code.proofs.mixed.mixed_image.Goals as goal

pub invariant_of-result : goal.invariant_of-result
invariant_of-result c =
    image_is c.from_vec.result c.from_vec-2.result c.from_vec-3.result c.from_vec-4.result
    (c.from_vec.ensures ∙ c.in_ok-regions.ensures) (c.from_vec-2.ensures ∙ c.in_ok-code.ensures)
    (c.from_vec-3.ensures ∙ c.new.ensures.items) (c.from_vec-4.ensures ∙ c.new-2.ensures.items)
