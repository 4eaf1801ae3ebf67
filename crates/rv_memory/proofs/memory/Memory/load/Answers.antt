use Rattle.std.proofs.Common.{sym, ap, ◌∙◌, subst}
use Rattle.std.specs.Prelude.{is_some}
use Rattle.rv_code.specs.ImageView.{image_parts}
use Rattle.rv_memory.specs.Stretches.{stretches_of}
use Rattle.rv_memory.specs.Outline.{AreInOrder}
use Rattle.rv_memory.proofs.LawsOfStart.{stretches_in_order}
use Rattle.rv_memory.proofs.memory.Memory.load.Goals as goal

pub invariant_of-result : goal.invariant_of-result
invariant_of-result c =
    let image = image_parts c.image.inside in
    subst (λ xs. AreInOrder xs) (sym (c.in_ok-stretches.ensures ∙ ap stretches_of c.as_slice.ensures))
    (stretches_in_order (is_some image.note) image.regions c.image.invariant.regions c.image.invariant.regions_rise)
