-- The extents of an image are such as a search asks for, and each code word has a place.
use Rattle.std.proofs.Common.{ap, sym, ◌∙◌, subst}
use Rattle.std.specs.Prelude.{is_some}
use Rattle.std.specs.List.{AllByRecursion}
use Rattle.rv_code.specs.ImageParts.{ImageParts}
use Rattle.rv_code.specs.ImageView.{image_parts}
use Rattle.rv_code.specs.Code.{extents_of, is_code}
use Rattle.rv_code.specs.Places.{place_of, IsCodeExtent}
use Rattle.rv_code.proofs.LawsOfPlaces.{IsImage-AreCodeExtents}
use Rattle.rv_code.proofs.LawsOfLookUps.{is_some-place_of}
use Rattle.rv_code.proofs.image.Image.place_of.Goals as goal

pub place_in-requires-clause-extents : goal.place_in-requires-clause-extents
place_in-requires-clause-extents c =
    subst (λ ranges. AllByRecursion IsCodeExtent (extents_of ranges)) (sym c.as_slice.ensures) (IsImage-AreCodeExtents (image_parts c.self.inside) c.self.invariant).each

pub returns-clause-code : goal.returns-clause-code
returns-clause-code c =
    ap is_some (c.place_in.ensures.place ∙ ap (λ ranges. place_of (extents_of ranges) c.args.address) c.as_slice.ensures)
    ∙ is_some-place_of (extents_of c.self.inside.code) c.args.address (IsImage-AreCodeExtents (image_parts c.self.inside) c.self.invariant).each
    ∙ ap (λ (image : ImageParts). is_code (extents_of image.code) c.args.address) c.self.view_is
