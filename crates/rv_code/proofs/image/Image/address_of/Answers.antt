-- The extents of an image are such as a search asks for, and each place below the count has an address.
use Rattle.std.proofs.Common.{ap, sym, ◌∙◌, subst}
use Rattle.std.specs.Prelude.{is_some, nat_lt}
use Rattle.std.specs.List.{AllByRecursion}
use Rattle.rv_code.specs.ImageParts.{ImageParts}
use Rattle.rv_code.specs.ImageView.{image_parts}
use Rattle.rv_code.specs.Code.{extents_of}
use Rattle.rv_code.specs.Image.{word_count}
use Rattle.rv_code.specs.Places.{address_of, EndsInSpace}
use Rattle.rv_code.proofs.LawsOfPlaces.{IsImage-EndsInSpace}
use Rattle.rv_code.proofs.LawsOfLookUps.{is_some-address_of}
use Rattle.rv_code.proofs.image.Image.address_of.Goals as goal

pub address_in-requires-clause-ends : goal.address_in-requires-clause-ends
address_in-requires-clause-ends c =
    subst (λ ranges. AllByRecursion EndsInSpace (extents_of ranges)) (sym c.as_slice.ensures) (IsImage-EndsInSpace (image_parts c.self.inside) c.self.invariant)

pub returns-clause-within : goal.returns-clause-within
returns-clause-within c =
    ap is_some (c.address_in.ensures ∙ ap (λ ranges. address_of (extents_of ranges) c.args.place) c.as_slice.ensures)
    ∙ is_some-address_of c.self.inside.code c.args.place
    ∙ ap (λ (image : ImageParts). nat_lt c.args.place (word_count image.code)) c.self.view_is
