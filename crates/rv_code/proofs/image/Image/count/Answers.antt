-- There are as many addresses of code words as there are code words.
use Rattle.std.proofs.Common.{length, ap, sym, ◌∙◌}
use Rattle.rv_code.specs.Code.{extents_of}
use Rattle.rv_code.specs.ImageParts.{ImageParts}
use Rattle.rv_code.specs.Image.{word_count}
use Rattle.rv_code.specs.Places.{code_addresses}
use Rattle.rv_code.proofs.LawsOfPlaces.{length-code_addresses_of_ranges}
use Rattle.rv_code.proofs.image.Image.count.Goals as goal

pub returns-clause-addresses : goal.returns-clause-addresses
returns-clause-addresses c =
    c.count_in.ensures ∙ (ap word_count c.as_slice.ensures ∙ sym (length-code_addresses_of_ranges c.self.inside.code))
    ∙ ap (λ (image : ImageParts). length (code_addresses (extents_of image.code))) c.self.view_is
