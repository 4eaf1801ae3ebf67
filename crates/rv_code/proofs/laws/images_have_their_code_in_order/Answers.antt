use Rattle.rv_code.proofs.LawsOfPlaces.{IsImage-AreCodeExtents, IsImage-EndsInSpace}
use Rattle.rv_code.proofs.laws.images_have_their_code_in_order.Goals as goal

pub returns : goal.returns
returns c = record { order = IsImage-AreCodeExtents; ends = IsImage-EndsInSpace }
