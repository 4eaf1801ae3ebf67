use Rattle.rv_code.proofs.LawsOfPlaces.{extents_at-code_addresses, code_addresses-extents_at, extents_at-AreCodeExtents}
use Rattle.rv_code.proofs.laws.extents_are_found_again.Goals as goal

pub returns : goal.returns
returns c =
    record {
      extents = extents_at-code_addresses;
      addresses = λ addresses rise aligned. (extents_at-AreCodeExtents addresses rise aligned, code_addresses-extents_at addresses);
    }
