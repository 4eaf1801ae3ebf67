use Rattle.rv_code.proofs.LawsOfLookUps.{place_of-address_of, address_of-place_of, is_some-place_of, address_of-rises}
use Rattle.rv_code.proofs.laws.places_are_in_order.Goals as goal

pub returns : goal.returns
returns c =
    record {
      addresses = λ extents runs place address. (place_of-address_of extents place address runs.rise, address_of-place_of extents place address);
      code = λ extents runs address. is_some-place_of extents address runs.each;
      rise = λ extents runs place later address higher. address_of-rises extents place later address higher runs.rise;
    }
