-- The image of these regions and ranges is one that an accepted executable may have.
use Rattle.std.proofs.Common.{◌≡◌, ℕ, true, false, List, [], None, refl, arith}
use Rattle.rv_code.specs.declared.image.Name.{Name}
use Rattle.rv_code.specs.declared.image.Range.{Range}
use Rattle.rv_code.specs.declared.image.Region.{Region}
use Rattle.rv_code.specs.Image.{IsRange, IsImage}
use Rattle.rv_code.specs.ImageParts.{ImageParts}
use Rattle.mixed_code.specs.declared.mixed.TheConstants.{FIRST, SECOND, THIRD, FOURTH}
use Rattle.mixed_code.specs.Parts.{region_with, range_with}
use Rattle.mixed_code.specs.Mixed.{mixed_regions, mixed_code}
use Rattle.mixed_code.proofs.HeldWords.{region_is, holds_words}

abbrev pub image_with : List Region → List Range → List Name → List ℕ → ImageParts
image_with regions code names named = record { entry = 0x10000; regions = regions; code = code; names = names; named = named; note = None }

first_is : IsRange mixed_regions (range_with 0x10000 FIRST)
unfolding mixed_regions
first_is =
    record {
      some = omega arith;
      aligned = refl;
      words = (omega arith, (omega arith, (omega arith, (omega arith, (omega arith, (omega arith, (omega arith, tt)))))));
      held = (0, region_with 0x10000 false FIRST, omega arith, refl, holds_words 0x10000 false FIRST);
    }

second_is : IsRange mixed_regions (range_with 0x20000 SECOND)
unfolding mixed_regions
second_is =
    record {
      some = omega arith;
      aligned = refl;
      words = (omega arith, (omega arith, (omega arith, (omega arith, (omega arith, (omega arith, (omega arith, (omega arith, tt))))))));
      held = (1, region_with 0x20000 true SECOND, omega arith, refl, holds_words 0x20000 true SECOND);
    }

third_is : IsRange mixed_regions (range_with 0x30000 THIRD)
unfolding mixed_regions
third_is =
    record {
      some = omega arith;
      aligned = refl;
      words = (omega arith, (omega arith, tt));
      held = (2, region_with 0x30000 false THIRD, omega arith, refl, holds_words 0x30000 false THIRD);
    }

fourth_is : IsRange mixed_regions (range_with 0x40000 FOURTH)
unfolding mixed_regions
fourth_is =
    record {
      some = omega arith;
      aligned = refl;
      words = (omega arith, (omega arith, tt));
      held = (3, region_with 0x40000 true FOURTH, omega arith, refl, holds_words 0x40000 true FOURTH);
    }

mixed_is : IsImage (image_with mixed_regions mixed_code [] [])
unfolding mixed_regions mixed_code
mixed_is =
    record {
      regions = (
        region_is 0x10000 false FIRST (omega arith) (omega arith),
        (
          region_is 0x20000 true SECOND (omega arith) (omega arith),
          (region_is 0x30000 false THIRD (omega arith) (omega arith), (region_is 0x40000 true FOURTH (omega arith) (omega arith), tt)),
        ),
      );
      regions_rise = (omega arith, (omega arith, (omega arith, tt)));
      ranges = (first_is, (second_is, (third_is, (fourth_is, tt))));
      ranges_rise = (omega arith, (omega arith, (omega arith, tt)));
      entry = refl;
      names = tt;
      named = tt;
      named_rise = λ k below. absurd (omega (arith, below));
      note = tt;
      limits = record { mapped = omega arith; regions = omega arith; ranges = omega arith; words = omega arith };
    }

-- an image whose parts are these
pub image_is : (regions : List Region) (code : List Range) (names : List Name) (named : List ℕ) → regions ≡ mixed_regions → code ≡ mixed_code → names ≡ [] → named ≡ []
    → IsImage (image_with regions code names named)
image_is regions code names named r c n d = rw r (rw c (rw n (rw d mixed_is)))
