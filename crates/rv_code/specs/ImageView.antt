-- How contracts see an image.
use Rattle.rv_code.specs.declared.image.Image.TheInside.{Inside}
use Rattle.rv_code.specs.ImageParts.{ImageParts}

abbrev pub image_parts : Inside → ImageParts
image_parts image =
    record {
      entry = image.entry;
      regions = image.regions;
      code = image.code;
      names = image.names;
      named = image.named;
      note = image.note;
    }
