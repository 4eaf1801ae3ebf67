-- Which files are accepted as executables, and the image of one that is.
use Rattle.std.specs.Prelude.{◌≡◌, ℕ, ◌≤◌, List, length, None}
use Rattle.elf_raw.specs.declared.limits.TheConstants.{FILE_LIMIT}
use Rattle.elf_raw.specs.Header.{header_of}
use Rattle.elf_raw.specs.Refusal.{elf_refusal}
use Rattle.rv_code.specs.declared.image.Image.{Image}
use Rattle.elf_image.specs.CodeWords.{code_of, names_of}
use Rattle.elf_image.specs.Loads.{regions_of, note_in}
use Rattle.elf_image.specs.Named.{named_of}
use Rattle.elf_image.specs.Refusal.{image_refusal}

abbrev pub image_of : List ℕ → Image
image_of bytes =
    record {
      entry = (header_of bytes).entry;
      regions = regions_of bytes;
      code = code_of bytes;
      names = names_of bytes;
      named = named_of bytes;
      note = note_in bytes;
    }

-- the file has none of the refusals, and this is its image
pub record IsAccepted (bytes : List ℕ) (image : Image) : Type 0 where
  pub small : length bytes ≤ FILE_LIMIT
  pub tables : elf_refusal bytes ≡ None
  pub executable : image_refusal bytes ≡ None
  pub same : image ≡ image_of bytes
