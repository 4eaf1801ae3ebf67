use Rattle.std.proofs.Common.{refl, subst, sym}
use Rattle.rv_code.specs.Image.{IsImage}
use Rattle.elf_image.proofs.ImageKept.{image_accepted}
use Rattle.elf_image.proofs.laws.accepted_files_have_images.Goals as goal

pub returns-clause-image : goal.returns-clause-image
returns-clause-image c = λ bytes image all accepted.
    subst IsImage (sym accepted.same) (image_accepted bytes all (c.taken_files_are_sound.ensures bytes accepted.tables) accepted.executable)

pub returns-clause-tables : goal.returns-clause-tables
returns-clause-tables c = λ raw bytes tables none.
    record { small = tables.small; tables = tables.taken; executable = none; same = refl }
