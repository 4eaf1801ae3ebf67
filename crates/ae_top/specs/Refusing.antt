-- The first refusal of a file that a command reads as an executable, in the order in which they are asked: its size,
-- its tables, the executable, and of some commands whether it has been rewritten.
use Rattle.std.specs.Prelude.{ℕ, List, length, nat_lt, if◌then◌else◌, Option, None, Some, is_some}
use Rattle.std.specs.Option.{option_map, option_or}
use Rattle.elf_image.specs.declared.fault.ImageFault.TheVariants.{TooLarge, Traced}
use Rattle.elf_image.specs.declared.fault.Over.TheVariants.{File}
use Rattle.ae_top.specs.declared.refusal.Refusal.{Refusal}
use Rattle.ae_top.specs.declared.refusal.Refusal.TheVariants.{Elf, Image}
use Rattle.elf_raw.specs.declared.limits.TheConstants.{FILE_LIMIT}
use Rattle.elf_image.specs.Loads.{note_in}
use Rattle.elf_image.specs.Refusal.{image_refusal}
use Rattle.elf_raw.specs.Refusal.{elf_refusal}

-- of the size and the tables alone
abbrev pub tables_refusal : List ℕ → Option Refusal
tables_refusal bytes =
    if nat_lt FILE_LIMIT (length bytes) then Some (Image (TooLarge File)) else option_map Elf (elf_refusal bytes)

abbrev pub refusal_of : List ℕ → Option Refusal
refusal_of bytes = option_or (tables_refusal bytes) (option_map Image (image_refusal bytes))

-- the same for a command that wants an executable that hasn't been rewritten
abbrev pub traced_refusal : List ℕ → Option Refusal
traced_refusal bytes = option_or (refusal_of bytes) (if is_some (note_in bytes) then Some (Image Traced) else None)
