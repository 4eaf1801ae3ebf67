-- Which executables aren't accepted, of files whose tables can be read: the first refusal that holds, in this order. The
-- refusals, their order and the limits are this project's own.
use Rattle.std.specs.Prelude.{⊤, ℕ, Bool, not, ◌==◌, List, length, nat_lt, if◌then◌else◌, Option, None, Some}
use Rattle.std.specs.Option.{option_map, option_or}
use Rattle.std.specs.List.{list_any}
use Rattle.elf_image.specs.declared.fault.ImageFault.{ImageFault}
use Rattle.elf_image.specs.declared.fault.ImageFault.TheVariants.{Dynamic, Segments, NoCode, EntryNotCode, BadRelocation, TooLarge, Traced}
use Rattle.elf_image.specs.declared.fault.Over.{Over}
use Rattle.elf_image.specs.declared.fault.Over.TheVariants.{File, Mapped, Ranges, Words}
use Rattle.elf_raw.specs.Header.{header_of}
use Rattle.elf_raw.specs.Segments.{segments_of}
use Rattle.rv_code.specs.Image.{mapped_length}
use Rattle.rv_code.specs.Limits.{mapped_limit, ranges_limit, words_limit}
use Rattle.elf_image.specs.CodeWords.{code_words, is_code_word, extents_in}
use Rattle.elf_image.specs.Loads.{is_dynamic, has_note, bad_program_header, regions_of}
use Rattle.elf_image.specs.Named.{bad_relocation}

-- what there is too much of, where so many bytes are mapped, and there are so many ranges and code words
abbrev pub over_of : (noted : Bool) → (mapped ranges words : ℕ) → Option Over
over_of noted mapped ranges words =
    if nat_lt mapped_limit mapped then Some Mapped
    else (if nat_lt ranges_limit ranges then Some Ranges
    else (if nat_lt (words_limit noted) words then Some Words
    else None))

abbrev pub too_large : List ℕ → Option Over
too_large bytes = over_of (has_note (segments_of bytes)) (mapped_length (regions_of bytes)) (length (extents_in bytes)) (length (code_words bytes))

-- of the code words, and what names them
abbrev pub code_refusal : List ℕ → Option ImageFault
code_refusal bytes =
    if length (code_words bytes) == 0 then Some NoCode
    else (if not (is_code_word bytes (header_of bytes).entry) then Some EntryNotCode
    else option_or (option_map BadRelocation (bad_relocation bytes)) (option_map TooLarge (too_large bytes)))

abbrev pub image_refusal : List ℕ → Option ImageFault
image_refusal bytes =
    if list_any is_dynamic (segments_of bytes) then Some Dynamic
    else option_or (option_map Segments (bad_program_header bytes)) (code_refusal bytes)

-- What accepting may answer: that a file is too long is known before it is read, and that it was rewritten is asked by
-- `for_rewrite`.
abbrev pub IsAcceptFault : ImageFault → Type 0
IsAcceptFault (TooLarge File) = ⊥
IsAcceptFault Traced = ⊥
IsAcceptFault _ = ⊤
