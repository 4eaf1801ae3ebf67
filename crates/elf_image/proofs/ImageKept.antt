-- The image of a file that isn't refused is an image.
use Rattle.std.proofs.Common.{◌≡◌, ℕ, suc, ◌<◌, ◌≤◌, ◌^◌, List, length, get_or, arith, Option, None, sym, ◌∙◌, subst}
use Rattle.std.specs.List.{All}
use Rattle.std.specs.Prelude.{is_some}
use Rattle.std.proofs.lemmas.List.{length-map}
use Rattle.std.proofs.lemmas.List.FromFn.{length-map-range_with_len}
use Rattle.elf_raw.specs.Header.{header_of}
use Rattle.elf_raw.specs.Numbers.{half_at}
use Rattle.elf_raw.specs.Refusal.{IsSound}
use Rattle.elf_raw.specs.Sections.{sections_of, section_of}
use Rattle.elf_raw.specs.Segments.{segments_of}
use Rattle.std.specs.Option.{option_map}
use Rattle.rv_code.proofs.LawsOfRows.{none_left, none_mapped, none_first, none_second}
use Rattle.rv_code.specs.declared.image.Image.{Image}
use Rattle.rv_code.specs.declared.image.Name.{Name}
use Rattle.rv_code.specs.declared.image.Note.{Note}
use Rattle.rv_code.specs.declared.image.Range.{Range}
use Rattle.rv_code.specs.declared.image.Region.{Region}
use Rattle.rv_code.specs.Image.{IsImage}
use Rattle.rv_code.specs.Limits.{ranges_limit, words_limit}
use Rattle.rv_code.specs.Numbers.{IsByte}
use Rattle.elf_image.specs.Accepted.{image_of}
use Rattle.elf_image.specs.CodeWords.{code_words, code_of, range_of, names_of, extents_in}
use Rattle.elf_image.specs.Loads.{bad_program_header, note_in, regions_of}
use Rattle.elf_image.specs.Named.{named_of}
use Rattle.elf_image.specs.declared.fault.ImageFault.TheVariants.{Dynamic, Segments}
use Rattle.elf_image.specs.Refusal.{code_refusal, image_refusal}
use Rattle.elf_image.proofs.CodeKept.{code_of-AreRanges, code_of-RangesRise, code_of-is_code, code_of-word_count, names_of-are_code, named_of-are_code, named_of-IsStrictlyIncreasing, has_code_load}
use Rattle.elf_image.proofs.CodeLoad.{code_load_kept}
use Rattle.elf_image.proofs.CodeRefused.{code_accepted}
use Rattle.elf_image.proofs.HeaderRows.{headers_number}
use Rattle.elf_image.proofs.NoteKept.{byte_at, is_some-note_in, note_in_sound}
use Rattle.elf_image.proofs.RegionsKept.{regions_each, regions_rise, regions_few}

pub image_kept : (bytes : List ℕ) → All IsByte bytes → IsSound bytes → bad_program_header bytes ≡ None → code_refusal bytes ≡ None → IsImage (image_of bytes)
image_kept bytes all sound good none =
    let accepted = code_accepted bytes none in
    let load = code_load_kept bytes sound good in
    record {
      regions = regions_each bytes all sound good;
      regions_rise = regions_rise bytes sound good;
      ranges = code_of-AreRanges bytes (regions_of bytes) all (has_code_load bytes sound good) load.held;
      ranges_rise = code_of-RangesRise bytes;
      entry = code_of-is_code bytes (header_of bytes).entry ∙ accepted.entry;
      names = names_of-are_code bytes;
      named = named_of-are_code bytes;
      named_rise = named_of-IsStrictlyIncreasing bytes;
      note = note_in_sound bytes all good;
      limits = record {
        mapped = accepted.mapped;
        regions = regions_few bytes good;
        ranges = subst (λ n. n ≤ ranges_limit) (sym (length-map (extents_in bytes) (range_of bytes))) accepted.ranges;
        words = subst (λ n. n ≤ words_limit (is_some (note_in bytes))) (sym (code_of-word_count bytes)) (subst (λ noted. length (code_words bytes) ≤ words_limit noted) (sym (is_some-note_in bytes)) accepted.words);
      };
    }

-- the same of a file that is accepted
pub image_accepted : (bytes : List ℕ) → All IsByte bytes → IsSound bytes → image_refusal bytes ≡ None → IsImage (image_of bytes)
image_accepted bytes all sound none =
    let segments = none_left _ Dynamic _ none in
    let good : bad_program_header bytes ≡ None = none_mapped Segments (bad_program_header bytes) (none_first (option_map Segments (bad_program_header bytes)) (code_refusal bytes) segments.1) in
    image_kept bytes all sound good (none_second (option_map Segments (bad_program_header bytes)) (code_refusal bytes) segments.1)

abbrev image_with : (entry : ℕ) (regions : List Region) (code : List Range) (names : List Name) (named : List ℕ) (found : Option Note) → Image
image_with entry regions code names named found = record { entry = entry; regions = regions; code = code; names = names; named = named; note = found }

-- an image with the parts of the file's is the file's
pub image_is : (bytes : List ℕ) (entry : ℕ) (regions : List Region) (code : List Range) (names : List Name) (named : List ℕ) (found : Option Note)
    → entry ≡ (header_of bytes).entry → regions ≡ regions_of bytes → code ≡ code_of bytes → names ≡ names_of bytes → named ≡ named_of bytes → found ≡ note_in bytes
    → image_with entry regions code names named found ≡ image_of bytes
image_is bytes entry regions code names named found same_entry same_regions same_code same_names same_named same_note =
    λ i. record { entry = same_entry i; regions = same_regions i; code = same_code i; names = same_names i; named = same_named i; note = same_note i }

-- counts of the header are of two bytes

half_below : (bytes : List ℕ) (place : ℕ) → All IsByte bytes → half_at bytes place < 2 ^ 32
half_below bytes place all =
    let first : get_or bytes place 0 < 256 = byte_at bytes place all in
    let second : get_or bytes (suc place) 0 < 256 = byte_at bytes (suc place) all in
    omega arith

pub segments_counted : (bytes : List ℕ) → All IsByte bytes → length (segments_of bytes) < 2 ^ 32
segments_counted bytes all = omega (arith, half_below bytes 44 all, headers_number bytes)

pub sections_counted : (bytes : List ℕ) → All IsByte bytes → length (sections_of bytes) < 2 ^ 32
sections_counted bytes all = omega (arith, half_below bytes 48 all, length-map-range_with_len (section_of bytes) 0 (header_of bytes).shnum)
