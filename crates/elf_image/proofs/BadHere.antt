-- Whether the program header with a number offends, by the answers of the functions that look at it.
use Rattle.std.proofs.Common.{◌≡◌, ℕ, ◌<◌, Bool, List, get_or, take, ap, ◌∙◌}
use Rattle.std.specs.Prelude.{◌&&◌, ◌||◌, not}
use Rattle.std.specs.List.{filter}
use Rattle.elf_raw.specs.declared.raw.RawElf.{RawElf}
use Rattle.elf_raw.specs.declared.segment.RawSegment.{RawSegment}
use Rattle.elf_raw.specs.Raw.{raw_of}
use Rattle.elf_raw.specs.Segments.{segment_of}
use Rattle.elf_image.specs.Loads.{is_load, is_note_header, piece_of, has_note, load_offends, before, bad_load_at, bad_note_at}
use Rattle.elf_image.specs.NoteBytes.{is_note}
use Rattle.elf_image.proofs.HeaderRows.{header_here, before_here}

pub bad_note_here : (raw : RawElf) (bytes : List ℕ) (headers : List RawSegment) (number : ℕ) (d : RawSegment) (answer : Bool) → raw ≡ raw_of bytes → headers ≡ raw.segments
    → number < raw.header.phnum
    → answer ≡ (is_note_header (get_or headers number d) && (not (is_note (piece_of bytes (get_or headers number d))) || has_note (take number headers)))
    → answer ≡ bad_note_at bytes number
bad_note_here raw bytes headers number d answer read are within is =
    is
    ∙ ap (λ s. is_note_header s && (not (is_note (piece_of bytes s)) || has_note (take number headers))) (header_here raw bytes headers number d read are within)
    ∙ ap (λ xs. is_note_header (segment_of bytes number) && (not (is_note (piece_of bytes (segment_of bytes number))) || has_note xs))
    (before_here raw bytes headers number read are)

pub bad_load_here : (raw : RawElf) (bytes : List ℕ) (headers loads : List RawSegment) (number : ℕ) (d : RawSegment) (noted answer : Bool) → raw ≡ raw_of bytes
    → headers ≡ raw.segments → number < raw.header.phnum → noted ≡ has_note headers → loads ≡ filter is_load (before bytes number)
    → answer ≡ (is_load (get_or headers number d) && load_offends noted loads (get_or headers number d))
    → answer ≡ bad_load_at bytes number
bad_load_here raw bytes headers loads number d noted answer read are within note_is loads_are is =
    is
    ∙ ap (λ s. is_load s && load_offends noted loads s) (header_here raw bytes headers number d read are within)
    ∙ ap (λ xs. is_load (segment_of bytes number) && load_offends noted xs (segment_of bytes number)) loads_are
    ∙ ap (λ t. is_load (segment_of bytes number) && load_offends t (filter is_load (before bytes number)) (segment_of bytes number))
    (note_is ∙ ap has_note are ∙ ap (λ (r : RawElf). has_note r.segments) read)
