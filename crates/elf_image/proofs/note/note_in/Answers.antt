use Rattle.std.proofs.Common.{◌≡◌, ℕ, true, List, sym, ap, ◌∙◌, subst, arith}
use Rattle.std.specs.List.{All}
use Rattle.std.proofs.lemmas.List.Elements.{All-from_get_or}
use Rattle.rv_code.specs.Image.{IsNote}
use Rattle.rv_code.specs.Numbers.{IsByte}
use Rattle.elf_image.specs.NoteBytes.{is_note}
use Rattle.elf_image.proofs.NoteKept.{note_read, note_within, note_there, note_sound, piece_bytes}
use Rattle.elf_image.proofs.note.note_in.Goals as goal

pub piece_of-requires : goal.piece_of-requires
piece_of-requires c =
    let is = note_read c.args.raw.now c.args.bytes.now c.as_slice.result.now c.in-Some.segment.now c.requires.read c.as_slice.ensures c.in-Some.ensures in
    note_within c.args.bytes.now c.in-Some.segment.now c.requires.sound is

pub read_note-requires : goal.read_note-requires
read_note-requires c =
    let is = note_read c.args.raw.now c.args.bytes.now c.as_slice.result.now c.in-Some.segment.now c.requires.read c.as_slice.ensures c.in-Some.ensures in
    ap is_note c.piece_of.ensures ∙ note_there c.args.bytes.now c.in-Some.segment.now c.requires.good is

pub returns-in_ok-read_note-in-Some-clause-sound :
    goal.returns-in_ok-read_note-in-Some-clause-sound
returns-in_ok-read_note-in-Some-clause-sound c =
    let bytes : List ℕ = c.args.bytes.now in
    let piece : List ℕ = c.piece_of.result.now in
    let all : All IsByte bytes = All-from_get_or IsByte bytes 0 (λ i _. omega (arith, c.type_inv.bytes i)) in
    let found = note_read c.args.raw.now bytes c.as_slice.result.now c.in-Some.segment.now c.requires.read c.as_slice.ensures c.in-Some.ensures in
    let is : is_note piece ≡ true = ap is_note c.piece_of.ensures ∙ note_there bytes c.in-Some.segment.now c.requires.good found in
    let in_piece : All IsByte piece = subst (All IsByte) (sym c.piece_of.ensures) (piece_bytes bytes c.in-Some.segment.now all) in
    subst IsNote (sym c.in_ok-read_note-in-Some.ensures) (note_sound piece in_piece is)
