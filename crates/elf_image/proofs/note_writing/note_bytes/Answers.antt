use Rattle.std.proofs.Common.{◌≡◌, ◌≤◌, ℕ, ◌∷◌, ◌++◌, true, List, length, take, sym, ap, ◌∙◌, subst, arith}
use Rattle.std.proofs.lemmas.List.{take_all}
use Rattle.std.specs.List.{flat_map}
use Rattle.elf_raw.specs.Written.{word_bytes}
use Rattle.rv_code.specs.declared.image.Mark.{Mark}
use Rattle.rv_code.specs.declared.image.Note.{Note}
use Rattle.elf_image.specs.NoteBytes.{note_magic, is_note, mark_words, note_of, note_bytes}
use Rattle.elf_image.proofs.NoteBack.{AreRead, note_back, note_is}
use Rattle.elf_image.proofs.note_writing.note_bytes.Goals as goal

-- the bytes behind the last mark
whole : (note : Note) (index : ℕ) (bytes : List ℕ) → length note.map ≤ index
    → bytes ≡ note_magic ++ word_bytes (note.entry ∷ note.first ∷ note.count ∷ note.buffer ∷ note.used ∷ length note.map ∷ flat_map mark_words (take index note.map))
    → bytes ≡ note_bytes note
whole note index bytes all is =
    is
    ∙ ap (λ (marks : List Mark). note_magic ++ word_bytes (note.entry ∷ note.first ∷ note.count ∷ note.buffer ∷ note.used ∷ length note.map ∷ flat_map mark_words marks))
    (take_all index note.map all)

pub returns-clause-note : goal.returns-clause-note
returns-clause-note c =
    let note : Note = c.args.note.now in
    let read : AreRead = record { size = c.words_are_read_back.ensures.length; each = c.words_are_read_back.ensures.each } in
    let marks = ap (λ (xs : List Mark). length xs) c.as_slice-marks.ensures in
    subst (λ (piece : List ℕ). is_note piece ≡ true) (sym (whole note c.loop-mark.mark-index c.loop-mark.bytes.items (omega (arith, marks, c.loop-mark-test.false)) c.loop-mark.invariant))
    (note_is read note c.requires.note c.requires.few)

pub returns-clause-read_back : goal.returns-clause-read_back
returns-clause-read_back c =
    let note : Note = c.args.note.now in
    let read : AreRead = record { size = c.words_are_read_back.ensures.length; each = c.words_are_read_back.ensures.each } in
    let marks = ap (λ (xs : List Mark). length xs) c.as_slice-marks.ensures in
    ap note_of (whole note c.loop-mark.mark-index c.loop-mark.bytes.items (omega (arith, marks, c.loop-mark-test.false)) c.loop-mark.invariant)
    ∙ note_back read note c.requires.note c.requires.few
