use Rattle.std.proofs.Common.{◌≡◌, ◌∷◌, ◌++◌, length, take}
use Rattle.std.specs.List.{flat_map}
use Rattle.elf_raw.specs.Written.{word_bytes}
use Rattle.elf_image.specs.NoteBytes.{note_magic, mark_words}
use Rattle.elf_image.proofs.note_writing.note_bytes.Given as goal

-- the words of so many marks stand behind those of the note
abbrev pub invariant-loop-mark : goal.invariant-loop-mark
invariant-loop-mark l =
    l.bytes.items
    ≡ note_magic
    ++ word_bytes
    (l.note.entry ∷ l.note.first ∷ l.note.count ∷ l.note.buffer ∷ l.note.used ∷ length l.note.map ∷ flat_map mark_words (take l.mark-index l.note.map))
