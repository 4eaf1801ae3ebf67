use Rattle.std.proofs.Common.{◌≡◌, take}
use Rattle.elf_raw.specs.Written.{word_bytes, laid}
use Rattle.elf_raw.proofs.laying.put_words.Given as goal

abbrev pub invariant-loop-place : goal.invariant-loop-place
invariant-loop-place l = l.file ≡ laid l.initial.file l.at (word_bytes (take l.place l.words))
