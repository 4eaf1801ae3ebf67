-- Where the parts of a schema stand, and what bytes there say: this project's own. Words are stored lowest byte first.
use Rattle.std.specs.Prelude.{ℕ, ◌+◌, ◌*◌, List, drop, length, map, sum_by, take}
use Rattle.std.specs.List.{range_with_len}
use Rattle.rv_code.specs.declared.extent.Extent.{Extent}
use Rattle.rv_code.specs.Numbers.{number_of}
use Rattle.schema_form.specs.declared.word.SchemaWord.{SchemaWord}

-- the word of the four bytes at an offset
abbrev pub word_from : List ℕ → (offset : ℕ) → ℕ
word_from bytes offset = number_of (take 4 (drop offset bytes))

-- behind the four bytes of `AES1` stand the entry and the number of stretches, and then the stretches
abbrev pub entry_from : List ℕ → ℕ
entry_from bytes = word_from bytes 4

abbrev pub stretch_count : List ℕ → ℕ
stretch_count bytes = word_from bytes 8

-- where the stretch with a number stands, counted from 0, or what follows so many stretches
abbrev pub stretch_offset : ℕ → ℕ
stretch_offset number = 12 + 8 * number

abbrev pub stretch_from : List ℕ → (number : ℕ) → Extent
stretch_from bytes number = record { start = word_from bytes (stretch_offset number); count = word_from bytes (stretch_offset number + 4) }

-- the first so many stretches
abbrev pub stretches_from : List ℕ → (count : ℕ) → List Extent
stretches_from bytes count = map (stretch_from bytes) (range_with_len 0 count)

-- how many code words stretches have
abbrev pub words_total : List Extent → ℕ
words_total stretches = sum_by (λ (stretch : Extent). stretch.count) stretches

-- how many stand before each of the stretches
abbrev pub words_before : List Extent → List ℕ
words_before stretches = map (λ number. words_total (take number stretches)) (range_with_len 0 (length stretches))

-- where the code word at a place stands, the first of them at an offset
abbrev pub word_offset : (first place : ℕ) → ℕ
word_offset first place = first + 12 * place

abbrev pub schema_word_from : List ℕ → (offset : ℕ) → SchemaWord
schema_word_from bytes offset = record { flags = word_from bytes offset; raw = word_from bytes (offset + 4); mask = word_from bytes (offset + 8) }

-- so many code words, the first of them at an offset
abbrev pub schema_words_from : List ℕ → (first count : ℕ) → List SchemaWord
schema_words_from bytes first count = map (λ place. schema_word_from bytes (word_offset first place)) (range_with_len 0 count)
