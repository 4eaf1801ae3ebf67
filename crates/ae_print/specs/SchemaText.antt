-- The text of a schema: a line for the whole, and then a line for each code word, in the order of addresses. This project's own. Counts
-- are decimal; all other words have eight hexadecimal digits.
use Rattle.std.specs.Prelude.{ℕ, List, [], ◌∷◌, ◌++◌, codes, length, slice_index_or}
use Rattle.rv_code.specs.Places.{code_addresses}
use Rattle.ae_nums.specs.Decimal.{decimal_text}
use Rattle.ae_nums.specs.Hex.{hex8_text}
use Rattle.ae_nums.specs.Trace.{newline}
use Rattle.schema_form.specs.declared.word.SchemaWord.{SchemaWord}
use Rattle.schema_form.specs.SchemaParts.{SchemaParts}
use Rattle.ae_print.specs.Numbered.{numbered_lines}
use Rattle.ae_print.specs.Spaced.{spaced_words}

abbrev pub ranges_text : (entry ranges : ℕ) → List ℕ
ranges_text entry ranges = codes "entry " ++ hex8_text entry ++ codes " ranges " ++ decimal_text ranges

abbrev pub words_text : (words : ℕ) → List ℕ
words_text words = codes " words " ++ decimal_text words ++ newline

-- as `entry 00010074 ranges 1 words 1`
abbrev pub schema_front : (entry ranges words : ℕ) → List ℕ
schema_front entry ranges words = ranges_text entry ranges ++ words_text words

-- as `00010074 00000054 0000006f 00000000`: an address, and then the flags, the raw word and the mask
abbrev pub schema_line : (address : ℕ) → SchemaWord → List ℕ
schema_line address word = hex8_text address ++ spaced_words (word.flags ∷ word.raw ∷ word.mask ∷ []) ++ newline

-- that of the code word at a place
abbrev pub schema_line_at : SchemaParts → (place : ℕ) → SchemaWord → List ℕ
schema_line_at parts place word = schema_line (slice_index_or (code_addresses parts.stretches) place 0) word

abbrev pub schema_lines : SchemaParts → List ℕ
schema_lines parts = numbered_lines (schema_line_at parts) parts.words

abbrev pub schema_text : SchemaParts → List ℕ
schema_text parts = schema_front parts.entry (length parts.stretches) (length parts.words) ++ schema_lines parts
