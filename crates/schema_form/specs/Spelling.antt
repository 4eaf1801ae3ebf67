-- The bytes of a schema: this project's own. Words are stored lowest byte first.
use Rattle.std.specs.Prelude.{ℕ, List, [], ◌∷◌, ◌++◌, length, flat_map}
use Rattle.rv_code.specs.declared.extent.Extent.{Extent}
use Rattle.rv_code.specs.Numbers.{bytes_of}
use Rattle.schema_form.specs.declared.word.SchemaWord.{SchemaWord}
use Rattle.schema_form.specs.SchemaParts.{SchemaParts}

-- `AES1`
abbrev pub schema_magic : List ℕ
schema_magic = 0x41 ∷ 0x45 ∷ 0x53 ∷ 0x31 ∷ []

abbrev pub stretch_bytes : Extent → List ℕ
stretch_bytes stretch = bytes_of 4 stretch.start ++ bytes_of 4 stretch.count

abbrev pub schema_word_bytes : SchemaWord → List ℕ
schema_word_bytes word = bytes_of 4 word.flags ++ bytes_of 4 word.raw ++ bytes_of 4 word.mask

-- the header: the magic number, the entry, and how many stretches there are
abbrev pub head_bytes : SchemaParts → List ℕ
head_bytes parts = schema_magic ++ bytes_of 4 parts.entry ++ bytes_of 4 (length parts.stretches)

abbrev pub schema_bytes : SchemaParts → List ℕ
schema_bytes parts = head_bytes parts ++ flat_map stretch_bytes parts.stretches ++ flat_map schema_word_bytes parts.words
