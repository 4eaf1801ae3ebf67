-- What of an image a graph is a graph of: where a run begins, the code words, and what symbols and relocations name. Whatever is
-- said of a graph is said of these parts.
use Rattle.std.specs.Prelude.{ℕ, Bool, not, List, [], ◌∷◌, map, filter, Option, slice_get}
use Rattle.std.specs.List.{find}
use Rattle.std.specs.Option.{option_map}
use Rattle.std.specs.Str.{bytes_eq}
use Rattle.rv_code.specs.declared.image.Name.{Name}
use Rattle.rv_code.specs.declared.image.Range.{Range}
use Rattle.rv_code.specs.declared.instr.Instr.{Instr}
use Rattle.rv_code.specs.Code.{code_word, extents_of, is_code}
use Rattle.rv_code.specs.ImageParts.{ImageParts}
use Rattle.rv_code.specs.Places.{code_addresses}
use Rattle.rv_code.specs.Table.{meaning_of}

-- the names, each once, in the order of their first symbols: the first symbol of a name keeps it
abbrev pub first_seen : List Name → List Name
first_seen [] = []
first_seen (name ∷ names) = name ∷ filter (λ (other : Name). not (bytes_eq other.text name.text)) (first_seen names)

-- the address that goes with a name among these, if the name is one of them
abbrev pub routine_named : List Name → (text : List ℕ) → Option ℕ
routine_named names text = option_map (λ (name : Name). name.address) (find (λ (name : Name). bytes_eq text name.text) names)

-- the text of the name with a number, counted from 0, if there are so many
abbrev pub text_numbered : List Name → (number : ℕ) → Option (List ℕ)
text_numbered names number = option_map (λ (name : Name). name.text) (slice_get names number)

pub record CodeParts : Type 0 where
  pub entry : ℕ
  pub code : List Range
  -- the addresses of the functions, in the order of the symbols
  pub functions : List ℕ
  -- the functions' names, each once
  pub routines : List Name
  pub named : List ℕ

abbrev pub code_parts : ImageParts → CodeParts
code_parts image =
    record {
      entry = image.entry;
      code = image.code;
      functions = map (λ (name : Name). name.address) image.names;
      routines = first_seen image.names;
      named = image.named;
    }

-- the addresses of the code words, in order
abbrev pub words_of_parts : CodeParts → List ℕ
words_of_parts parts = code_addresses (extents_of parts.code)

-- a code word stands at this address
abbrev pub has_code : CodeParts → ℕ → Bool
has_code parts address = is_code (extents_of parts.code) address

-- the instruction of the code word at this address, if there is one
abbrev pub instr_in : List Range → ℕ → Option Instr
instr_in ranges address = option_map meaning_of (code_word ranges address)

abbrev pub instr_at : CodeParts → ℕ → Option Instr
instr_at parts address = instr_in parts.code address
