-- Which bytes are refused as a schema, but for its edges: the first refusal that holds, in this order. This project's own.
use Rattle.std.specs.Prelude.{ℕ, ◌+◌, ◌-◌, ◌%◌, ◌==◌, Bool, true, not, ◌&&◌, ◌||◌, List, length, take, Option, Some, None, nat_le, nat_lt, if◌then◌else◌}
use Rattle.std.specs.List.{find, range_with_len}
use Rattle.std.specs.Option.{option_map, option_map_or, option_or}
use Rattle.std.specs.Str.{bytes_eq}
use Rattle.rv_code.specs.declared.extent.Extent.{Extent}
use Rattle.rv_code.specs.Addresses.{stack_start}
use Rattle.rv_code.specs.Code.{extent_end, is_code}
use Rattle.rv_code.specs.Limits.{ranges_limit}
use Rattle.rv_code.specs.Places.{address_of}
use Rattle.rv_code.specs.declared.limits.TheConstants.{WORDS_LIMIT}
use Rattle.schema_form.specs.declared.fault.SchemaFault.{SchemaFault}
use Rattle.schema_form.specs.declared.fault.SchemaFault.TheVariants.{NotSchema, BadEntry, TooLarge}
use Rattle.schema_form.specs.declared.limits.TheConstants.{SCHEMA_LIMIT}
use Rattle.schema_form.specs.Layout.{entry_from, stretch_count, stretch_offset, stretch_from, stretches_from, words_total, word_offset, schema_word_from}
use Rattle.schema_form.specs.Rules.{word_misfits}
use Rattle.schema_form.specs.Spelling.{schema_magic}

-- the header isn't whole, or there is no stretch, or too many
abbrev pub header_misfits : List ℕ → Bool
header_misfits bytes = nat_lt (length bytes) (stretch_offset 0) || (stretch_count bytes == 0) || nat_lt ranges_limit (stretch_count bytes)

abbrev pub front_refusal : List ℕ → Option SchemaFault
front_refusal bytes =
    if nat_lt SCHEMA_LIMIT (length bytes) then Some TooLarge
    else (if not (bytes_eq (take 4 bytes) schema_magic) then Some NotSchema
    else (if header_misfits bytes then Some (BadEntry 0)
    else None))

-- the stretch doesn't begin behind the end of the one before, if there is one
abbrev pub meets_before : List ℕ → (number : ℕ) → Bool
meets_before bytes number = nat_lt 0 number && nat_le (stretch_from bytes number).start (extent_end (stretch_from bytes (number - 1)))

-- the stretch with this number isn't whole or isn't allowed
abbrev pub stretch_misfits : List ℕ → (number : ℕ) → Bool
stretch_misfits bytes number =
    nat_lt (length bytes) (stretch_offset number + 8)
    || not ((stretch_from bytes number).start % 4 == 0)
    || ((stretch_from bytes number).count == 0)
    || nat_lt stack_start (extent_end (stretch_from bytes number))
    || meets_before bytes number

-- the code words are too many with those of this stretch
abbrev pub is_too_many : List ℕ → (number : ℕ) → Bool
is_too_many bytes number = nat_lt WORDS_LIMIT (words_total (stretches_from bytes (number + 1)))

abbrev pub stretch_offends : List ℕ → (number : ℕ) → Bool
stretch_offends bytes number = stretch_misfits bytes number || is_too_many bytes number

abbrev pub stretch_fault : List ℕ → (number : ℕ) → SchemaFault
stretch_fault bytes number = if stretch_misfits bytes number then BadEntry (stretch_offset number) else TooLarge

-- the first of so many stretches that isn't allowed
abbrev pub stretch_refusal : List ℕ → (count : ℕ) → Option SchemaFault
stretch_refusal bytes count = option_map (stretch_fault bytes) (find (stretch_offends bytes) (range_with_len 0 count))

-- the code word at this place isn't whole or isn't allowed
abbrev pub word_offends : List ℕ → List Extent → (first place : ℕ) → Bool
word_offends bytes stretches first place =
    nat_lt (length bytes) (word_offset first place + 12)
    || option_map_or (λ address. word_misfits stretches address (schema_word_from bytes (word_offset first place))) (address_of stretches place) true

-- the first code word of these stretches that isn't allowed, where the first of them stands at an offset
abbrev pub word_refusal : List ℕ → List Extent → (first : ℕ) → Option SchemaFault
word_refusal bytes stretches first =
    option_map (λ place. BadEntry (word_offset first place)) (find (word_offends bytes stretches first) (range_with_len 0 (words_total stretches)))

-- a byte stands behind the last word
abbrev pub end_refusal : List ℕ → (behind : ℕ) → Option SchemaFault
end_refusal bytes behind = if nat_lt behind (length bytes) then Some (BadEntry behind) else None

-- what is refused behind the stretches
abbrev pub body_refusal : List ℕ → List Extent → (first : ℕ) → Option SchemaFault
body_refusal bytes stretches first =
    if not (is_code stretches (entry_from bytes)) then Some (BadEntry 4)
    else option_or (word_refusal bytes stretches first) (end_refusal bytes (word_offset first (words_total stretches)))

-- what is refused up to the last stretch
abbrev pub head_refusal : List ℕ → Option SchemaFault
head_refusal bytes = option_or (front_refusal bytes) (stretch_refusal bytes (stretch_count bytes))

abbrev pub form_refusal : List ℕ → Option SchemaFault
form_refusal bytes =
    option_or (head_refusal bytes) (body_refusal bytes (stretches_from bytes (stretch_count bytes)) (stretch_offset (stretch_count bytes)))
