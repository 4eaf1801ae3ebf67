-- The options behind the file words: each is two words, a name and a value, and stands at most once, in any order.
use Rattle.std.specs.Prelude.{ℕ, ◌+◌, not, ◌&&◌, if◌then◌else◌, List, [], ◌∷◌, Option, Some, None, codes}
use Rattle.std.specs.Option.{is_none, option_len, option_map, option_and_then}
use Rattle.std.specs.Str.{bytes_eq}
use Rattle.ae_words.specs.declared.options.GivenOptions.{GivenOptions}
use Rattle.ae_words.specs.declared.options.Slot.{Slot}
use Rattle.ae_words.specs.declared.options.Slot.TheVariants.{Fuel, Dump}
use Rattle.ae_words.specs.declared.options.Takes.{Takes}
use Rattle.ae_words.specs.declared.options.Takes.TheVariants.{Run, Plain}
use Rattle.ae_words.specs.Files.{is_file_word, is_among}
use Rattle.ae_words.specs.Numbers.{positive_number}

-- the table of options: of each command that takes some, their names, and where the value of each goes
abbrev pub option_table : Takes → List (List ℕ × Slot)
option_table Run = (codes "--fuel", Fuel) ∷ (codes "--dump", Dump) ∷ []
option_table Plain = (codes "--fuel", Fuel) ∷ []

-- where the value of the option of this name goes, by such a table
abbrev pub slot_named : List (List ℕ × Slot) → List ℕ → Option Slot
slot_named [] name = None
slot_named (row ∷ rows) name = if bytes_eq name row.0 then Some row.1 else slot_named rows name

-- no option
abbrev pub no_options : GivenOptions
no_options = record { fuel = None; dump = None }

-- how many options there are
abbrev pub options_count : GivenOptions → ℕ
options_count given = option_len given.fuel + option_len given.dump

-- the fuel in addition: none where there was one, or the value isn't a number from 1 to 2^64 - 1
abbrev pub with_fuel : GivenOptions → List ℕ → Option GivenOptions
with_fuel so_far value = if is_none so_far.fuel then option_map (λ fuel. record so_far { fuel = Some fuel }) (positive_number value) else None

-- the dump's file at this place in addition: none where there was one, or the value isn't a file word, or is among these
abbrev pub with_dump : List (List ℕ) → GivenOptions → ℕ → List ℕ → Option GivenOptions
with_dump files so_far place value = if is_none so_far.dump && is_file_word value && not (is_among value files) then Some (record so_far { dump = Some place }) else None

-- the value at this place in addition, where it goes
abbrev pub with_value : List (List ℕ) → GivenOptions → ℕ → List ℕ → Slot → Option GivenOptions
with_value files so_far place value Fuel = with_fuel so_far value
with_value files so_far place value Dump = with_dump files so_far place value

-- the option in addition that has this name, and this value at this place: none where the command takes none of the name
abbrev pub with_option : Takes → List (List ℕ) → GivenOptions → ℕ → List ℕ → List ℕ → Option GivenOptions
with_option takes files so_far place name value = option_and_then (with_value files so_far place value) (slot_named (option_table takes) name)

-- what the words say that stand from this place on, beside what the options before them said
abbrev pub options_given : Takes → List (List ℕ) → GivenOptions → ℕ → List (List ℕ) → Option GivenOptions
options_given takes files so_far place [] = Some so_far
options_given takes files so_far place (name ∷ []) = None
options_given takes files so_far place (name ∷ value ∷ rest) =
    option_and_then (λ now. options_given takes files now (place + 2) rest) (with_option takes files so_far (place + 1) name value)
