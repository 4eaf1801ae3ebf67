-- The command that the words spell, each word being any bytes, and the places of its file words among all words,
-- counted from 0. It is none where the words are no command.
use Rattle.std.specs.Prelude.{ℕ, ◌&&◌, List, [], ◌∷◌, Option, None, Some, if◌then◌else◌, codes}
use Rattle.std.specs.Option.{option_map}
use Rattle.std.specs.Str.{bytes_eq}
use Rattle.ae_words.specs.declared.command.Command.{Command}
use Rattle.ae_words.specs.declared.command.Command.TheVariants.{Run, Plain, Rewrite, Regenerate, Profile, PrintElf, PrintCode, PrintGraph, PrintNeeds, PrintSlice, PrintSchema, PrintEvents, Sample, Help}
use Rattle.ae_words.specs.Files.{is_file_word, are_file_words}
use Rattle.ae_words.specs.Numbers.{short_positive_number}
use Rattle.ae_words.specs.declared.options.Takes.{Takes}
use Rattle.ae_words.specs.Options.{no_options, options_given}

-- `run` with these file words, the options from this place on
abbrev pub run_with : List (List ℕ) → Option ℕ → ℕ → List (List ℕ) → Option Command
run_with files events place options =
    if are_file_words files then option_map (λ given. Run 1 events given.fuel given.dump) (options_given Takes.Run files no_options place options) else None

-- behind `run`: PROG or PROG EVENTS, then options. A second word that names no file can only be an option.
abbrev pub run_command : List (List ℕ) → Option Command
run_command [] = None
run_command (prog ∷ []) = run_with (prog ∷ []) None 2 []
run_command (prog ∷ second ∷ rest) =
    if is_file_word second then run_with (prog ∷ second ∷ []) (Some 2) 3 rest else run_with (prog ∷ []) None 2 (second ∷ rest)

-- `plain` with these file words, the options from place 3 on
abbrev pub plain_with : List (List ℕ) → List (List ℕ) → Option Command
plain_with files options =
    if are_file_words files then option_map (λ given. Plain 1 2 given.fuel) (options_given Takes.Plain files no_options 3 options) else None

-- behind `plain`: PROG TRACE, then options
abbrev pub plain_command : List (List ℕ) → Option Command
plain_command (prog ∷ trace ∷ options) = plain_with (prog ∷ trace ∷ []) options
plain_command words = None

-- behind `rewrite`: PROG NEW SCHEMA
abbrev pub rewrite_command : List (List ℕ) → Option Command
rewrite_command (prog ∷ new ∷ schema ∷ []) = if are_file_words (prog ∷ new ∷ schema ∷ []) then Some (Rewrite 1 2 3) else None
rewrite_command words = None

-- behind `regenerate`: SCHEMA EVENTS TRACE
abbrev pub regenerate_command : List (List ℕ) → Option Command
regenerate_command (schema ∷ events ∷ trace ∷ []) = if are_file_words (schema ∷ events ∷ trace ∷ []) then Some (Regenerate 1 2 3) else None
regenerate_command words = None

-- behind `profile`: SCHEMA EVENTS
abbrev pub profile_command : List (List ℕ) → Option Command
profile_command (schema ∷ events ∷ []) = if are_file_words (schema ∷ events ∷ []) then Some (Profile 1 2) else None
profile_command words = None

-- what of one file is printed
abbrev pub print_kind_command : List ℕ → Option Command
print_kind_command kind =
    if bytes_eq kind (codes "elf") then Some (PrintElf 2)
    else if bytes_eq kind (codes "code") then Some (PrintCode 2)
    else if bytes_eq kind (codes "graph") then Some (PrintGraph 2)
    else if bytes_eq kind (codes "needs") then Some (PrintNeeds 2)
    else if bytes_eq kind (codes "slice") then Some (PrintSlice 2)
    else if bytes_eq kind (codes "schema") then Some (PrintSchema 2)
    else None

-- behind `print`: KIND FILE, or `events` SCHEMA EVENTS
abbrev pub print_command : List (List ℕ) → Option Command
print_command (kind ∷ file ∷ []) = if is_file_word file then print_kind_command kind else None
print_command (kind ∷ schema ∷ events ∷ []) = if bytes_eq kind (codes "events") && are_file_words (schema ∷ events ∷ []) then Some (PrintEvents 2 3) else None
print_command words = None

-- behind `sample`: N NEW SCHEMA EVENTS
abbrev pub sample_command : List (List ℕ) → Option Command
sample_command (number ∷ new ∷ schema ∷ events ∷ []) = if are_file_words (new ∷ schema ∷ events ∷ []) then option_map (λ n. Sample n 2 3 4) (short_positive_number number) else None
sample_command words = None

-- behind `help`: nothing
abbrev pub help_command : List (List ℕ) → Option Command
help_command [] = Some Help
help_command words = None

-- the first word names the command
abbrev pub command_of : List (List ℕ) → Option Command
command_of [] = None
command_of (name ∷ words) =
    if bytes_eq name (codes "run") then run_command words
    else if bytes_eq name (codes "plain") then plain_command words
    else if bytes_eq name (codes "rewrite") then rewrite_command words
    else if bytes_eq name (codes "regenerate") then regenerate_command words
    else if bytes_eq name (codes "profile") then profile_command words
    else if bytes_eq name (codes "print") then print_command words
    else if bytes_eq name (codes "sample") then sample_command words
    else if bytes_eq name (codes "help") then help_command words
    else None
