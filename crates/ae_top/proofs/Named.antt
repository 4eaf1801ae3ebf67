-- Where the file words of a command stand among all words.
use Rattle.std.proofs.Common.{ℕ, ◌<◌, Bool, true, false, List, [], ◌∷◌, length, arith, Option, None, Some}
use Rattle.std.specs.Prelude.{IfSome, if◌then◌else◌, codes, ◌&&◌}
use Rattle.std.specs.Option.{option_map, option_and_then}
use Rattle.std.specs.Str.{bytes_eq}
use Rattle.ae_words.specs.declared.command.Command.{Command}
use Rattle.ae_words.specs.declared.command.Command.TheVariants.{Run, Plain, Rewrite, Regenerate, Profile, PrintEvents, Sample}
use Rattle.ae_words.specs.declared.options.GivenOptions.{GivenOptions}
use Rattle.ae_words.specs.declared.options.Takes.{Takes}
use Rattle.ae_words.specs.Numbers.{short_positive_number}
use Rattle.ae_words.specs.Files.{is_file_word, are_file_words}
use Rattle.ae_words.specs.Options.{no_options, options_given}
use Rattle.ae_words.specs.Command.{run_with, run_command, plain_command, rewrite_command, regenerate_command, profile_command, print_kind_command, print_command, sample_command, help_command}
use Rattle.ae_top.specs.Inner.FileWords.{NamesAmong}
use Rattle.ae_top.specs.Task.{task_of, task_in}

-- the file words of a command's task are among so many words
abbrev Names : ℕ → Option Command → Type 0
Names count command = IfSome (option_and_then task_of command) (NamesAmong count)

either : (count : ℕ) (test : Bool) (one other : Option Command) → Names count one → Names count other → Names count (if test then one else other)
either count true one other left right = left
either count false one other left right = right

-- where a test fails there is no command
where_so : (count : ℕ) (test : Bool) (command : Option Command) → Names count command → Names count (if test then command else None)
where_so count test command named = either count test command None named tt

run_named : (count : ℕ) (events fuel dump : Option ℕ) → 1 < count → Names count (Some (Run 1 events fuel dump))
run_named count None fuel None h = h
run_named count None fuel (Some dump) h = tt
run_named count (Some events) fuel dump h = tt

options_named : (count : ℕ) (events : Option ℕ) (given : Option GivenOptions) → 1 < count
    → Names count (option_map (λ given. Run 1 events given.fuel given.dump) given)
options_named count events None h = tt
options_named count events (Some given) h = run_named count events given.fuel given.dump h

run_with_named : (count : ℕ) (files : List (List ℕ)) (events : Option ℕ) (place : ℕ) (options : List (List ℕ)) → 1 < count → Names count (run_with files events place options)
run_with_named count files events place options h =
    where_so count (are_file_words files) (option_map (λ given. Run 1 events given.fuel given.dump) (options_given Takes.Run files no_options place options))
    (options_named count events (options_given Takes.Run files no_options place options) h)

run_of_named : (count : ℕ) (words : List (List ℕ)) → length words < count → Names count (run_command words)
run_of_named count [] h = tt
run_of_named count (prog ∷ []) h = run_with_named count (prog ∷ []) None 2 [] (omega arith)
run_of_named count (prog ∷ second ∷ rest) h =
    let two : 1 < count = omega arith in
    either count (is_file_word second) (run_with (prog ∷ second ∷ []) (Some 2) 3 rest) (run_with (prog ∷ []) None 2 (second ∷ rest))
    (run_with_named count (prog ∷ second ∷ []) (Some 2) 3 rest two)
    (run_with_named count (prog ∷ []) None 2 (second ∷ rest) two)

fuel_named : (count : ℕ) (given : Option GivenOptions) → 2 < count → Names count (option_map (λ given. Plain 1 2 given.fuel) given)
fuel_named count None h = tt
fuel_named count (Some given) h = (omega arith, h)

plain_of_named : (count : ℕ) (words : List (List ℕ)) → length words < count → Names count (plain_command words)
plain_of_named count [] h = tt
plain_of_named count (prog ∷ []) h = tt
plain_of_named count (prog ∷ trace ∷ options) h =
    let given = options_given Takes.Plain (prog ∷ trace ∷ []) no_options 3 options in
    where_so count (are_file_words (prog ∷ trace ∷ [])) (option_map (λ given. Plain 1 2 given.fuel) given) (fuel_named count given (omega arith))

rewrite_of_named : (count : ℕ) (words : List (List ℕ)) → Names count (rewrite_command words)
rewrite_of_named count [] = tt
rewrite_of_named count (prog ∷ []) = tt
rewrite_of_named count (prog ∷ new ∷ []) = tt
rewrite_of_named count (prog ∷ new ∷ schema ∷ []) = where_so count (are_file_words (prog ∷ new ∷ schema ∷ [])) (Some (Rewrite 1 2 3)) tt
rewrite_of_named count (prog ∷ new ∷ schema ∷ more ∷ rest) = tt

regenerate_of_named : (count : ℕ) (words : List (List ℕ)) → length words < count → Names count (regenerate_command words)
regenerate_of_named count [] h = tt
regenerate_of_named count (schema ∷ []) h = tt
regenerate_of_named count (schema ∷ events ∷ []) h = tt
regenerate_of_named count (schema ∷ events ∷ trace ∷ []) h =
    where_so count (are_file_words (schema ∷ events ∷ trace ∷ [])) (Some (Regenerate 1 2 3)) (omega arith, omega arith, h)
regenerate_of_named count (schema ∷ events ∷ trace ∷ more ∷ rest) h = tt

profile_of_named : (count : ℕ) (words : List (List ℕ)) → Names count (profile_command words)
profile_of_named count [] = tt
profile_of_named count (schema ∷ []) = tt
profile_of_named count (schema ∷ events ∷ []) = where_so count (are_file_words (schema ∷ events ∷ [])) (Some (Profile 1 2)) tt
profile_of_named count (schema ∷ events ∷ more ∷ rest) = tt

kind_of_named : (count : ℕ) (kind : List ℕ) → 2 < count → Names count (print_kind_command kind)
kind_of_named count kind h =
    either count (bytes_eq kind (codes "elf")) _ _ h (either count (bytes_eq kind (codes "code")) _ _ h (either count (bytes_eq kind (codes "graph")) _ _ h (either count (bytes_eq kind (codes "needs")) _ _ h (either count (bytes_eq kind (codes "slice")) _ _ h (either count (bytes_eq kind (codes "schema")) _ _ h (tt))))))

print_of_named : (count : ℕ) (words : List (List ℕ)) → length words < count → Names count (print_command words)
print_of_named count [] h = tt
print_of_named count (kind ∷ []) h = tt
print_of_named count (kind ∷ file ∷ []) h = where_so count (is_file_word file) (print_kind_command kind) (kind_of_named count kind h)
print_of_named count (kind ∷ schema ∷ events ∷ []) h =
    where_so count (bytes_eq kind (codes "events") && are_file_words (schema ∷ events ∷ [])) (Some (PrintEvents 2 3)) (omega arith, h)
print_of_named count (kind ∷ schema ∷ events ∷ more ∷ rest) h = tt

number_named : (count : ℕ) (number : Option ℕ) → Names count (option_map (λ n. Sample n 2 3 4) number)
number_named count None = tt
number_named count (Some number) = tt

sample_of_named : (count : ℕ) (words : List (List ℕ)) → Names count (sample_command words)
sample_of_named count [] = tt
sample_of_named count (number ∷ []) = tt
sample_of_named count (number ∷ new ∷ []) = tt
sample_of_named count (number ∷ new ∷ schema ∷ []) = tt
sample_of_named count (number ∷ new ∷ schema ∷ events ∷ []) =
    where_so count (are_file_words (new ∷ schema ∷ events ∷ [])) (option_map (λ n. Sample n 2 3 4) (short_positive_number number))
    (number_named count (short_positive_number number))
sample_of_named count (number ∷ new ∷ schema ∷ events ∷ more ∷ rest) = tt

help_of_named : (count : ℕ) (words : List (List ℕ)) → Names count (help_command words)
help_of_named count [] = tt
help_of_named count (word ∷ words) = tt

-- each file word that the task of these words names is one of them
pub named : (words : List (List ℕ)) → IfSome (task_in words) (NamesAmong (length words))
named [] = tt
named (name ∷ words) =
    let count = length (name ∷ words) in
    let fewer : length words < count = omega arith in
    either count (bytes_eq name (codes "run")) _ _ (run_of_named count words fewer)
    (either count (bytes_eq name (codes "plain")) _ _ (plain_of_named count words fewer)
    (either count (bytes_eq name (codes "rewrite")) _ _ (rewrite_of_named count words)
    (either count (bytes_eq name (codes "regenerate")) _ _ (regenerate_of_named count words fewer)
    (either count (bytes_eq name (codes "profile")) _ _ (profile_of_named count words)
    (either count (bytes_eq name (codes "print")) _ _ (print_of_named count words fewer)
    (either count (bytes_eq name (codes "sample")) _ _ (sample_of_named count words)
    (either count (bytes_eq name (codes "help")) _ _ (help_of_named count words) tt)))))))
