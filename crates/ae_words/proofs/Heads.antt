-- What the grammar says of words whose first two are known.
use Rattle.std.proofs.Common.{◌≡◌, ℕ, ◌+◌, ◌-◌, ◌≤◌, Bool, true, false, if◌then◌else◌, List, [], ◌∷◌, length, take, drop, slice_index_or, Some, None, sym, ap, ◌∙◌, arith}
use Rattle.std.specs.Option.{option_and_then}
use Rattle.std.proofs.lemmas.List.{take_all}
use Rattle.ae_words.specs.declared.options.GivenOptions.{GivenOptions}
use Rattle.ae_words.specs.declared.options.Takes.{Takes}
use Rattle.ae_words.specs.Files.{is_file_word}
use Rattle.ae_words.specs.Options.{with_option, options_given}
use Rattle.ae_words.specs.Command.{run_with, run_command, plain_with, plain_command}

-- all that stands behind two words
behind_two : (one two : List ℕ) (rest : List (List ℕ)) → take (length (one ∷ two ∷ rest) - 2) rest ≡ rest
behind_two one two rest = take_all (length (one ∷ two ∷ rest) - 2) rest (omega arith)

-- the first two words are one option more
pub option_more : (takes : Takes) (files : List (List ℕ)) (so_far now : GivenOptions) (place : ℕ) (words : List (List ℕ)) (name value : List ℕ) → 2 ≤ length words
    → name ≡ slice_index_or words 0 name → value ≡ slice_index_or words 1 value → Some now ≡ with_option takes files so_far (place + 1) name value
    → options_given takes files now (place + 2) (take (length words - 2) (drop 2 words)) ≡ options_given takes files so_far place words
option_more takes files so_far now place [] name value size first second more = absurd (omega arith)
option_more takes files so_far now place (one ∷ []) name value size first second more = absurd (omega arith)
option_more takes files so_far now place (one ∷ two ∷ rest) name value size first second more =
    let named : Some now ≡ with_option takes files so_far (place + 1) one value = more ∙ ap (λ word. with_option takes files so_far (place + 1) word value) first in
    let more : Some now ≡ with_option takes files so_far (place + 1) one two = named ∙ ap (with_option takes files so_far (place + 1) one) second in
    ap (options_given takes files now (place + 2)) (behind_two one two rest) ∙ ap (option_and_then (λ now. options_given takes files now (place + 2) rest)) more

-- where the second word names a file, it is EVENTS
pub second_is_file : (words : List (List ℕ)) (word : List ℕ) → 2 ≤ length words → word ≡ slice_index_or words 1 word → is_file_word word ≡ true
    → run_with (take 2 words) (Some 2) 3 (take (length words - 2) (drop 2 words)) ≡ run_command words
second_is_file [] word size second file = absurd (omega arith)
second_is_file (prog ∷ []) word size second file = absurd (omega arith)
second_is_file (prog ∷ two ∷ rest) word size second file =
    let file : is_file_word two ≡ true = ap is_file_word (sym second) ∙ file in
    let either = λ (test : Bool). if test then run_with (prog ∷ two ∷ []) (Some 2) 3 rest else run_with (prog ∷ []) None 2 (two ∷ rest) in
    ap (run_with (prog ∷ two ∷ []) (Some 2) 3) (behind_two prog two rest) ∙ ap either (sym file)

-- where it doesn't, the options begin with it
pub second_is_option : (words : List (List ℕ)) (word : List ℕ) → 2 ≤ length words → word ≡ slice_index_or words 1 word → is_file_word word ≡ false
    → run_with (take 1 words) None 2 (take (length words - 1) (drop 1 words)) ≡ run_command words
second_is_option [] word size second file = absurd (omega arith)
second_is_option (prog ∷ []) word size second file = absurd (omega arith)
second_is_option (prog ∷ two ∷ rest) word size second file =
    let file : is_file_word two ≡ false = ap is_file_word (sym second) ∙ file in
    let whole : take (length (prog ∷ two ∷ rest) - 1) (two ∷ rest) ≡ two ∷ rest = take_all (length (prog ∷ two ∷ rest) - 1) (two ∷ rest) (omega arith) in
    let either = λ (test : Bool). if test then run_with (prog ∷ two ∷ []) (Some 2) 3 rest else run_with (prog ∷ []) None 2 (two ∷ rest) in
    ap (run_with (prog ∷ []) None 2) whole ∙ ap either (sym file)

-- what stands behind two words is the options of `plain`
pub behind_plain : (words : List (List ℕ)) → 2 ≤ length words → plain_with (take 2 words) (take (length words - 2) (drop 2 words)) ≡ plain_command words
behind_plain [] size = absurd (omega arith)
behind_plain (prog ∷ []) size = absurd (omega arith)
behind_plain (prog ∷ trace ∷ options) size = ap (plain_with (prog ∷ trace ∷ [])) (behind_two prog trace options)
