-- What is asked of the code words, one after the other.
use Rattle.std.proofs.Common.{◌≡◌, ◌≢◌, ℕ, ◌+◌, ◌<◌, ◌≤◌, Bool, true, false, cond, not, eqb, List, [], ◌∷◌, ◌++◌, length, arith, Option, None, Some, refl, sym, ap, ◌∙◌, subst}
use Rattle.std.proofs.lemmas.Bool.Decides.{nat_tests}
use Rattle.std.proofs.lemmas.List.{length-append}
use Rattle.std.specs.Option.{option_map, option_or}
use Rattle.std.specs.Prelude.{nat_lt}
use Rattle.std.proofs.lemmas.Bool.{not-false}
use Rattle.elf_image.specs.declared.fault.ImageFault.TheVariants.{NoCode, EntryNotCode, BadRelocation, TooLarge}
use Rattle.elf_image.specs.declared.fault.Over.{Over}
use Rattle.elf_image.specs.declared.fault.Over.TheVariants.{Mapped, Ranges, Words}
use Rattle.elf_image.specs.CodeWords.{code_words, is_code_word, extents_in}
use Rattle.elf_image.specs.Loads.{has_note, bad_program_header, regions_of}
use Rattle.elf_image.specs.Inner.Loaded.{loaded_length}
use Rattle.elf_image.specs.Named.{bad_relocation}
use Rattle.elf_image.specs.Refusal.{over_of, too_large, code_refusal}
use Rattle.elf_image.proofs.CodeAt.{extents_in-AreCodeExtents, extents_in-is_code, extents_in-count}
use Rattle.elf_image.proofs.Mapped.{mapped_length_is}
use Rattle.elf_raw.specs.Header.{header_of}
use Rattle.elf_raw.specs.Refusal.{IsSound}
use Rattle.elf_raw.specs.Segments.{segments_of}
use Rattle.rv_code.specs.declared.extent.Extent.{Extent}
use Rattle.rv_code.specs.Code.{is_code}
use Rattle.rv_code.specs.Image.{mapped_length}
use Rattle.rv_code.specs.Limits.{mapped_limit, ranges_limit, words_limit}
use Rattle.rv_code.specs.Places.{words_of, code_addresses, AreCodeExtents}
use Rattle.rv_code.proofs.LawsOfPlaces.{length-words_of}
use Rattle.rv_code.proofs.LawsOfRows.{none_left, none_mapped, none_first, none_second}

-- the answer by the four answers below it
pub refused_at : (bytes : List ℕ) (none entry : Bool) (found : Option ℕ) (over : Option Over)
    → eqb (length (code_words bytes)) 0 ≡ none → is_code_word bytes (header_of bytes).entry ≡ entry → bad_relocation bytes ≡ found → too_large bytes ≡ over
    → code_refusal bytes ≡ cond none (Some NoCode) (cond (not entry) (Some EntryNotCode) (option_or (option_map BadRelocation found) (option_map TooLarge over)))
refused_at bytes none entry found over none_is entry_is found_is over_is =
    ap (λ t. cond t (Some NoCode) (cond (not (is_code_word bytes (header_of bytes).entry)) (Some EntryNotCode) (option_or (option_map BadRelocation (bad_relocation bytes)) (option_map TooLarge (too_large bytes))))) none_is
    ∙ ap (λ t. cond none (Some NoCode) (cond (not t) (Some EntryNotCode) (option_or (option_map BadRelocation (bad_relocation bytes)) (option_map TooLarge (too_large bytes))))) entry_is
    ∙ ap (λ t. cond none (Some NoCode) (cond (not entry) (Some EntryNotCode) (option_or (option_map BadRelocation t) (option_map TooLarge (too_large bytes))))) found_is
    ∙ ap (λ t. cond none (Some NoCode) (cond (not entry) (Some EntryNotCode) (option_or (option_map BadRelocation found) (option_map TooLarge t)))) over_is

-- where there are no extents there are no code words
pub no_words : (bytes : List ℕ) (extents : List Extent) → extents ≡ extents_in bytes → length extents ≡ 0 → eqb (length (code_words bytes)) 0 ≡ true
no_words bytes [] is none = ap (λ n. eqb n 0) (sym (extents_in-count bytes) ∙ ap (λ es. length (code_addresses es)) (sym is))
no_words bytes (extent ∷ extents) is none = absurd (omega arith)

pub entry_code : (bytes : List ℕ) (extents : List Extent) (address : ℕ) (entry : Bool) → extents ≡ extents_in bytes → address ≡ (header_of bytes).entry → entry ≡ is_code extents address
    → is_code_word bytes (header_of bytes).entry ≡ entry
entry_code bytes extents address entry is at code =
    sym (code ∙ ap (λ es. is_code es address) is ∙ extents_in-is_code bytes address ∙ ap (is_code_word bytes) at)

pub over_is : (bytes : List ℕ) (extents : List Extent) (over : Option Over) → IsSound bytes → bad_program_header bytes ≡ None → extents ≡ extents_in bytes
    → over ≡ over_of (has_note (segments_of bytes)) (loaded_length (segments_of bytes)) (length extents) (length (code_addresses extents)) → too_large bytes ≡ over
over_is bytes extents over sound good is got =
    let noted = has_note (segments_of bytes) in
    ap (λ mapped. over_of noted mapped (length (extents_in bytes)) (length (code_words bytes))) (mapped_length_is bytes sound good)
    ∙ ap (λ words. over_of noted (loaded_length (segments_of bytes)) (length (extents_in bytes)) words) (sym (extents_in-count bytes))
    ∙ ap (λ es. over_of noted (loaded_length (segments_of bytes)) (length es) (length (code_addresses es))) (sym is)
    ∙ sym got

-- and where there are some, there are
pub some_words : (bytes : List ℕ) (extents : List Extent) → extents ≡ extents_in bytes → length extents ≢ 0 → eqb (length (code_words bytes)) 0 ≡ false
some_words bytes [] is some = absurd (some refl)
some_words bytes (extent ∷ extents) is some =
    let runs = subst (λ es. AreCodeExtents es) (sym is) (extents_in-AreCodeExtents bytes) in
    let count : length (words_of extent ++ code_addresses extents) ≡ length (words_of extent) + length (code_addresses extents) = length-append (words_of extent) (code_addresses extents) in
    let first : length (words_of extent) ≡ extent.count = length-words_of extent in
    let more : 0 < extent.count = runs.each.0.some in
    let same : length (code_addresses (extent ∷ extents)) ≡ length (code_words bytes) = ap (λ es. length (code_addresses es)) is ∙ extents_in-count bytes in
    let some_word : 0 < length (code_words bytes) = omega (arith, count) in
    grind (arith, nat_tests)

-- an answer of None leaves out each refusal

no_more : (limit number : ℕ) → nat_lt limit number ≡ false → number ≤ limit
no_more limit number is = grind (arith, nat_tests)

pub record IsCodeAccepted (bytes : List ℕ) : Type 0 where
  pub entry : is_code_word bytes (header_of bytes).entry ≡ true
  pub relocations : bad_relocation bytes ≡ None
  pub mapped : mapped_length (regions_of bytes) ≤ mapped_limit
  pub ranges : length (extents_in bytes) ≤ ranges_limit
  pub words : length (code_words bytes) ≤ words_limit (has_note (segments_of bytes))

pub code_accepted : (bytes : List ℕ) → code_refusal bytes ≡ None → IsCodeAccepted bytes
code_accepted bytes is =
    let some = none_left _ NoCode _ is in
    let entry = none_left _ EntryNotCode _ some.1 in
    let found = none_mapped BadRelocation (bad_relocation bytes) (none_first (option_map BadRelocation (bad_relocation bytes)) (option_map TooLarge (too_large bytes)) entry.1) in
    let over = none_mapped TooLarge (too_large bytes) (none_second (option_map BadRelocation (bad_relocation bytes)) (option_map TooLarge (too_large bytes)) entry.1) in
    let mapped = none_left _ Mapped _ over in
    let ranges = none_left _ Ranges _ mapped.1 in
    let words = none_left _ Words _ ranges.1 in
    record {
      entry = not-false _ entry.0;
      relocations = found;
      mapped = no_more mapped_limit (mapped_length (regions_of bytes)) mapped.0;
      ranges = no_more ranges_limit (length (extents_in bytes)) ranges.0;
      words = no_more (words_limit (has_note (segments_of bytes))) (length (code_words bytes)) words.0;
    }
