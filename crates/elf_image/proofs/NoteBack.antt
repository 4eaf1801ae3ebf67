-- A note that was written is read back.
use Rattle.std.proofs.Common.{◌≡◌, ℕ, zero, suc, ◌+◌, ◌-◌, ◌*◌, ◌%◌, ◌^◌, ◌<◌, Bool, true, List, [], ◌∷◌, ◌++◌, length, get_or, map, refl, sym, ap, ◌∙◌, arith}
use Rattle.std.specs.List.{All, AllByRecursion, flat_map, list_all, range_with_len}
use Rattle.std.proofs.lemmas.Bool.{lt-ltb, le-leb, eq-eqb, and_from}
use Rattle.std.proofs.lemmas.List.{append-nil, get_or-map, length-map}
use Rattle.std.proofs.lemmas.List.Elements.{All-from_recursion}
use Rattle.std.proofs.lemmas.List.FromFn.{fill_by_all, get_or-range_with_len, length-range_with_len}
use Rattle.std.proofs.lemmas.List.Sums.{list_all-from_AllPass}
use Rattle.elf_raw.specs.Numbers.{word_at}
use Rattle.elf_raw.specs.Written.{word_bytes}
use Rattle.rv_code.specs.declared.image.Mark.{Mark}
use Rattle.rv_code.specs.declared.image.Note.{Note}
use Rattle.rv_code.specs.Image.{IsNote}
use Rattle.rv_code.specs.Numbers.{IsWord}
use Rattle.elf_image.specs.NoteBytes.{note_magic, mark_count, mark_of, note_of, rises_at, marks_rise, is_aligned_at, originals_are_aligned, has_note_length, is_note, mark_words, note_words, note_bytes}

-- the two words of each mark
from_word : (marks : List Mark) (k : ℕ) (d : Mark) → k < length marks → get_or (flat_map mark_words marks) (2 * k) 0 ≡ (get_or marks k d).from
from_word [] k d within = absurd (omega arith)
from_word (mark ∷ marks) zero d within = refl
from_word (mark ∷ marks) (suc k) d within =
    let there : 2 * suc k ≡ suc (suc (2 * k)) = omega arith in
    ap (λ n. get_or (flat_map mark_words (mark ∷ marks)) n 0) there ∙ from_word marks k d (omega arith)

original_word : (marks : List Mark) (k : ℕ) (d : Mark) → k < length marks → get_or (flat_map mark_words marks) (2 * k + 1) 0 ≡ (get_or marks k d).original
original_word [] k d within = absurd (omega arith)
original_word (mark ∷ marks) zero d within = refl
original_word (mark ∷ marks) (suc k) d within =
    let there : 2 * suc k + 1 ≡ suc (suc (2 * k + 1)) = omega arith in
    ap (λ n. get_or (flat_map mark_words (mark ∷ marks)) n 0) there ∙ original_word marks k d (omega arith)

words_length : (marks : List Mark) → length (flat_map mark_words marks) ≡ 2 * length marks
words_length [] = omega arith
words_length (mark ∷ marks) = omega (arith, words_length marks)

marks_fit : (marks : List Mark) → AllByRecursion (λ (mark : Mark). IsWord mark.from × IsWord mark.original) marks → AllByRecursion IsWord (flat_map mark_words marks)
marks_fit [] fit = tt
marks_fit (mark ∷ marks) fit = (fit.0.0, (fit.0.1, marks_fit marks fit.1))

-- how words are read back
pub record AreRead : Type 0 where
  pub size : (words : List ℕ) → length (word_bytes words) ≡ 4 * length words
  pub each : (before words behind : List ℕ) (number : ℕ) → AllByRecursion IsWord words → number < length words
      → word_at (before ++ (word_bytes words ++ behind)) (length before + 4 * number) ≡ get_or words number 0

module _ (read : AreRead) (note : Note) (is : IsNote note) (few : length note.map < 2 ^ 32) where
  words_fit : AllByRecursion IsWord (note_words note)
  words_fit = (is.words.0, (is.words.1, (is.words.2, (is.words.3, (is.words.4, (few, marks_fit note.map is.marks))))))

  words_count : length (note_words note) ≡ 6 + 2 * length note.map
  words_count = omega (arith, words_length note.map)

  word_there : (at number : ℕ) → at ≡ 4 + 4 * number → number < 6 + 2 * length note.map → word_at (note_bytes note) at ≡ get_or (note_words note) number 0
  word_there at number place within =
      ap (word_at (note_bytes note)) place
      ∙ ap (λ (xs : List ℕ). word_at (note_magic ++ xs) (4 + 4 * number)) (sym (append-nil (word_bytes (note_words note))))
      ∙ read.each note_magic (note_words note) [] number words_fit (omega (arith, words_count))

  count_there : mark_count (note_bytes note) ≡ length note.map
  count_there = word_there 24 5 refl (omega arith)

  mark_there : (k : ℕ) (d : Mark) → k < length note.map → mark_of (note_bytes note) k ≡ get_or note.map k d
  mark_there k d within =
      let from_place : 6 + 2 * k ≡ suc (suc (suc (suc (suc (suc (2 * k)))))) = omega arith in
      let original_place : 6 + (2 * k + 1) ≡ suc (suc (suc (suc (suc (suc (2 * k + 1)))))) = omega arith in
      let from = word_there (28 + 8 * k) (6 + 2 * k) (omega arith) (omega arith)
      ∙ ap (λ n. get_or (note_words note) n 0) from_place ∙ from_word note.map k d within in
      let original = word_there (32 + 8 * k) (6 + (2 * k + 1)) (omega arith) (omega arith)
      ∙ ap (λ n. get_or (note_words note) n 0) original_place ∙ original_word note.map k d within in
      λ i. record { from = from i; original = original i }

  pub note_back : note_of (note_bytes note) ≡ note
  note_back =
      let d : Mark = mark_of (note_bytes note) 0 in
      let count = count_there in
      let marks : map (mark_of (note_bytes note)) (range_with_len 0 (mark_count (note_bytes note))) ≡ note.map =
      sym (fill_by_all (mark_of (note_bytes note)) note.map (mark_count (note_bytes note)) d (sym count) (λ k below. sym (mark_there k d (omega arith)))) in
      let entry = word_there 4 0 refl (omega arith) in
      let first = word_there 8 1 refl (omega arith) in
      let words = word_there 12 2 refl (omega arith) in
      let buffer = word_there 16 3 refl (omega arith) in
      let used = word_there 20 4 refl (omega arith) in
      λ i. record { entry = entry i; first = first i; count = words i; buffer = buffer i; used = used i; map = marks i }

  each_passes : (p : ℕ → Bool) (count : ℕ) → ((k : ℕ) → k < count → p k ≡ true) → list_all p (range_with_len 0 count) ≡ true
  each_passes p count holds =
      list_all-from_AllPass p (range_with_len 0 count)
      (λ k d within.
      let below : k < count = omega (arith, length-range_with_len 0 count) in
      let here : get_or (range_with_len 0 count) k d ≡ k = get_or-range_with_len 0 count k d below ∙ zeroth k in
      ap p here ∙ holds k below)
    where
      zeroth : (k : ℕ) → 0 + k ≡ k
      zeroth k = omega arith

  from_at : (k : ℕ) → k < length note.map → get_or (map (λ (mark : Mark). mark.from) note.map) k 0 ≡ (mark_of (note_bytes note) k).from
  from_at k within =
      let d : Mark = mark_of (note_bytes note) 0 in
      get_or-map (λ (mark : Mark). mark.from) note.map k d 0 within ∙ sym (ap (λ (mark : Mark). mark.from) (mark_there k d within))

  rise_back : marks_rise (note_bytes note) ≡ true
  rise_back =
      each_passes (rises_at (note_bytes note)) (mark_count (note_bytes note) - 1)
      (λ k below.
      let count = count_there in
      let here = from_at k (omega arith) in
      let next = from_at (k + 1) (omega arith) in
      let order = is.rises k (omega (arith, length-map note.map (λ (mark : Mark). mark.from))) in
      lt-ltb (mark_of (note_bytes note) k).from (mark_of (note_bytes note) (k + 1)).from (omega (arith, here, next, order)))

  aligned_back : originals_are_aligned (note_bytes note) ≡ true
  aligned_back =
      each_passes (is_aligned_at (note_bytes note)) (mark_count (note_bytes note))
      (λ k below.
      let count = count_there in
      let d : Mark = mark_of (note_bytes note) 0 in
      let originals : All (λ (mark : Mark). mark.original % 4 ≡ 0) note.map = All-from_recursion (λ (mark : Mark). mark.original % 4 ≡ 0) note.map is.originals in
      eq-eqb ((mark_of (note_bytes note) k).original % 4) 0
      (ap (λ (mark : Mark). mark.original % 4) (mark_there k d (omega arith)) ∙ originals k d (omega arith)))

  length_back : has_note_length (note_bytes note) ≡ true
  length_back =
      let size : length (note_bytes note) ≡ 28 + 8 * length note.map = omega (arith, read.size (note_words note), words_count) in
      let count = count_there in
      and_from _ _ (le-leb 28 (length (note_bytes note)) (omega arith)) (eq-eqb (length (note_bytes note)) (28 + 8 * mark_count (note_bytes note)) (omega arith))

  pub note_is : is_note (note_bytes note) ≡ true
  note_is =
      let entry : word_at (note_bytes note) 4 % 4 ≡ 0 = ap (λ n. n % 4) (word_there 4 0 refl (omega arith)) ∙ is.entry in
      let first : word_at (note_bytes note) 8 % 4 ≡ 0 = ap (λ n. n % 4) (word_there 8 1 refl (omega arith)) ∙ is.first in
      and_from _ _ (and_from _ _ (and_from _ _ (and_from _ _ (and_from _ _ length_back refl) (eq-eqb _ 0 entry)) (eq-eqb _ 0 first)) rise_back) aligned_back
