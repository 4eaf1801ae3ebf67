-- An image of two regions: one from 0x10000 on that ends with code, and one that can be written.
use Rattle.std.proofs.Common.{◌≡◌, ◌⊎◌, ℕ, Bool, ◌+◌, ◌*◌, ◌<◌, ◌≤◌, true, false, List, [], ◌∷◌, ◌++◌, length, take, drop, refl, sym, subst, arith, length-append, inl, inr}
use Rattle.std.proofs.lemmas.Bool.{lt-ltb}
use Rattle.std.proofs.Math.Seq.{drop-append_seam, take-length}
use Rattle.std.specs.Prelude.{Option, None, Some, IsTrue, nat_lt}
use Rattle.std.specs.List.{AllByRecursion, flat_map}
use Rattle.rv_code.specs.declared.image.Image.{Image}
use Rattle.rv_code.specs.declared.image.Mark.{Mark}
use Rattle.rv_code.specs.declared.image.Name.{Name}
use Rattle.rv_code.specs.declared.image.Note.{Note}
use Rattle.rv_code.specs.declared.image.Range.{Range}
use Rattle.rv_code.specs.declared.image.Region.{Region}
use Rattle.rv_code.specs.Code.{is_code, extents_of}
use Rattle.rv_code.specs.Image.{IsRegion, HoldsWords, IsRange, IsNote, IsImage}
use Rattle.rv_code.specs.Numbers.{IsByte, IsWord, bytes_of}
use Rattle.rv_code.proofs.LawsOfBytes.{length-words, words_are_bytes}
use Rattle.rv_machine.proofs.Ranges.{all_of_both}

abbrev pub code_region : (bytes : List ℕ) → Region
code_region bytes = record { start = 0x10000; bytes = bytes; zeros = 0; writable = false }

abbrev pub data_region : (start : ℕ) (bytes : List ℕ) → Region
data_region start bytes = record { start = start; bytes = bytes; zeros = 8; writable = true }

abbrev pub range_with : (words : List ℕ) → Range
range_with words = record { start = 0x10074; words = words }

-- the entry is the first word
abbrev image_with : (regions : List Region) (code : List Range) (names : List Name) (named : List ℕ) (note : Option Note) → Image
image_with regions code names named note =
    record { entry = 0x10074; regions = regions; code = code; names = names; named = named; note = note }

-- a note of no marks and no buffer
abbrev pub note_with : List Mark → Note
note_with marks = record { entry = 0x10074; first = 0x10074; count = 1; buffer = 0; used = 0; map = marks }

abbrev plain_note : Note
plain_note = note_with []

-- where the other region begins: below the stack, or, in an image with a note, with the tracer's
abbrev pub IsPlace : (start : ℕ) → Option Note → Type 0
IsPlace start its_note = ((start ≡ 0x11000) × (its_note ≡ None)) ⊎ ((start ≡ 0xc0000000) × (its_note ≡ Some plain_note))

holds_words : (front words : List ℕ) → length front ≡ 116 → HoldsWords (code_region (front ++ flat_map (bytes_of 4) words)) (range_with words)
holds_words front words long =
    let bytes : List ℕ = flat_map (bytes_of 4) words in
    let length_of : length bytes ≡ 4 * length words = length-words words in
    let dropped : drop 116 (front ++ bytes) ≡ bytes = subst (λ n. drop n (front ++ bytes) ≡ bytes) long (drop-append_seam front bytes) in
    let taken : take (4 * length words) bytes ≡ bytes = subst (λ n. take n bytes ≡ bytes) length_of (take-length bytes) in
    record {
      above = omega arith;
      below = omega (arith, long, length_of, length-append front bytes);
      same = subst (λ xs. take (4 * length words) xs ≡ bytes) (sym dropped) taken;
    }

is_first_word : (words : List ℕ) → 0 < length words → IsTrue (is_code (extents_of (range_with words ∷ [])) 0x10074)
is_first_word words some =
    let inside : nat_lt 0x10074 (0x10074 + 4 * length words) ≡ true = lt-ltb 0x10074 (0x10074 + 4 * length words) (omega (arith, some)) in
    rw inside refl

-- the bytes before the words, the words, and the bytes of the other region
pub record AreParts (front words others : List ℕ) : Type 0 where
  pub long : length front ≡ 116
  pub front_bytes : AllByRecursion IsByte front
  pub are_words : AllByRecursion IsWord words
  pub some : 0 < length words
  pub few : length words ≤ 900
  pub short : length others ≡ 8
  pub other_bytes : AllByRecursion IsByte others

bytes_length : (front words others : List ℕ) → AreParts front words others → length (front ++ flat_map (bytes_of 4) words) ≡ 116 + 4 * length words
bytes_length front words others parts = omega (arith, parts.long, length-words words, length-append front (flat_map (bytes_of 4) words))

code_region_is : (has_note : Bool) (front words others : List ℕ) → AreParts front words others → IsRegion has_note (code_region (front ++ flat_map (bytes_of 4) words))
code_region_is has_note front words others parts =
    let length_of : length (front ++ flat_map (bytes_of 4) words) ≡ 116 + 4 * length words = bytes_length front words others parts in
    record {
      some = omega (arith, length_of);
      bytes = all_of_both IsByte front (flat_map (bytes_of 4) words) parts.front_bytes (words_are_bytes words);
      allowed = inl (omega (arith, length_of, parts.few));
    }

range_is : (front words others : List ℕ) (other : Region) → AreParts front words others
    → IsRange (code_region (front ++ flat_map (bytes_of 4) words) ∷ other ∷ []) (range_with words)
range_is front words others other parts =
    record {
      some = parts.some;
      aligned = refl;
      words = parts.are_words;
      held = (0, code_region (front ++ flat_map (bytes_of 4) words), omega arith, refl, holds_words front words parts.long);
    }

-- the other region below the stack, in an image without a note
plain_image_is : (front words others : List ℕ) → AreParts front words others
    → IsImage (image_with (code_region (front ++ flat_map (bytes_of 4) words) ∷ data_region 0x11000 others ∷ []) (range_with words ∷ []) [] [] None)
plain_image_is front words others parts =
    let length_of : length (front ++ flat_map (bytes_of 4) words) ≡ 116 + 4 * length words = bytes_length front words others parts in
    let with_data : IsRegion false (data_region 0x11000 others) =
    record { some = omega (arith, parts.short); bytes = parts.other_bytes; allowed = inl (omega (arith, parts.short)) } in
    record {
      regions = (code_region_is false front words others parts, (with_data, tt));
      regions_rise = (omega (arith, length_of, parts.few), tt);
      ranges = (range_is front words others (data_region 0x11000 others) parts, tt);
      ranges_rise = tt;
      entry = is_first_word words parts.some;
      names = tt;
      named = tt;
      named_rise = λ k below. omega (arith, below);
      note = tt;
      limits =
          record {
            mapped = omega (arith, length_of, parts.few, parts.short);
            regions = omega arith;
            ranges = omega arith;
            words = omega (arith, parts.few);
          };
    }

note_is : IsNote plain_note
note_is =
    record {
      words = (omega arith, omega arith, omega arith, omega arith, omega arith);
      marks = tt;
      entry = refl;
      first = refl;
      rises = λ k below. absurd (omega (arith, below));
      originals = tt;
    }

-- the other region with the tracer's, in an image with a note
noted_image_is : (front words others : List ℕ) → AreParts front words others
    → IsImage (image_with (code_region (front ++ flat_map (bytes_of 4) words) ∷ data_region 0xc0000000 others ∷ []) (range_with words ∷ []) [] [] (Some plain_note))
noted_image_is front words others parts =
    let length_of : length (front ++ flat_map (bytes_of 4) words) ≡ 116 + 4 * length words = bytes_length front words others parts in
    let with_data : IsRegion true (data_region 0xc0000000 others) =
    record { some = omega (arith, parts.short); bytes = parts.other_bytes; allowed = inr (refl, omega arith, omega (arith, parts.short)) } in
    record {
      regions = (code_region_is true front words others parts, (with_data, tt));
      regions_rise = (omega (arith, length_of, parts.few), tt);
      ranges = (range_is front words others (data_region 0xc0000000 others) parts, tt);
      ranges_rise = tt;
      entry = is_first_word words parts.some;
      names = tt;
      named = tt;
      named_rise = λ k below. omega (arith, below);
      note = note_is;
      limits =
          record {
            mapped = omega (arith, length_of, parts.few);
            regions = omega arith;
            ranges = omega arith;
            words = omega (arith, parts.few);
          };
    }

image_is : (front words others : List ℕ) (start : ℕ) (note : Option Note) → AreParts front words others → IsPlace start note
    → IsImage (image_with (code_region (front ++ flat_map (bytes_of 4) words) ∷ data_region start others ∷ []) (range_with words ∷ []) [] [] note)
image_is front words others start its_note parts (inl plain) = rw plain.0 (rw plain.1 (plain_image_is front words others parts))
image_is front words others start its_note parts (inr noted) = rw noted.0 (rw noted.1 (noted_image_is front words others parts))

-- an image of these parts
pub image_from : (front words others : List ℕ) (start : ℕ) (note : Option Note) → AreParts front words others → IsPlace start note
    → (regions : List Region) (code : List Range) (names : List Name) (named : List ℕ)
    → regions ≡ code_region (front ++ flat_map (bytes_of 4) words) ∷ data_region start others ∷ [] → code ≡ range_with words ∷ [] → names ≡ [] → named ≡ []
    → IsImage (image_with regions code names named note)
image_from front words others start note parts place regions code names named r c n d =
    rw r (rw c (rw n (rw d (image_is front words others start note parts place))))
