-- A region of words alone holds the range of them.
use Rattle.std.proofs.Common.{◌≡◌, ℕ, ◌+◌, ◌-◌, ◌*◌, ◌<◌, ◌≤◌, Bool, false, List, length, take, subst, arith, inl}
use Rattle.std.proofs.Math.Seq.{take-length}
use Rattle.std.specs.List.{flat_map}
use Rattle.rv_code.specs.Addresses.{stack_start}
use Rattle.rv_code.specs.Image.{IsRegion, HoldsWords}
use Rattle.rv_code.specs.Numbers.{bytes_of}
use Rattle.rv_code.proofs.LawsOfBytes.{length-words, words_are_bytes}
use Rattle.mixed_code.specs.Parts.{region_with, range_with}

pub region_is : (start : ℕ) (writable : Bool) (words : List ℕ) → 0 < length words → start + 4 * length words ≤ stack_start
    → IsRegion false (region_with start writable words)
region_is start writable words some below =
    record {
      some = omega (arith, some, length-words words);
      bytes = words_are_bytes words;
      allowed = inl (omega (arith, below, length-words words));
    }

pub holds_words : (start : ℕ) (writable : Bool) (words : List ℕ) → HoldsWords (region_with start writable words) (range_with start words)
holds_words start writable words =
    let bytes : List ℕ = flat_map (bytes_of 4) words in
    let taken : take (4 * length words) bytes ≡ bytes = subst (λ n. take n bytes ≡ bytes) (length-words words) (take-length bytes) in
    let none_before : start - start ≡ 0 = omega arith in
    record { above = omega arith; below = omega (arith, length-words words); same = rw none_before taken }
