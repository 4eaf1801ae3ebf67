-- A name of a string table, by where the next zero of the file stands.
use Rattle.std.proofs.Common.{◌≡◌, ℕ, ◌+◌, ◌-◌, ◌<◌, ◌≤◌, min, List, [], length, take, drop, sym, ap, ◌∙◌, arith, length-take, length-drop}
use Rattle.std.proofs.lemmas.List.{drop-drop, drop-take, take-take}
use Rattle.elf_raw.specs.declared.section.RawSection.{RawSection}
use Rattle.elf_raw.specs.Names.{before_zero, or_empty, name_in}
use Rattle.elf_raw.specs.Inner.Zeros.{zero_place, next_zero}
use Rattle.elf_raw.proofs.NextZero.{place_in_take, named, unnamed}

-- what is left of a string table behind a place
strings_behind : (bytes : List ℕ) (from to place : ℕ) → from + place ≤ to → drop place (take (to - from) (drop from bytes)) ≡ take (to - (from + place)) (drop (from + place) bytes)
strings_behind bytes from to place within =
    let size : to - from ≡ place + (to - (from + place)) = omega arith in
    ap (λ k. drop place (take k (drop from bytes))) size
    ∙ drop-take place (to - (from + place)) (drop from bytes)
    ∙ ap (take (to - (from + place))) (drop-drop place from bytes)

-- where the zero stands in it, and how long it is
module _ (bytes : List ℕ) (start to : ℕ) where
  zero_in_rest : zero_place (take (to - start) (drop start bytes)) ≡ min (to - start) (next_zero bytes start - start)
  zero_in_rest = omega (arith, place_in_take (to - start) (drop start bytes))

  length_of_rest : length (take (to - start) (drop start bytes)) ≡ min (to - start) (length bytes - start)
  length_of_rest = omega (arith, length-take (to - start) (drop start bytes), length-drop start bytes)

  name_found_at : next_zero bytes start < to → next_zero bytes start < length bytes → take (next_zero bytes start - start) (drop start bytes) ≡ or_empty (before_zero (take (to - start) (drop start bytes)))
  name_found_at within before =
      let zero_at : zero_place (take (to - start) (drop start bytes)) ≡ next_zero bytes start - start = omega (arith, zero_in_rest) in
      let long = length_of_rest in
      let short : to - start ≡ (next_zero bytes start - start) + (to - next_zero bytes start) = omega arith in
      sym
      (named (take (to - start) (drop start bytes)) (omega arith)
      ∙ ap (λ k. take k (take (to - start) (drop start bytes))) zero_at
      ∙ take-take (next_zero bytes start - start) (to - start) (drop start bytes) (omega arith))

  name_missing_at : start ≤ to → min to (length bytes) ≤ next_zero bytes start → [] ≡ or_empty (before_zero (take (to - start) (drop start bytes)))
  name_missing_at within behind =
      let zero_at = zero_in_rest in
      let long = length_of_rest in
      sym (unnamed (take (to - start) (drop start bytes)) (omega arith))

module _ (bytes : List ℕ) (table : RawSection) (place next : ℕ) (is : next ≡ next_zero bytes (table.span.from + place)) where
  pub name_found : next < table.span.to → next < length bytes → take (next - (table.span.from + place)) (drop (table.span.from + place) bytes) ≡ name_in bytes table place
  name_found within before =
      let start : ℕ = table.span.from + place in
      ap (λ k. take (k - start) (drop start bytes)) is
      ∙ name_found_at bytes start table.span.to (omega arith) (omega arith)
      ∙ sym (ap (λ xs. or_empty (before_zero xs)) (strings_behind bytes table.span.from table.span.to place (omega arith)))

  pub name_missing : table.span.from + place ≤ table.span.to → min table.span.to (length bytes) ≤ next → [] ≡ name_in bytes table place
  name_missing within behind =
      name_missing_at bytes (table.span.from + place) table.span.to within (omega arith)
      ∙ sym (ap (λ xs. or_empty (before_zero xs)) (strings_behind bytes table.span.from table.span.to place within))
