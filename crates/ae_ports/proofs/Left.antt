-- The bytes left of a file that is read from its start.
use Rattle.std.proofs.Common.{◌≡◌, ℕ, ◌+◌, ◌-◌, ◌^◌, ◌<◌, ◌≤◌, min, List, drop, length, nat_lt, Option, None, Some, Ok, inl, inr, if◌then◌else◌, MatchOption, refl, sym, ◌∙◌, ap, arith}
use Rattle.std.specs.Option.{option_and_then}
use Rattle.std.proofs.lemmas.Bool.{cases_Bool}
use Rattle.std.proofs.lemmas.List.{drop_all}
use Rattle.ae_ports.specs.Content.{Reads}
use Rattle.ae_ports.specs.Files.{Files, IsThere, SameFiles, Copies, Gets, left_told}
use Rattle.ae_ports.proofs.Pieces.{moves}

-- the bytes from this offset on, where each offset is a u64
abbrev left : Option (List ℕ) → ℕ → Option (List ℕ)
left held from = option_and_then (λ bytes. if nat_lt (length bytes) (2 ^ 64) then Some (drop from bytes) else None) held

-- where each offset is a u64, an offset that stops at the largest u64 leaves what one that goes on leaves
drop_raised : (bytes : List ℕ) (on next : ℕ) → length bytes < 2 ^ 64 → next ≡ min on (2 ^ 64 - 1) → drop next bytes ≡ drop on bytes
drop_raised bytes on next short is_next = elim (cases_Bool (nat_lt on (2 ^ 64))) [
  | inl below ↦ let same : next ≡ on = grind arith in ap (λ (n : ℕ). drop n bytes) same
  | inr above ↦ let past : length bytes ≤ next = grind arith in
      let past_on : length bytes ≤ on = grind arith in
      drop_all next bytes past ∙ sym (drop_all on bytes past_on)
]

moves_left : (held : Option (List ℕ)) (from next : ℕ) (piece : List ℕ) (count : ℕ) → next ≡ min (from + count) (2 ^ 64 - 1) → MatchOption held ⊥ (λ bytes. Copies bytes from piece count) → Reads (left held from) (left held next) piece (Ok count)
moves_left None from next piece count is_next got = absurd got
moves_left (Some bytes) from next piece count is_next got = elim (cases_Bool (nat_lt (length bytes) (2 ^ 64))) [
  | inl is_short ↦ let short : length bytes < 2 ^ 64 = grind arith in
      rw (is_short, drop_raised bytes (from + count) next short is_next) (moves bytes from piece count got)
  | inr is_long ↦ rw is_long (refl, λ is_zero. inr (inl refl))
]

-- a get moves the bytes that it copied
pub gets_left : (before now : Option Files) (name : List ℕ) (from next : ℕ) (piece : List ℕ) (count : ℕ) → next ≡ min (from + count) (2 ^ 64 - 1) → SameFiles before now → Gets before name from piece (Ok count) → Reads (left_told before name from) (left_told now name next) piece (Ok count)
gets_left None None name from next piece count is_next same got = (refl, λ is_zero. inr (inl refl))
gets_left None (Some now) name from next piece count is_next same got = absurd same
gets_left (Some before) None name from next piece count is_next same got = absurd same
gets_left (Some before) (Some now) name from next piece count is_next same got =
    rw (same name) (moves_left (before name) from next piece count is_next got)

-- a file stays there where none changes
pub stays_there : (before now : Option Files) (name : List ℕ) → SameFiles before now → IsThere before name → IsThere now name
stays_there None None name same there = tt
stays_there None (Some now) name same there = absurd same
stays_there (Some before) None name same there = absurd same
stays_there (Some before) (Some now) name same there = rw (same name) there
