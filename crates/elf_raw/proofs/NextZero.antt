-- The first zero of a list, of a front of it and of what is left behind a front.
use Rattle.std.proofs.Common.{◌≡◌, ℕ, zero, suc, ◌+◌, ◌-◌, ◌<◌, ◌≤◌, Bool, false, cond, List, [], ◌∷◌, length, take, drop, min, Option, Some, None, refl, sym, ap, ◌∙◌, arith, length-drop}
use Rattle.std.proofs.Math.Nat.{suc-ne-zero}
use Rattle.std.proofs.lemmas.Bool.{ne_eqb}
use Rattle.std.proofs.lemmas.List.{drop-drop}
use Rattle.std.specs.Option.{option_map}
use Rattle.std.specs.Prelude.{◌==◌}
use Rattle.elf_raw.specs.Names.{before_zero, or_empty}
use Rattle.elf_raw.specs.Inner.Zeros.{zero_place, next_zero}

-- a byte that isn't zero
other : (byte : ℕ) → (suc byte == 0) ≡ false
other byte = ne_eqb (suc byte) 0 (suc-ne-zero byte)

skipped : (byte : ℕ) (bytes : List ℕ) → zero_place (suc byte ∷ bytes) ≡ suc (zero_place bytes)
skipped byte bytes = ap (λ (t : Bool). cond t 0 (suc (zero_place bytes))) (other byte)

kept : (byte : ℕ) (bytes : List ℕ) → before_zero (suc byte ∷ bytes) ≡ option_map (λ more. suc byte ∷ more) (before_zero bytes)
kept byte bytes = ap (λ (t : Bool). cond t (Some []) (option_map (λ more. suc byte ∷ more) (before_zero bytes))) (other byte)

pub place_le : (bytes : List ℕ) → zero_place bytes ≤ length bytes
place_le [] = omega arith
place_le (zero ∷ bytes) = omega arith
place_le (suc byte ∷ bytes) = omega (arith, skipped byte bytes, place_le bytes)

pub next_le : (bytes : List ℕ) (from : ℕ) → from ≤ length bytes → next_zero bytes from ≤ length bytes
next_le bytes from within = omega (arith, place_le (drop from bytes), length-drop from bytes)

-- in a front
pub place_in_take : (count : ℕ) (bytes : List ℕ) → zero_place (take count bytes) ≡ min count (zero_place bytes)
place_in_take zero bytes = omega arith
place_in_take (suc count) [] = omega arith
place_in_take (suc count) (zero ∷ bytes) = omega arith
place_in_take (suc count) (suc byte ∷ bytes) = omega (arith, skipped byte bytes, skipped byte (take count bytes), place_in_take count bytes)

-- behind a front without a zero
pub place_in_rest : (count : ℕ) (bytes : List ℕ) → count ≤ zero_place bytes → count + zero_place (drop count bytes) ≡ zero_place bytes
place_in_rest zero bytes behind = omega arith
place_in_rest (suc count) [] behind = absurd (omega arith)
place_in_rest (suc count) (zero ∷ bytes) behind = absurd (omega arith)
place_in_rest (suc count) (suc byte ∷ bytes) behind =
    let here = skipped byte bytes in
    let more : count + zero_place (drop count bytes) ≡ zero_place bytes = place_in_rest count bytes (omega arith) in
    let shown : suc count + zero_place (drop count bytes) ≡ zero_place (suc byte ∷ bytes) = omega arith in
    shown

-- the next zero from one place on is the next one from each place between the two
pub next_from : (bytes : List ℕ) (from to : ℕ) → from ≤ to → to ≤ next_zero bytes from → next_zero bytes to ≡ next_zero bytes from
next_from bytes from to order behind =
    let rest : zero_place (drop (to - from) (drop from bytes)) ≡ zero_place (drop (from + (to - from)) bytes) = ap zero_place (drop-drop (to - from) from bytes) in
    let there : from + (to - from) ≡ to = omega arith in
    let same : zero_place (drop (from + (to - from)) bytes) ≡ zero_place (drop to bytes) = ap (λ k. zero_place (drop k bytes)) there in
    let step : (to - from) + zero_place (drop (to - from) (drop from bytes)) ≡ zero_place (drop from bytes) = place_in_rest (to - from) (drop from bytes) (omega arith) in
    omega arith

found : (bytes : List ℕ) → zero_place bytes < length bytes → before_zero bytes ≡ Some (take (zero_place bytes) bytes)
found [] within = absurd (omega arith)
found (zero ∷ bytes) within = refl
found (suc byte ∷ bytes) within =
    let here = skipped byte bytes in
    kept byte bytes
    ∙ ap (λ (o : Option (List ℕ)). option_map (λ more. suc byte ∷ more) o) (found bytes (omega arith))
    ∙ ap (λ n. Some (take n (suc byte ∷ bytes))) (sym here)

missing : (bytes : List ℕ) → length bytes ≤ zero_place bytes → before_zero bytes ≡ None
missing [] none = refl
missing (zero ∷ bytes) none = absurd (omega arith)
missing (suc byte ∷ bytes) none =
    let here = skipped byte bytes in
    kept byte bytes ∙ ap (λ (o : Option (List ℕ)). option_map (λ more. suc byte ∷ more) o) (missing bytes (omega arith))

-- a name, by where its zero stands
pub named : (bytes : List ℕ) → zero_place bytes < length bytes → or_empty (before_zero bytes) ≡ take (zero_place bytes) bytes
named bytes within = ap or_empty (found bytes within)

pub unnamed : (bytes : List ℕ) → length bytes ≤ zero_place bytes → or_empty (before_zero bytes) ≡ []
unnamed bytes none = ap or_empty (missing bytes none)
