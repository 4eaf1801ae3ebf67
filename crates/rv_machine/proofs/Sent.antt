-- Bytes of memory that go to a sink piece by piece.
use Rattle.std.proofs.Common.{◌≡◌, ℕ, ◌+◌, ◌-◌, ◌^◌, ◌<◌, ◌≤◌, List, [], ◌∷◌, ◌++◌, length, take, drop, Bool, false, not, Option, None, Some, Result, Ok, Err, OnOk, OnErr, refl, sym, ap, ◌∙◌, subst, arith}
use Rattle.std.specs.Io.KnownBytes.{append_known}
use Rattle.std.proofs.Math.Seq.{take-add, take-length}
use Rattle.std.proofs.lemmas.List.{take_all, take-take, length-take-le, append-nil}
use Rattle.ae_ports.specs.Content.{Appends, AppendsFront}
use Rattle.ae_ports.specs.declared.failed.Failed.{Failed}
use Rattle.rv_code.specs.Numbers.{wrap}
use Rattle.rv_memory.specs.Memory.{Cell, is_mapped, span, bytes_at, first_hole}
use Rattle.ae_ports.proofs.LawsOfContent.{append_known-append}
use Rattle.rv_memory.proofs.LawsOfCells.{bytes_among, bytes_at-take, length-bytes_at, none_behind, found_here}

-- a piece behind those that were sent
pub appends_piece : (before mid now : Option (List ℕ)) (all piece : List ℕ) (done count : ℕ) → Appends before mid (take done all)
    → piece ≡ take count (drop done all) → Appends mid now piece → Appends before now (take (done + count) all)
appends_piece before mid now all piece done count first is second =
    second
    ∙ (ap (λ (known : Option (List ℕ)). append_known known piece) first
    ∙ (append_known-append before (take done all) piece
    ∙ ap (λ (xs : List ℕ). append_known before xs) (ap (λ (xs : List ℕ). take done all ++ xs) is ∙ sym (take-add done count all))))

-- a front of a piece behind those that were sent
pub appends_front_piece : (before mid now : Option (List ℕ)) (all piece : List ℕ) (done count : ℕ) → done + count ≤ length all → Appends before mid (take done all)
    → length piece ≡ count → piece ≡ take count (drop done all) → AppendsFront mid now piece → AppendsFront before now all
appends_front_piece before mid now all piece done count within first long is front =
    let few : ℕ = front.0 in
    let le : few ≤ count = omega (arith, front.1, long) in
    let same : take few piece ≡ take few (drop done all) = ap (λ (xs : List ℕ). take few xs) is ∙ take-take few count (drop done all) le in
    (done + few, omega arith, appends_piece before mid now all (take few piece) done few first same front.2)

-- how far the bytes of a buffer were sent
pub record IsSent (memory : List Cell) (address count here left : ℕ) (before now : Option (List ℕ)) : Type 0 where
  pub within : left ≤ count
  pub place : here ≡ wrap (address + (count - left))
  pub sent : Appends before now (take (count - left) (bytes_at memory (span address count)))

nothing_sent : (told : Option (List ℕ)) (xs : List ℕ) (none : ℕ) → none ≡ 0 → Appends told told (take none xs)
nothing_sent None xs none is = refl
nothing_sent (Some bytes) xs none is = sym (ap (λ (n : ℕ). Some (bytes ++ take n xs)) is ∙ ap Some (append-nil bytes))

pub none_sent : (memory : List Cell) (address count : ℕ) (told : Option (List ℕ)) → address < 2 ^ 32 → IsSent memory address count address count told told
none_sent memory address count told fits = record {
  within = omega arith;
  place = omega arith;
  sent = nothing_sent told (bytes_at memory (span address count)) (count - count) (omega arith);
}

-- the next piece, which memory has there
module _ (memory : List Cell) (address count here left : ℕ) (before mid now : Option (List ℕ)) (piece : List ℕ) (fits : address < 2 ^ 32)
    (far : IsSent memory address count here left before mid) (has : bytes_at memory (span here (length piece)) ≡ piece) where
  abbrev all : List ℕ
  all = bytes_at memory (span address count)

  abbrev done : ℕ
  done = count - left

  front_is : (few : ℕ) → few ≤ length piece → few ≤ left → take few piece ≡ take few (drop done all)
  front_is few enough le =
      ap (λ (xs : List ℕ). take few xs) (sym has)
      ∙ (sym (bytes_at-take memory few (length piece) here enough)
      ∙ (ap (λ n. bytes_at memory (span n few)) far.place
      ∙ sym (bytes_among memory address done few count fits (omega (arith, far.within)))))

  pub more_sent : length piece ≤ left → Appends mid now piece → IsSent memory address count (wrap (here + length piece)) (left - length piece) before now
  more_sent le sent = record {
    within = omega (arith, far.within);
    place = omega (arith, far.within, far.place);
    sent = subst (λ n. Appends before now (take n all)) further
        (appends_piece before mid now all piece done (length piece) far.sent (sym (take-length piece) ∙ front_is (length piece) (omega arith) le) sent);
  }
    where
      further : done + length piece ≡ count - (left - length piece)
      further = omega (arith, far.within, le)

  pub more_front : (result : Result Unit Failed) → length piece ≤ left → OnErr result (AppendsFront mid now piece) → OnErr result (AppendsFront before now all)
  more_front (Ok value) le front = tt
  more_front (Err fault) le front =
      appends_front_piece before mid now all piece done (length piece) (omega (arith, length-bytes_at memory address count, far.within)) far.sent refl
      (sym (take-length piece) ∙ front_is (length piece) (omega arith) le) front

  pub last_sent : (result : Result Unit Failed) → left ≤ length piece → OnOk result (Appends mid now (take left piece)) → OnOk result (Appends before now all)
  last_sent (Ok value) enough sent =
      subst (λ (xs : List ℕ). Appends before now xs) (take_all (done + left) all (omega (arith, length-bytes_at memory address count, far.within)))
      (appends_piece before mid now all (take left piece) done left far.sent (front_is left enough (omega arith)) sent)
  last_sent (Err fault) enough sent = tt

  pub last_front : (result : Result Unit Failed) → left ≤ length piece → OnErr result (AppendsFront mid now (take left piece)) → OnErr result (AppendsFront before now all)
  last_front (Ok value) enough front = tt
  last_front (Err fault) enough front =
      appends_front_piece before mid now all (take left piece) done left (omega (arith, length-bytes_at memory address count, far.within)) far.sent
      (length-take-le left piece enough) (front_is left enough (omega arith)) front

-- nothing is left
pub all_sent : (memory : List Cell) (address count here left : ℕ) (before now : Option (List ℕ)) → IsSent memory address count here left before now → left ≡ 0
    → Appends before now (bytes_at memory (span address count))
all_sent memory address count here left before now far none =
    subst (λ (xs : List ℕ). Appends before now xs)
    (take_all (count - left) (bytes_at memory (span address count)) (omega (arith, length-bytes_at memory address count))) far.sent

-- a piece has a byte where one is left
pub some_piece : (memory : List Cell) (address count here left : ℕ) (before now : Option (List ℕ)) (piece : List ℕ) → address < 2 ^ 32
    → IsSent memory address count here left before now → first_hole memory (span address count) ≡ None → 0 < left
    → (piece ≡ [] → is_mapped memory here ≡ false) → 0 < length piece
some_piece memory address count here left before now (byte ∷ piece) fits far none some empty = omega arith
some_piece memory address count here left before now [] fits far none some empty =
    let all : count ≡ (count - left) + left = omega (arith, far.within) in
    let is_hole : ℕ → Bool = λ a. not (is_mapped memory a) in
    let whole : first_hole memory (span address ((count - left) + left)) ≡ None = ap (λ n. first_hole memory (span address n)) (sym all) ∙ none in
    let behind : first_hole memory (span here left) ≡ None = ap (λ n. first_hole memory (span n left)) far.place ∙ none_behind is_hole address (count - left) left fits whole in
    let found : first_hole memory (span here left) ≡ Some here = found_here is_hole here left some (ap not (empty refl)) in
    absurd (cc (behind, found))
