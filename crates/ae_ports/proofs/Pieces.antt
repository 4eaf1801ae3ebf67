-- Bytes that were copied to the front of a buffer.
use Rattle.std.proofs.Common.{◌≡◌, ◌⊎◌, inl, inr, ℕ, ◌+◌, ◌-◌, ◌≤◌, List, [], ◌∷◌, ◌++◌, length, take, drop, min, None, Some, Ok, sym, ◌∙◌, ap, arith, length-drop, length-take, take-append-drop}
use Rattle.std.proofs.lemmas.List.{take_at, drop-drop, drop_all}
use Rattle.ae_ports.specs.Content.{Reads}
use Rattle.ae_ports.specs.Files.{Copies}
use Rattle.ae_ports.specs.Memory.{IsCopy}

pub copies : (bytes : List ℕ) (from : ℕ) (before now : List ℕ) (count : ℕ) → IsCopy bytes from before now count → Copies bytes from now count
copies bytes from before now count copy = record {
  within = omega (arith, copy.all);
  front = ap (λ (l : List ℕ). take count l) copy.buffer ∙ take_at (take count (drop from bytes)) (drop count before) count size;
  none = λ is_zero. none before is_zero copy.all copy.buffer;
}
  where
    size : length (take count (drop from bytes)) ≡ count
    size = omega (arith, length-take count (drop from bytes), length-drop from bytes, copy.all)

    none : (before : List ℕ) → count ≡ 0 → count ≡ min (length before) (length bytes - from) → now ≡ take count (drop from bytes) ++ drop count before → (now ≡ []) ⊎ (length bytes ≤ from)
    none [] is_zero all buffer = inl (buffer ∙ ap (λ (n : ℕ). take n (drop from bytes) ++ drop n []) is_zero)
    none (b ∷ before) is_zero all buffer = inr (omega arith)

-- bytes that stand at the front of a piece were moved there
pub moves : (bytes : List ℕ) (from : ℕ) (now : List ℕ) (count : ℕ) → Copies bytes from now count → Reads (Some (drop from bytes)) (Some (drop (from + count) bytes)) now (Ok count)
moves bytes from now count moved =
    let whole : drop from bytes ≡ take count now ++ drop (from + count) bytes =
    sym (take-append-drop count (drop from bytes))
    ∙ ap (λ (l : List ℕ). l ++ drop count (drop from bytes)) (sym moved.front)
    ∙ ap (λ (l : List ℕ). take count now ++ l) (drop-drop count from bytes) in
    (ap Some whole, λ is_zero. at_end (moved.none is_zero))
  where
    at_end : (now ≡ []) ⊎ (length bytes ≤ from) → (now ≡ []) ⊎ ((Some (drop from bytes) ≡ None) ⊎ (Some (drop from bytes) ≡ Some []))
    at_end (inl no_room) = inl no_room
    at_end (inr past) = inr (inr (ap Some (drop_all from bytes past)))

-- a copy of the bytes that are left moves them
pub reads : (bytes : List ℕ) (from : ℕ) (before now : List ℕ) (count : ℕ) → IsCopy bytes from before now count → Reads (Some (drop from bytes)) (Some (drop (from + count) bytes)) now (Ok count)
reads bytes from before now count copy = moves bytes from now count (copies bytes from before now count copy)
