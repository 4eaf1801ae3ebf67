-- Bytes laid into a file: what each byte of it is then, and rows laid one after the other.
use Rattle.std.proofs.Common.{◌≡◌, ℕ, ◌+◌, ◌-◌, ◌*◌, ◌<◌, ◌≤◌, List, [], ◌∷◌, ◌++◌, length, take, drop, get_or, refl, sym, ap, ◌∙◌, append_assoc, arith, length-append, length-take, length-drop, mul-suc}
use Rattle.std.proofs.lemmas.List.{append-nil, drop-drop, drop_at, drop_all, flat_map_more, take_all, take_at, take_more, take-append-drop, get_or-append_right, get_or_append_left, get_or-take, get_or-drop}
use Rattle.std.specs.List.{flat_map}
use borrow.Rule.Slice.PartMut.{put_mid}
use Rattle.elf_raw.specs.Written.{laid}

-- a write to the front of what begins at an offset
pub put_at : (at k : ℕ) (file bytes new : List ℕ) → at + length bytes ≤ length file → k ≡ length file - at → new ≡ bytes ++ drop (length bytes) (take k (drop at file)) → put_mid at k file new ≡ laid file at bytes
put_at at k file bytes new within size is =
    let rest : length (drop at file) ≤ k = omega (arith, length-drop at file) in
    let behind : drop k (drop at file) ≡ [] = drop_all k (drop at file) rest in
    let whole : take k (drop at file) ≡ drop at file = take_all k (drop at file) rest in
    ap (λ (xs : List ℕ). take at file ++ (new ++ xs)) behind
    ∙ ap (λ (xs : List ℕ). take at file ++ xs) (append-nil new ∙ is ∙ ap (λ (xs : List ℕ). bytes ++ drop (length bytes) xs) whole ∙ ap (λ (xs : List ℕ). bytes ++ xs) (drop-drop (length bytes) at file))

-- no bytes change nothing
pub laid_none : (file : List ℕ) (at : ℕ) → laid file at [] ≡ file
laid_none file at =
    let there : at + 0 ≡ at = omega arith in
    ap (λ k. take at file ++ drop k file) there ∙ take-append-drop at file

module _ (file : List ℕ) (at : ℕ) (bytes : List ℕ) (within : at + length bytes ≤ length file) where
  front_length : length (take at file) ≡ at
  front_length = omega (arith, length-take at file)

  pub length_laid : length (laid file at bytes) ≡ length file
  length_laid =
      omega (
        arith,
        length-append (take at file) (bytes ++ drop (at + length bytes) file),
        length-append bytes (drop (at + length bytes) file),
        length-drop (at + length bytes) file,
        front_length,
      )

  pub take_laid : take (at + length bytes) (laid file at bytes) ≡ take at file ++ bytes
  take_laid =
      let long : length (take at file ++ bytes) ≡ at + length bytes = omega (arith, length-append (take at file) bytes, front_length) in
      ap (take (at + length bytes)) (sym (append_assoc (take at file) bytes (drop (at + length bytes) file)))
      ∙ take_at (take at file ++ bytes) (drop (at + length bytes) file) (at + length bytes) long

  pub drop_laid : drop (at + length bytes) (laid file at bytes) ≡ drop (at + length bytes) file
  drop_laid =
      let long : length (take at file ++ bytes) ≡ at + length bytes = omega (arith, length-append (take at file) bytes, front_length) in
      ap (drop (at + length bytes)) (sym (append_assoc (take at file) bytes (drop (at + length bytes) file)))
      ∙ drop_at (take at file ++ bytes) (drop (at + length bytes) file) (at + length bytes) long

  -- a byte of those that were laid
  pub laid_here : (k : ℕ) → k < length bytes → get_or (laid file at bytes) (at + k) 0 ≡ get_or bytes k 0
  laid_here k here =
      let place : at + k - at ≡ k = omega arith in
      get_or-append_right (take at file) (bytes ++ drop (at + length bytes) file) at (at + k) 0 front_length (omega arith)
      ∙ ap (λ n. get_or (bytes ++ drop (at + length bytes) file) n 0) place
      ∙ get_or_append_left bytes (drop (at + length bytes) file) 0 k here

  -- one before them
  pub laid_before : (n : ℕ) → n < at → get_or (laid file at bytes) n 0 ≡ get_or file n 0
  laid_before n before =
      get_or_append_left (take at file) (bytes ++ drop (at + length bytes) file) 0 n (omega (arith, front_length)) ∙ get_or-take at file n 0 before

  -- one behind them
  pub laid_behind : (n : ℕ) → at + length bytes ≤ n → get_or (laid file at bytes) n 0 ≡ get_or file n 0
  laid_behind n behind =
      let place : at + length bytes + (n - at - length bytes) ≡ n = omega arith in
      get_or-append_right (take at file) (bytes ++ drop (at + length bytes) file) at n 0 front_length (omega arith)
      ∙ get_or-append_right bytes (drop (at + length bytes) file) (length bytes) (n - at) 0 refl (omega arith)
      ∙ get_or-drop (at + length bytes) file (n - at - length bytes) 0
      ∙ ap (λ k. get_or file k 0) place

-- bytes laid right behind others
pub laid_laid : (file : List ℕ) (at : ℕ) (bytes more : List ℕ) → at + length bytes ≤ length file → laid (laid file at bytes) (at + length bytes) more ≡ laid file at (bytes ++ more)
laid_laid file at bytes more within =
    let long : at + length bytes + length more ≡ at + length (bytes ++ more) = omega (arith, length-append bytes more) in
    let rest : drop (at + length bytes + length more) (laid file at bytes) ≡ drop (at + length (bytes ++ more)) file =
    sym (drop-drop (length more) (at + length bytes) (laid file at bytes))
    ∙ ap (drop (length more)) (drop_laid file at bytes within)
    ∙ drop-drop (length more) (at + length bytes) file
    ∙ ap (λ k. drop k file) long in
    (λ i. take_laid file at bytes within i ++ (more ++ rest i))
    ∙ append_assoc (take at file) bytes (more ++ drop (at + length (bytes ++ more)) file)
    ∙ ap (λ (xs : List ℕ). take at file ++ xs) (sym (append_assoc bytes more (drop (at + length (bytes ++ more)) file)))

pub laid_more : (file now new : List ℕ) (at next : ℕ) (bytes more : List ℕ) → next ≡ at + length bytes → next ≤ length file → now ≡ laid file at bytes → new ≡ laid now next more
    → new ≡ laid file at (bytes ++ more)
laid_more file now new at next bytes more place within so_far last =
    last ∙ (λ i. laid (so_far i) (place i) more) ∙ laid_laid file at bytes more (omega arith)

-- rows of one size
module _ {X : Type 0} (f : X → List ℕ) (size : ℕ) (each : (x : X) → length (f x) ≡ size) where
  pub rows_length : (rows : List X) → length (flat_map f rows) ≡ size * length rows
  rows_length [] = omega arith
  rows_length (row ∷ rows) =
      omega (arith, length-append (f row) (flat_map f rows), each row, rows_length rows, mul-suc size (length rows))

  pub length_so_far : (rows : List X) (i : ℕ) → i < length rows → length (flat_map f (take i rows)) ≡ size * i
  length_so_far rows i left =
      let count : length (take i rows) ≡ i = omega (arith, length-take i rows) in
      rows_length (take i rows) ∙ ap (λ n. size * n) count

  -- one row more behind those so far
  pub row_laid : (file now new : List ℕ) (at next i : ℕ) (rows : List X) (d : X) → i < length rows → next ≤ length file → next ≡ at + size * i → now ≡ laid file at (flat_map f (take i rows))
      → new ≡ laid now next (f (get_or rows i d)) → new ≡ laid file at (flat_map f (take (i + 1) rows))
  row_laid file now new at next i rows d left within place so_far last =
      let bytes : List ℕ = flat_map f (take i rows) in
      let row : List ℕ = f (get_or rows i d) in
      let there : next ≡ at + length bytes = place ∙ ap (λ n. at + n) (sym (length_so_far rows i left)) in
      laid_more file now new at next bytes row there within so_far last
      ∙ ap (laid file at) (flat_map_more f [] (take i rows) (get_or rows i d) ∙ ap (flat_map f) (sym (take_more rows i d left)))
