-- The program header that a search for the load of code finds.
use Rattle.std.proofs.Common.{◌≡◌, ℕ, ◌<◌, ◌+◌, Bool, true, cond, List, [], ◌∷◌, length, get_or, drop, Some, inl, inr, sym, ap, ◌∙◌, arith}
use Rattle.std.specs.List.{find, list_any, position_or_len}
use Rattle.std.proofs.lemmas.Bool.{cases_lt}
use Rattle.std.proofs.lemmas.List.{drop_more, length-drop}
use Rattle.std.proofs.lemmas.List.Folds.{find_at}
use Rattle.std.proofs.lemmas.Option.{get_or_from_slice_get}
use Rattle.elf_raw.specs.declared.segment.RawSegment.{RawSegment}
use Rattle.elf_raw.specs.Header.{header_of}
use Rattle.elf_raw.specs.Segments.{segments_of}
use Rattle.elf_image.specs.CodeWords.{code_load}
use Rattle.elf_image.specs.Loads.{is_code_load}
use Rattle.elf_image.proofs.CodeLoad.{first_within}
use Rattle.elf_image.proofs.HeaderRows.{header_row, headers_number}

pub found_code_load : (bytes : List ℕ) (segments : List RawSegment) (load : RawSegment) → list_any is_code_load segments ≡ true → find is_code_load segments ≡ Some load
    → segments ≡ segments_of bytes → load ≡ code_load bytes
found_code_load bytes segments load any is same =
    let there : list_any is_code_load (segments_of bytes) ≡ true = ap (list_any is_code_load) (sym same) ∙ any in
    let first : find is_code_load (segments_of bytes) ≡ Some load = ap (find is_code_load) (sym same) ∙ is in
    let place : position_or_len is_code_load (segments_of bytes) < (header_of bytes).phnum =
    omega (arith, first_within is_code_load (segments_of bytes) there, headers_number bytes)
    in
    sym (get_or_from_slice_get (segments_of bytes) (position_or_len is_code_load (segments_of bytes)) load load (sym (find_at is_code_load (segments_of bytes)) ∙ first))
    ∙ header_row bytes (position_or_len is_code_load (segments_of bytes)) load place

none_any : (p : RawSegment → Bool) (segments : List RawSegment) → length segments ≡ 0 → list_any p segments ≡ true → ⊥
none_any p [] none any = absurd (cc)
none_any p (segment ∷ segments) none any = absurd (omega arith)

-- a search that has come to one that passes
stopped_at : (p : RawSegment → Bool) (segments : List RawSegment) (number : ℕ) (d : RawSegment) → list_any p (drop number segments) ≡ true
    → find p (drop number segments) ≡ find p segments → p (get_or segments number d) ≡ true → find p segments ≡ Some (get_or segments number d)
stopped_at p segments number d any same passes = elim (cases_lt number (length segments)) [
  | inl inside ↦
      sym same
      ∙ ap (find p) (drop_more segments number d inside)
      ∙ ap (λ b. cond b (Some (get_or segments number d)) (find p (drop (number + 1) segments))) passes
  | inr past ↦ absurd (none_any p (drop number segments) (omega (arith, length-drop number segments)) any)
]

pub code_load_at : (bytes : List ℕ) (segments : List RawSegment) (number : ℕ) (d : RawSegment) → list_any is_code_load segments ≡ true
    → (list_any is_code_load (drop number segments) ≡ true) × (find is_code_load (drop number segments) ≡ find is_code_load segments)
    → is_code_load (get_or segments number d) ≡ true → segments ≡ segments_of bytes → get_or segments number d ≡ code_load bytes
code_load_at bytes segments number d any here passes same =
    found_code_load bytes segments (get_or segments number d) any (stopped_at is_code_load segments number d here.0 here.1 passes) same
