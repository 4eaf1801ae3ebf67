-- The program header that loads code, in a file of whose program headers none offends.
use Rattle.std.proofs.Common.{◌≡◌, ℕ, ◌+◌, ◌^◌, ◌<◌, ◌≤◌, Bool, true, false, List, length, get_or, map, None, refl, sym, ap, ◌∙◌, inl, inr, arith}
use Rattle.std.specs.Prelude.{◌⊎◌}
use Rattle.std.specs.Bool.{IsTrue}
use Rattle.std.specs.List.{Contains, filter, list_any, position_or_len}
use Rattle.std.proofs.lemmas.Bool.{cases_lt, and_parts}
use Rattle.std.proofs.lemmas.List.{get_or-map, length-map}
use Rattle.std.proofs.lemmas.List.Elements.{All-contains}
use Rattle.std.proofs.lemmas.List.Folds.{Any-from_list_any}
use Rattle.std.proofs.lemmas.List.Sorted.{Contains-permutation}
use Rattle.std.proofs.lemmas.List.Sums.{fails_before_first, passes_at_first}
use Rattle.elf_raw.specs.declared.segment.RawSegment.{RawSegment}
use Rattle.elf_raw.specs.Header.{header_of}
use Rattle.elf_raw.specs.Refusal.{IsSound}
use Rattle.elf_raw.specs.Segments.{segments_of}
use Rattle.elf_raw.proofs.LawsOfPieces.{passes-within}
use Rattle.rv_code.specs.declared.image.Region.{Region}
use Rattle.rv_code.specs.Addresses.{stack_start, tracer_start}
use Rattle.rv_code.proofs.LawsOfLists.{ordered-IsPermutation}
use Rattle.rv_code.proofs.LawsOfElements.{filter_Contains}
use Rattle.elf_image.specs.CodeWords.{code_load}
use Rattle.elf_image.specs.Loads.{is_load, is_code_load, has_note, load_end, piece_of, bad_program_header, region_of, regions_of}
use Rattle.elf_image.proofs.GoodLoads.{good}
use Rattle.elf_image.proofs.HeaderRows.{header_row, headers_number}
use Rattle.elf_image.proofs.RegionsKept.{IsWholeLoad, whole_loads, piece_length, allowed_cases}

-- where one passes, the first that does stands within the list
pub first_within : {X : Type 0} (p : X → Bool) (xs : List X) → list_any p xs ≡ true → position_or_len p xs < length xs
first_within p xs any =
    let (k, x, inside, here, passes) = Any-from_list_any p xs any in
    elim (cases_lt k (position_or_len p xs)) [
      | inl before ↦
          let fails : p (get_or xs k x) ≡ false = fails_before_first p xs k x before in
          let holds : p (get_or xs k x) ≡ true = ap p here ∙ passes in
          absurd (cc)
      | inr not_before ↦ omega arith
    ]

Contains-map : {X Y : Type 0} (f : X → Y) (xs : List X) (x : X) → Contains xs x → Contains (map f xs) (f x)
Contains-map f xs x (k, inside, here) = (k, omega (arith, length-map xs f), get_or-map f xs k x (f x) inside ∙ ap f here)

-- the load of code is one of the loads, and its bytes and addresses are
pub record IsCodeLoad (bytes : List ℕ) (load : RawSegment) : Type 0 where
  pub code : is_code_load load ≡ true
  pub held : Contains (regions_of bytes) (region_of bytes load)
  pub whole : load.filesz ≤ load.memsz
  pub within : 0 < load.filesz → load.offset + load.filesz ≤ length bytes
  pub piece : length (piece_of bytes load) ≡ load.filesz
  pub below : load_end load ≤ 2 ^ 32

code_place : (bytes : List ℕ) → bad_program_header bytes ≡ None → position_or_len is_code_load (segments_of bytes) < length (segments_of bytes)
code_place bytes none = first_within is_code_load (segments_of bytes) (good bytes none).code

code_row : (bytes : List ℕ) (d : RawSegment) → bad_program_header bytes ≡ None → get_or (segments_of bytes) (position_or_len is_code_load (segments_of bytes)) d ≡ code_load bytes
code_row bytes d none =
    let place : position_or_len is_code_load (segments_of bytes) < (header_of bytes).phnum = omega (arith, code_place bytes none, headers_number bytes) in
    header_row bytes (position_or_len is_code_load (segments_of bytes)) d place

code_is : (bytes : List ℕ) → bad_program_header bytes ≡ None → is_code_load (code_load bytes) ≡ true
code_is bytes none =
    ap is_code_load (sym (code_row bytes (code_load bytes) none))
    ∙ passes_at_first is_code_load (segments_of bytes) (code_load bytes) (code_place bytes none)

code_among : (bytes : List ℕ) → bad_program_header bytes ≡ None → Contains (filter is_load (segments_of bytes)) (code_load bytes)
code_among bytes none =
    filter_Contains is_load (segments_of bytes) (code_load bytes)
    (position_or_len is_code_load (segments_of bytes), code_place bytes none, code_row bytes (code_load bytes) none)
    (and_parts _ _ (code_is bytes none)).0

code_held : (bytes : List ℕ) → bad_program_header bytes ≡ None → Contains (regions_of bytes) (region_of bytes (code_load bytes))
code_held bytes none =
    Contains-permutation (map (region_of bytes) (filter is_load (segments_of bytes))) (regions_of bytes) (region_of bytes (code_load bytes))
    (ordered-IsPermutation (λ (region : Region). region.start) (map (region_of bytes) (filter is_load (segments_of bytes))))
    (Contains-map (region_of bytes) (filter is_load (segments_of bytes)) (code_load bytes) (code_among bytes none))

in_space : (noted : Bool) (start end : ℕ) → (end ≤ stack_start) ⊎ (IsTrue noted × (tracer_start ≤ start) × (end ≤ 2 ^ 32)) → end ≤ 2 ^ 32
in_space noted start end (inl below) = omega arith
in_space noted start end (inr above) = above.2

pub code_load_kept : (bytes : List ℕ) → IsSound bytes → bad_program_header bytes ≡ None → IsCodeLoad bytes (code_load bytes)
code_load_kept bytes sound none =
    let load : RawSegment = code_load bytes in
    let kept : IsWholeLoad bytes (has_note (segments_of bytes)) load =
    All-contains (IsWholeLoad bytes (has_note (segments_of bytes))) (filter is_load (segments_of bytes)) load (whole_loads bytes sound none) (code_among bytes none)
    in
    record {
      code = code_is bytes none;
      held = code_held bytes none;
      whole = kept.good.whole;
      within = passes-within (length bytes) load.offset load.filesz kept.within;
      piece = piece_length bytes load kept.within;
      below = in_space (has_note (segments_of bytes)) load.vaddr (load_end load)
          (allowed_cases (has_note (segments_of bytes)) load (load_end load) kept.good.allowed refl);
    }
