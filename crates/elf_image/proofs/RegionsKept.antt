-- What the regions of a file have of whose program headers none offends.
use Rattle.std.proofs.Common.{◌≡◌, ℕ, ◌+◌, ◌^◌, ◌≤◌, Bool, true, false, List, [], ◌∷◌, length, get_or, drop, map, None, sym, ap, ◌∙◌, inl, inr, subst, arith, length-take, length-drop}
use Rattle.std.specs.Prelude.{◌⊎◌, ◌&&◌, nat_le, is_some}
use Rattle.std.specs.Bool.{IsTrue}
use Rattle.std.specs.List.{All, AllByRecursion, filter}
use Rattle.std.proofs.lemmas.Bool.{cases_lt, or_cases, and_parts, leb-true}
use Rattle.std.proofs.lemmas.List.{length-map}
use Rattle.std.proofs.lemmas.List.Elements.{All-head, All-tail, All-filter, All-map, recursion_from_All}
use Rattle.std.proofs.lemmas.List.Sorted.{All-permutation, length_permutation}
use Rattle.elf_raw.specs.declared.raw.RawElf.{RawElf}
use Rattle.elf_raw.specs.Raw.{raw_of}
use Rattle.elf_raw.specs.declared.segment.RawSegment.{RawSegment}
use Rattle.elf_raw.specs.Refusal.{reaches_past, IsSound}
use Rattle.elf_raw.specs.Segments.{segments_of}
use Rattle.elf_raw.proofs.LawsOfPieces.{passes-within}
use Rattle.rv_code.specs.declared.image.Region.{Region}
use Rattle.rv_code.specs.Addresses.{stack_start, tracer_start}
use Rattle.rv_code.specs.Image.{region_length, region_end, IsRegion, RegionsRise}
use Rattle.rv_code.specs.Limits.{regions_limit}
use Rattle.rv_code.specs.Numbers.{IsByte}
use Rattle.rv_code.specs.Ordered.{ordered}
use Rattle.rv_code.proofs.LawsOfLists.{ordered-IsPermutation}
use Rattle.elf_image.specs.Loads.{is_load, load_end, is_allowed, has_note, piece_of, bad_program_header, region_of, regions_of, note_in}
use Rattle.elf_image.proofs.GoodLoads.{IsGoodLoad, good}
use Rattle.elf_image.proofs.HeaderRows.{headers_read}
use Rattle.elf_image.proofs.InPlace.{StandFrom, load_some, good-StandFrom, ordered-map}
use Rattle.elf_image.proofs.NoteKept.{each_within, piece_bytes, is_some-note_in}

-- the bytes that a header says lie in the file
pub piece_length : (bytes : List ℕ) (segment : RawSegment) → reaches_past bytes segment.offset segment.filesz ≡ false → length (piece_of bytes segment) ≡ segment.filesz
piece_length bytes segment within =
    let taken = length-take {A = ℕ} segment.filesz (drop segment.offset bytes) in
    let left = length-drop segment.offset bytes in
    elim (cases_lt 0 segment.filesz) [
      | inl some ↦
          let inside = passes-within (length bytes) segment.offset segment.filesz within some in
          omega (arith, inside, taken, left)
      | inr none ↦ omega (arith, taken)
    ]

-- what a good load puts into memory, with its bytes in the file
pub record IsWholeLoad (bytes : List ℕ) (noted : Bool) (segment : RawSegment) : Type 0 where
  pub good : IsGoodLoad noted segment
  pub within : reaches_past bytes segment.offset segment.filesz ≡ false

pub region_length_is : (bytes : List ℕ) (noted : Bool) (segment : RawSegment) → IsWholeLoad bytes noted segment → region_length (region_of bytes segment) ≡ segment.memsz
region_length_is bytes noted segment whole = omega (arith, piece_length bytes segment whole.within, whole.good.whole)

pub allowed_cases : (noted : Bool) (segment : RawSegment) (end : ℕ) → is_allowed noted segment ≡ true → end ≡ load_end segment
    → (end ≤ stack_start) ⊎ (IsTrue noted × (tracer_start ≤ segment.vaddr) × (end ≤ 2 ^ 32))
allowed_cases noted segment end allowed is =
    elim (or_cases (nat_le (load_end segment) stack_start) (noted && nat_le tracer_start segment.vaddr && nat_le (load_end segment) (2 ^ 32)) allowed) [
      | inl below ↦ inl (omega (arith, leb-true (load_end segment) stack_start below))
      | inr above ↦
          let high = and_parts _ _ above in
          let low = and_parts _ _ high.0 in
          inr (low.0, leb-true tracer_start segment.vaddr low.1, omega (arith, leb-true (load_end segment) (2 ^ 32) high.1))
    ]

pub region_kept : (bytes : List ℕ) (noted : Bool) (segment : RawSegment) → All IsByte bytes → IsWholeLoad bytes noted segment → IsRegion noted (region_of bytes segment)
region_kept bytes noted segment all whole =
    record {
      some = omega (arith, region_length_is bytes noted segment whole, load_some segment whole.good.load);
      bytes = recursion_from_All IsByte (piece_of bytes segment) (piece_bytes bytes segment all);
      allowed = allowed_cases noted segment (region_end (region_of bytes segment)) whole.good.allowed (ap (λ n. segment.vaddr + n) (region_length_is bytes noted segment whole));
    }

-- the loads of a file in order, and the regions that they make
abbrev pub loads_in : List ℕ → List RawSegment
loads_in bytes = ordered (λ (s : RawSegment). s.vaddr) (filter is_load (segments_of bytes))

pub regions_from_loads : (bytes : List ℕ) → regions_of bytes ≡ map (region_of bytes) (loads_in bytes)
regions_from_loads bytes = ordered-map (λ (region : Region). region.start) (region_of bytes) (filter is_load (segments_of bytes))

pub whole_loads : (bytes : List ℕ) → IsSound bytes → bad_program_header bytes ≡ None → All (IsWholeLoad bytes (has_note (segments_of bytes))) (filter is_load (segments_of bytes))
whole_loads bytes sound none k d inside =
    record {
      good = (good bytes none).loads.each k d inside;
      within =
          All-filter is_load (λ segment. reaches_past bytes segment.offset segment.filesz ≡ false) (segments_of bytes) (each_within bytes sound) k d inside;
    }

pub whole_loads_in : (bytes : List ℕ) → IsSound bytes → bad_program_header bytes ≡ None → All (IsWholeLoad bytes (has_note (segments_of bytes))) (loads_in bytes)
whole_loads_in bytes sound none =
    All-permutation (IsWholeLoad bytes (has_note (segments_of bytes))) (filter is_load (segments_of bytes)) (loads_in bytes)
    (ordered-IsPermutation (λ (s : RawSegment). s.vaddr) (filter is_load (segments_of bytes))) (whole_loads bytes sound none)

regions_each_noted : (bytes : List ℕ) → All IsByte bytes → IsSound bytes → bad_program_header bytes ≡ None → All (IsRegion (has_note (segments_of bytes))) (regions_of bytes)
regions_each_noted bytes all sound none =
    subst (All (IsRegion (has_note (segments_of bytes)))) (sym (regions_from_loads bytes))
    (All-map (IsRegion (has_note (segments_of bytes))) (region_of bytes) (loads_in bytes)
    (λ k d inside. region_kept bytes (has_note (segments_of bytes)) (get_or (loads_in bytes) k d) all (whole_loads_in bytes sound none k d inside)))

-- each region is one that an image may have
pub regions_each : (bytes : List ℕ) → All IsByte bytes → IsSound bytes → bad_program_header bytes ≡ None → AllByRecursion (IsRegion (is_some (note_in bytes))) (regions_of bytes)
regions_each bytes all sound none =
    recursion_from_All (IsRegion (is_some (note_in bytes))) (regions_of bytes)
    (subst (λ noted. All (IsRegion noted) (regions_of bytes)) (sym (is_some-note_in bytes)) (regions_each_noted bytes all sound none))

rise_from : (bytes : List ℕ) (noted : Bool) (low : ℕ) (loads : List RawSegment) → All (IsWholeLoad bytes noted) loads → StandFrom low loads → RegionsRise (map (region_of bytes) loads)
rise_from bytes noted low [] whole stand = tt
rise_from bytes noted low (one ∷ []) whole stand = tt
rise_from bytes noted low (one ∷ other ∷ loads) whole stand =
    let end : region_end (region_of bytes one) ≡ load_end one = ap (λ n. one.vaddr + n) (region_length_is bytes noted one (All-head (IsWholeLoad bytes noted) one (other ∷ loads) whole)) in (
      omega (arith, end, stand.1.0),
      rise_from bytes noted (load_end one) (other ∷ loads) (All-tail (IsWholeLoad bytes noted) one (other ∷ loads) whole) stand.1,
    )

-- each ends at or before the start of the next
pub regions_rise : (bytes : List ℕ) → IsSound bytes → bad_program_header bytes ≡ None → RegionsRise (regions_of bytes)
regions_rise bytes sound none =
    subst RegionsRise (sym (regions_from_loads bytes))
    (rise_from bytes (has_note (segments_of bytes)) 0 (loads_in bytes) (whole_loads_in bytes sound none)
    (good-StandFrom (has_note (segments_of bytes)) (filter is_load (segments_of bytes)) (good bytes none).loads))

-- there aren't too many
pub regions_few : (bytes : List ℕ) → bad_program_header bytes ≡ None → length (regions_of bytes) ≤ regions_limit (is_some (note_in bytes))
regions_few bytes none =
    subst (λ noted. length (regions_of bytes) ≤ regions_limit noted) (sym (is_some-note_in bytes))
    (omega (
      arith,
      (good bytes none).loads.few,
      length_permutation _ _ (ordered-IsPermutation (λ (region : Region). region.start) (map (region_of bytes) (filter is_load (segments_of bytes)))),
      length-map (filter is_load (segments_of bytes)) (region_of bytes),
    ))

-- what is read of the loads in order are the regions
pub regions_read : (bytes : List ℕ) (loads : List RawSegment) (regions : List Region) → loads ≡ loads_in bytes → regions ≡ map (region_of bytes) loads → regions ≡ regions_of bytes
regions_read bytes loads regions are made = made ∙ ap (map (region_of bytes)) are ∙ sym (regions_from_loads bytes)

-- the loads of what was read are the file's
pub loads_read : (raw : RawElf) (bytes : List ℕ) (headers got loads : List RawSegment) → raw ≡ raw_of bytes → headers ≡ raw.segments
    → got ≡ ordered (λ (s : RawSegment). s.vaddr) (filter is_load headers) → loads ≡ got → loads ≡ loads_in bytes
loads_read raw bytes headers got loads read are ordered_are same =
    same ∙ ordered_are ∙ ap (λ (xs : List RawSegment). ordered (λ (s : RawSegment). s.vaddr) (filter is_load xs)) (headers_read raw bytes headers read are)
