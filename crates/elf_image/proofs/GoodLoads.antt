-- What the program headers of a file have of which none offends.
use Rattle.std.proofs.Common.{◌≡◌, ℕ, zero, suc, ◌+◌, ◌<◌, ◌≤◌, Bool, true, false, cond, List, [], ◌∷◌, ◌++◌, length, Option, None, Some, refl, sym, ap, ◌∙◌, inl, inr, subst, arith, add-one, length-append}
use Rattle.std.specs.Prelude.{◌&&◌}
use Rattle.std.specs.List.{All, AllPairs, filter, list_any}
use Rattle.std.proofs.lemmas.Bool.{cases_Bool, or_parts, ltb-false, leb-false, not-false}
use Rattle.std.proofs.lemmas.List.{append-nil}
use Rattle.std.proofs.lemmas.List.Elements.{All-nil, All-push}
use Rattle.std.proofs.lemmas.List.Quantifiers.{all_pairs_push}
use Rattle.elf_raw.specs.declared.segment.RawSegment.{RawSegment}
use Rattle.elf_raw.specs.Header.{header_of}
use Rattle.elf_raw.specs.Segments.{segment_of, segments_of}
use Rattle.rv_code.specs.Limits.{regions_limit}
use Rattle.rv_code.proofs.LawsOfRows.{none_first, none_second, each_fails}
use Rattle.elf_image.specs.Loads.{is_load, is_code_load, has_note, is_allowed, shares_byte, load_offends, before, bad_load_at, bad_note_at, bad_load, code_or_note, bad_program_header}
use Rattle.elf_image.proofs.Found.{none_any}
use Rattle.elf_image.proofs.HeaderRows.{before_rows, passing_more}

pub record IsGoodLoad (noted : Bool) (segment : RawSegment) : Type 0 where
  pub load : is_load segment ≡ true
  pub whole : segment.filesz ≤ segment.memsz
  pub allowed : is_allowed noted segment ≡ true

-- those that are loaded: each is good, no later one shares a byte with an earlier one, and there aren't too many
pub record IsGoodLoads (noted : Bool) (loads : List RawSegment) : Type 0 where
  pub each : All (IsGoodLoad noted) loads
  pub apart : AllPairs (λ earlier later. shares_byte later earlier ≡ false) loads
  pub few : length loads ≤ regions_limit noted

pub good_none : (noted : Bool) → IsGoodLoads noted []
good_none noted =
    record {
      each = All-nil (IsGoodLoad noted);
      apart = λ i j d less inside. absurd (omega arith);
      few = omega arith;
    }

pub good_more : (noted : Bool) (loads : List RawSegment) (segment : RawSegment) → IsGoodLoads noted loads → is_load segment ≡ true → load_offends noted loads segment ≡ false
    → IsGoodLoads noted (loads ++ segment ∷ [])
good_more noted loads segment good load none =
    let limit = or_parts _ _ none in
    let code = or_parts _ _ limit.0 in
    let apart = or_parts _ _ code.0 in
    let allowed = or_parts _ _ apart.0 in
    let one : IsGoodLoad noted segment =
    record {
      load = load;
      whole = ltb-false segment.memsz segment.filesz allowed.0;
      allowed = not-false (is_allowed noted segment) allowed.1;
    }
    in
    record {
      each = All-push (IsGoodLoad noted) loads segment good.each one;
      apart = all_pairs_push (λ earlier later. shares_byte later earlier ≡ false) loads segment good.apart (none_any (shares_byte segment) loads apart.1);
      few = omega (arith, length-append {A = RawSegment}, leb-false (regions_limit noted) (length loads) limit.1);
    }

-- one program header more
good_next : (bytes : List ℕ) (number : ℕ) → number < (header_of bytes).phnum → bad_load_at bytes number ≡ false
    → IsGoodLoads (has_note (segments_of bytes)) (filter is_load (before bytes number)) → IsGoodLoads (has_note (segments_of bytes)) (filter is_load (before bytes (number + 1)))
good_next bytes number within fine good =
    subst (IsGoodLoads (has_note (segments_of bytes))) (sym (passing_more is_load bytes number within))
    (elim (cases_Bool (is_load (segment_of bytes number))) [
      | inl load ↦
          let none : load_offends (has_note (segments_of bytes)) (filter is_load (before bytes number)) (segment_of bytes number) ≡ false =
          ap (λ t. t && load_offends (has_note (segments_of bytes)) (filter is_load (before bytes number)) (segment_of bytes number)) (sym load) ∙ fine
          in
          subst (λ t. IsGoodLoads (has_note (segments_of bytes)) (filter is_load (before bytes number) ++ cond t (segment_of bytes number ∷ []) [])) (sym load)
          (good_more _ _ (segment_of bytes number) good load none)
      | inr other ↦
          subst (λ t. IsGoodLoads (has_note (segments_of bytes)) (filter is_load (before bytes number) ++ cond t (segment_of bytes number ∷ []) [])) (sym other)
          (subst (IsGoodLoads (has_note (segments_of bytes))) (sym (append-nil _)) good)
    ])

good_upto : (bytes : List ℕ) (number : ℕ) → number ≤ (header_of bytes).phnum → ((k : ℕ) → k < (header_of bytes).phnum → bad_load_at bytes k ≡ false)
    → IsGoodLoads (has_note (segments_of bytes)) (filter is_load (before bytes number))
good_upto bytes zero within fine =
    subst (λ xs. IsGoodLoads (has_note (segments_of bytes)) (filter is_load xs)) (sym (before_rows bytes 0 within)) (good_none (has_note (segments_of bytes)))
good_upto bytes (suc number) within fine =
    subst (λ k. IsGoodLoads (has_note (segments_of bytes)) (filter is_load (before bytes k))) (add-one number)
    (good_next bytes number (omega arith) (fine number (omega arith)) (good_upto bytes number (omega arith) fine))

-- what holds where no program header offends
pub record IsGood (bytes : List ℕ) : Type 0 where
  pub loads : IsGoodLoads (has_note (segments_of bytes)) (filter is_load (segments_of bytes))
  pub code : list_any is_code_load (segments_of bytes) ≡ true
  pub notes : (number : ℕ) → number < (header_of bytes).phnum → bad_note_at bytes number ≡ false

choice_none : {X : Type 0} (t : Bool) (x : X) (rest : Option X) → cond t rest (Some x) ≡ None → (t ≡ true) × (rest ≡ None)
choice_none true x rest is = (refl, is)
choice_none false x rest is = absurd (cc is)

pub good : (bytes : List ℕ) → bad_program_header bytes ≡ None → IsGood bytes
good bytes none =
    let loads : bad_load bytes ≡ None = none_first (bad_load bytes) (code_or_note bytes) none in
    let notes = choice_none _ _ _ (none_second (bad_load bytes) (code_or_note bytes) none) in
    let count : ℕ = (header_of bytes).phnum in
    record {
      loads =
          subst (λ xs. IsGoodLoads (has_note (segments_of bytes)) (filter is_load xs)) (before_rows bytes count (omega arith))
          (good_upto bytes count (omega arith) (each_fails (bad_load_at bytes) count loads));
      code = notes.0;
      notes = each_fails (bad_note_at bytes) count notes.1;
    }
