use Rattle.std.proofs.Common.{arith, ◌≡◌, ◌≢◌, ◌<◌, ◌≤◌, ◌^◌, inl, inr, true, false, List, length, Option, None, Some, refl, sym, ap, ◌∙◌, subst, ℕ}
use Rattle.std.proofs.lemmas.Bool.Decides.{nat_tests}
use Rattle.std.proofs.lemmas.Bool.{cases_lt}
use Rattle.elf_image.specs.declared.fault.ImageFault.{ImageFault}
use Rattle.elf_image.specs.declared.fault.ImageFault.TheVariants.{BadRelocation, NoMemory}
use Rattle.elf_raw.specs.declared.raw.RawElf.{RawElf}
use Rattle.elf_raw.specs.declared.segment.RawSegment.{RawSegment}
use Rattle.elf_raw.specs.Segments.{segments_of}
use Rattle.rv_code.specs.Places.{code_addresses}
use Rattle.elf_image.specs.Loads.{has_note}
use Rattle.elf_image.specs.Inner.Loaded.{loaded_length}
use Rattle.elf_image.specs.Named.{bad_relocation}
use Rattle.elf_image.specs.Refusal.{over_of, too_large}
use Rattle.elf_image.proofs.CodeRefused.{refused_at, no_words, some_words, entry_code, over_is}
use Rattle.elf_image.proofs.accepting.code_refusal.Goals as goal

none_of : (o : Option ℕ) → ((x : ℕ) → o ≡ Some x → ⊥) → o ≡ None
none_of None never = refl
none_of (Some x) never = absurd (never x refl)

-- a refusal that isn't want of memory is that of the relocation with this number
numbered : (number : ℕ) (fault : ImageFault) → (number < 2 ^ 32 → fault ≡ BadRelocation number) → (2 ^ 32 ≤ number → fault ≡ NoMemory) → Some fault ≢ Some NoMemory
    → Some fault ≡ Some (BadRelocation number)
numbered number fault below past named = elim (cases_lt number (2 ^ 32)) [
  | inl small ↦ ap (λ (f : ImageFault). Some f) (below small)
  | inr large ↦ absurd (named (ap (λ (f : ImageFault). Some f) (past large)))
]

pub returns-then-is_empty-clause-first : goal.returns-then-is_empty-clause-first
returns-then-is_empty-clause-first c = λ bytes read sound good is named.
    let none : length c.args.extents.now ≡ 0 = grind (arith, nat_tests) in
    sym (refused_at bytes true _ _ _ (no_words bytes c.args.extents.now is none) refl refl refl)

pub returns-then-not-is_code-clause-first : goal.returns-then-not-is_code-clause-first
returns-then-not-is_code-clause-first c = λ bytes read sound good is named.
    let some : length c.args.extents.now ≢ 0 = grind (arith, nat_tests) in
    let words = some_words bytes c.args.extents.now is some in
    let at = ap (λ (raw : RawElf). raw.header.entry) read in
    let entry = entry_code bytes c.args.extents.now c.args.raw.now.header.entry false is at (sym c.if-not-is_code.true ∙ c.is_code.ensures) in
    sym (refused_at bytes false false _ _ words entry refl refl)

pub returns-in-Some-clause-first : goal.returns-in-Some-clause-first
returns-in-Some-clause-first c = λ bytes read sound good is named.
    let some : length c.args.extents.now ≢ 0 = grind (arith, nat_tests) in
    let words = some_words bytes c.args.extents.now is some in
    let at = ap (λ (raw : RawElf). raw.header.entry) read in
    let entry = entry_code bytes c.args.extents.now c.args.raw.now.header.entry true is at (sym c.if-not-is_code.false ∙ c.is_code.ensures) in
    let found : bad_relocation bytes ≡ Some c.in-Some.number = sym (c.bad_relocation.ensures bytes read) ∙ c.in-Some.is in
    numbered c.in-Some.number c.relocation_fault.result c.relocation_fault.ensures.numbered c.relocation_fault.ensures.past named
    ∙ sym (refused_at bytes false true (Some c.in-Some.number) _ words entry found refl)

pub too_large-requires-clause-segments : goal.too_large-requires-clause-segments
too_large-requires-clause-segments c = subst (λ (segments : List RawSegment). length segments < 2 ^ 32) (sym c.as_slice.ensures) c.requires.segments

pub returns-in-Some-too_large-clause-first : goal.returns-in-Some-too_large-clause-first
returns-in-Some-too_large-clause-first c = λ bytes read sound good is named.
    let some : length c.args.extents.now ≢ 0 = grind (arith, nat_tests) in
    let words = some_words bytes c.args.extents.now is some in
    let at = ap (λ (raw : RawElf). raw.header.entry) read in
    let entry = entry_code bytes c.args.extents.now c.args.raw.now.header.entry true is at (sym c.if-not-is_code.false ∙ c.is_code.ensures) in
    let found : bad_relocation bytes ≡ None = sym (c.bad_relocation.ensures bytes read) ∙ none_of c.bad_relocation.result c.in_default.not-Some in
    let segments : c.as_slice.result.now ≡ segments_of bytes = c.as_slice.ensures ∙ ap (λ (raw : RawElf). raw.segments) read in
    let over : too_large bytes ≡ Some c.in-Some-too_large.what =
    over_is bytes c.args.extents.now (Some c.in-Some-too_large.what) sound good is
    (sym c.in-Some-too_large.is ∙ c.too_large.ensures.over ∙ ap (λ (s : List RawSegment). over_of (has_note s) (loaded_length s) (length c.args.extents.now) (length (code_addresses c.args.extents.now))) segments)
    in
    sym (refused_at bytes false true None (Some c.in-Some-too_large.what) words entry found over)

pub returns-in-None-clause-first : goal.returns-in-None-clause-first
returns-in-None-clause-first c = λ bytes read sound good is named.
    let some : length c.args.extents.now ≢ 0 = grind (arith, nat_tests) in
    let words = some_words bytes c.args.extents.now is some in
    let at = ap (λ (raw : RawElf). raw.header.entry) read in
    let entry = entry_code bytes c.args.extents.now c.args.raw.now.header.entry true is at (sym c.if-not-is_code.false ∙ c.is_code.ensures) in
    let found : bad_relocation bytes ≡ None = sym (c.bad_relocation.ensures bytes read) ∙ none_of c.bad_relocation.result c.in_default.not-Some in
    let segments : c.as_slice.result.now ≡ segments_of bytes = c.as_slice.ensures ∙ ap (λ (raw : RawElf). raw.segments) read in
    let over : too_large bytes ≡ None =
    over_is bytes c.args.extents.now None sound good is
    (sym c.in-None.is ∙ c.too_large.ensures.over ∙ ap (λ (s : List RawSegment). over_of (has_note s) (loaded_length s) (length c.args.extents.now) (length (code_addresses c.args.extents.now))) segments)
    in
    sym (refused_at bytes false true None None words entry found over)
