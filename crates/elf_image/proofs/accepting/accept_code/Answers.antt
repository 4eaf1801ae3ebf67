use Rattle.std.proofs.Common.{◌≡◌, ℕ, ◌+◌, ◌<◌, ◌≤◌, ◌^◌, List, length, None, Some, arith, sym, ap, ◌∙◌, subst}
use Rattle.std.specs.List.{All}
use Rattle.std.proofs.lemmas.List.Elements.{All-from_get_or}
use Rattle.elf_image.specs.declared.fault.ImageFault.{ImageFault}
use Rattle.elf_raw.specs.declared.raw.RawElf.{RawElf}
use Rattle.elf_raw.specs.declared.section.RawSection.{RawSection}
use Rattle.elf_raw.specs.declared.segment.RawSegment.{RawSegment}
use Rattle.elf_raw.specs.Sections.{sections_of}
use Rattle.elf_raw.specs.Segments.{segments_of}
use Rattle.rv_code.specs.declared.extent.Extent.{Extent}
use Rattle.rv_code.specs.Numbers.{IsByte}
use Rattle.rv_code.specs.Places.{extents_at}
use Rattle.elf_image.specs.CodeWords.{code_load, words_by, extents_in}
use Rattle.elf_image.proofs.CodeLoad.{code_load_kept}
use Rattle.elf_image.proofs.ImageKept.{segments_counted, sections_counted}
use Rattle.elf_image.proofs.accepting.accept_code.Goals as goal

pub code_extents-requires : goal.code_extents-requires
code_extents-requires c =
    let bytes : List ℕ = c.args.bytes.now in
    let segments : c.as_slice.result.now ≡ segments_of bytes = c.as_slice.ensures ∙ ap (λ (raw : RawElf). raw.segments) c.requires.read in
    let load : c.code_load-load.result.now ≡ code_load bytes = c.code_load-load.ensures.code bytes segments in
    let kept = code_load_kept bytes c.requires.sound c.requires.good in
    subst (λ (load : RawSegment). load.vaddr + load.filesz ≤ 2 ^ 32) (sym load) (omega (arith, kept.whole, kept.below))

pub code_refusal-requires-clause-few : goal.code_refusal-requires-clause-few
code_refusal-requires-clause-few c =
    let bytes : List ℕ = c.args.bytes.now in
    let all : All IsByte bytes = All-from_get_or IsByte bytes 0 (λ i _. omega (arith, c.type_inv.bytes i)) in
    let sections : length c.as_slice-2.result.now ≡ length (sections_of bytes) = ap length (c.as_slice-2.ensures ∙ ap (λ (raw : RawElf). raw.sections) c.requires.read) in
    let same : length c.deref.result.now ≡ length c.in-Ok.extents.items = ap length c.deref.ensures.value in
    omega (arith, sections_counted bytes all, c.in-Ok.ensures.few)

pub code_refusal-requires-clause-segments : goal.code_refusal-requires-clause-segments
code_refusal-requires-clause-segments c =
    let bytes : List ℕ = c.args.bytes.now in
    let all : All IsByte bytes = All-from_get_or IsByte bytes 0 (λ i _. omega (arith, c.type_inv.bytes i)) in
    subst (λ (raw : RawElf). length raw.segments < 2 ^ 32) (sym c.requires.read) (segments_counted bytes all)

-- the extents are those of the file
extents_read : (bytes : List ℕ) (sections : List RawSection) (load : RawSegment) (items extents : List Extent) → load ≡ code_load bytes
    → sections ≡ sections_of bytes → items ≡ extents_at (words_by load sections) → extents ≡ items → extents ≡ extents_in bytes
extents_read bytes sections load items extents load_is sections_are made read =
    read ∙ made ∙ ap (λ l. extents_at (words_by l sections)) load_is ∙ ap (λ s. extents_at (words_by (code_load bytes) s)) sections_are

same_fault : {one other : ImageFault} → Some one ≡ Some other → one ≡ other
same_fault is = cc is

no_fault : {fault : ImageFault} → None ≡ Some fault → ⊥
no_fault is = absurd (cc is)

pub returns-in-Some-clause-refused : goal.returns-in-Some-clause-refused
returns-in-Some-clause-refused c = λ named.
    let bytes : List ℕ = c.args.bytes.now in
    let segments : c.as_slice.result.now ≡ segments_of bytes = c.as_slice.ensures ∙ ap (λ (raw : RawElf). raw.segments) c.requires.read in
    let sections : c.as_slice-2.result.now ≡ sections_of bytes = c.as_slice-2.ensures ∙ ap (λ (raw : RawElf). raw.sections) c.requires.read in
    let load : c.code_load-load.result.now ≡ code_load bytes = c.code_load-load.ensures.code bytes segments in
    let extents = extents_read bytes _ _ _ _ load sections c.in-Ok.ensures.words c.deref.ensures.value in
    sym (c.code_refusal.ensures.first bytes c.requires.read c.requires.sound c.requires.good extents (λ wanting. named (same_fault (sym c.in-Some.is ∙ wanting)))) ∙ c.in-Some.is

pub read_image-requires-clause-load : goal.read_image-requires-clause-load
read_image-requires-clause-load c =
    let bytes : List ℕ = c.args.bytes.now in
    let segments : c.as_slice.result.now ≡ segments_of bytes = c.as_slice.ensures ∙ ap (λ (raw : RawElf). raw.segments) c.requires.read in
    c.code_load-load.ensures.code bytes segments

pub read_image-requires-clause-extents : goal.read_image-requires-clause-extents
read_image-requires-clause-extents c =
    let bytes : List ℕ = c.args.bytes.now in
    let segments : c.as_slice.result.now ≡ segments_of bytes = c.as_slice.ensures ∙ ap (λ (raw : RawElf). raw.segments) c.requires.read in
    let sections : c.as_slice-2.result.now ≡ sections_of bytes = c.as_slice-2.ensures ∙ ap (λ (raw : RawElf). raw.sections) c.requires.read in
    let load : c.code_load-load.result.now ≡ code_load bytes = c.code_load-load.ensures.code bytes segments in
    extents_read bytes _ _ _ _ load sections c.in-Ok.ensures.words c.deref-2.ensures.value

pub read_image-requires-clause-accepted : goal.read_image-requires-clause-accepted
read_image-requires-clause-accepted c =
    let bytes : List ℕ = c.args.bytes.now in
    let segments : c.as_slice.result.now ≡ segments_of bytes = c.as_slice.ensures ∙ ap (λ (raw : RawElf). raw.segments) c.requires.read in
    let sections : c.as_slice-2.result.now ≡ sections_of bytes = c.as_slice-2.ensures ∙ ap (λ (raw : RawElf). raw.sections) c.requires.read in
    let load : c.code_load-load.result.now ≡ code_load bytes = c.code_load-load.ensures.code bytes segments in
    let extents = extents_read bytes _ _ _ _ load sections c.in-Ok.ensures.words c.deref.ensures.value in
    sym (c.code_refusal.ensures.first bytes c.requires.read c.requires.sound c.requires.good extents (λ wanting. no_fault (sym c.in_default-code_refusal.is ∙ wanting))) ∙ c.in_default-code_refusal.is

pub returns-in-Ok-read_image-clause-accepted : goal.returns-in-Ok-read_image-clause-accepted
returns-in-Ok-read_image-clause-accepted c =
    let bytes : List ℕ = c.args.bytes.now in
    let segments : c.as_slice.result.now ≡ segments_of bytes = c.as_slice.ensures ∙ ap (λ (raw : RawElf). raw.segments) c.requires.read in
    let sections : c.as_slice-2.result.now ≡ sections_of bytes = c.as_slice-2.ensures ∙ ap (λ (raw : RawElf). raw.sections) c.requires.read in
    let load : c.code_load-load.result.now ≡ code_load bytes = c.code_load-load.ensures.code bytes segments in
    let extents = extents_read bytes _ _ _ _ load sections c.in-Ok.ensures.words c.deref.ensures.value in
    sym (c.code_refusal.ensures.first bytes c.requires.read c.requires.sound c.requires.good extents (λ wanting. no_fault (sym c.in_default-code_refusal.is ∙ wanting))) ∙ c.in_default-code_refusal.is
