use Rattle.std.proofs.Common.{arith, ℕ, List, sym, ap, ◌∙◌, subst}
use Rattle.std.specs.List.{All}
use Rattle.std.proofs.lemmas.List.Elements.{All-from_get_or}
use Rattle.elf_raw.specs.declared.raw.RawElf.{RawElf}
use Rattle.rv_code.specs.Image.{IsImage}
use Rattle.rv_code.specs.Numbers.{IsByte}
use Rattle.elf_image.proofs.CodeKept.{has_code_load}
use Rattle.elf_image.proofs.ImageKept.{image_kept, image_is}
use Rattle.elf_image.proofs.accepting.read_image.Goals as goal

pub ranges_of-requires-clause-held : goal.ranges_of-requires-clause-held
ranges_of-requires-clause-held c = has_code_load c.args.bytes.now c.requires.sound c.requires.good

pub invariant_of-result : goal.invariant_of-result
invariant_of-result c =
    let bytes : List ℕ = c.args.bytes.now in
    let all : All IsByte bytes = All-from_get_or IsByte bytes 0 (λ i _. omega (arith, c.type_inv.bytes i)) in
    let symbols = c.as_slice.ensures ∙ ap (λ (raw : RawElf). raw.symbols) c.requires.read in
    subst IsImage
    (sym
    (image_is bytes _ _ _ _ _ _
    (ap (λ (raw : RawElf). raw.header.entry) c.requires.read)
    (c.from_vec.ensures ∙ c.in_ok-regions.ensures.same)
    (c.from_vec-2.ensures ∙ c.in_ok-code.ensures)
    (c.from_vec-3.ensures ∙ c.in_ok-names.ensures.file bytes symbols c.requires.extents)
    (c.from_vec-4.ensures ∙ c.in_ok-named.ensures)
    c.in_ok-note.ensures.same))
    (image_kept bytes all c.requires.sound c.requires.good c.requires.accepted)

pub returns : goal.returns
returns c =
    let bytes : List ℕ = c.args.bytes.now in
    let symbols = c.as_slice.ensures ∙ ap (λ (raw : RawElf). raw.symbols) c.requires.read in
    image_is bytes _ _ _ _ _ _
    (ap (λ (raw : RawElf). raw.header.entry) c.requires.read)
    (c.from_vec.ensures ∙ c.in_ok-regions.ensures.same)
    (c.from_vec-2.ensures ∙ c.in_ok-code.ensures)
    (c.from_vec-3.ensures ∙ c.in_ok-names.ensures.file bytes symbols c.requires.extents)
    (c.from_vec-4.ensures ∙ c.in_ok-named.ensures)
    c.in_ok-note.ensures.same
