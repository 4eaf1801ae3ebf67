use Rattle.std.proofs.Common.{ap, ◌∙◌}
use Rattle.std.specs.List.{position}
use Rattle.elf_raw.specs.declared.raw.RawElf.{RawElf}
use Rattle.elf_image.specs.Named.{names_nothing}
use Rattle.elf_image.proofs.Naming.{own_sections}
use Rattle.elf_image.proofs.relocations.bad_relocation.Goals as goal

pub first_bad-requires : goal.first_bad-requires
first_bad-requires c =
    own_sections c.requires.0 c.args.raw.now c.as_slice.result.now c.as_slice-2.result.now c.requires.1 c.as_slice.ensures c.as_slice-2.ensures

pub returns : goal.returns
returns c = λ bytes read.
    c.first_bad.ensures bytes (c.as_slice.ensures ∙ ap (λ (r : RawElf). r.sections) read)
    ∙ ap (position (names_nothing bytes)) (c.as_slice-2.ensures ∙ ap (λ (r : RawElf). r.relocations) read)
