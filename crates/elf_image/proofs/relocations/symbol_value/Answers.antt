use Rattle.std.proofs.Common.{◌+◌, ◌*◌, ◌/◌, ap, ◌∙◌}
use Rattle.elf_raw.specs.declared.section.RawSection.{RawSection}
use Rattle.elf_raw.specs.Numbers.{word_at}
use Rattle.elf_image.proofs.Linked.{table_of, table_at, value_held}
use Rattle.elf_image.proofs.relocations.symbol_value.Goals as goal

pub bounds-sections-own : goal.bounds-sections-own
bounds-sections-own c = (table_of c.args.bytes.now c.args.sections.now c.args.relocation.now _ c.requires.sound c.requires.sections c.requires.own c.requires.there).inside

pub word_at-requires : goal.word_at-requires
word_at-requires c =
    value_held c.args.bytes.now c.args.sections.now c.args.relocation.now _ _ c.requires.sections
    (table_of c.args.bytes.now c.args.sections.now c.args.relocation.now _ c.requires.sound c.requires.sections c.requires.own c.requires.there)

pub returns : goal.returns
returns c =
    let table = table_of c.args.bytes.now c.args.sections.now c.args.relocation.now _ c.requires.sound c.requires.sections c.requires.own c.requires.there in
    c.word_at.ensures
    ∙ ap (λ (s : RawSection). word_at c.args.bytes.now (s.offset + 16 * (c.args.relocation.now.info / 256) + 4))
    (table_at c.args.bytes.now c.args.sections.now c.args.relocation.now _ _ c.requires.sections table)
