use Rattle.std.proofs.Common.{◌∙◌}
use Rattle.elf_image.proofs.Linked.{has_symbol_there, has_symbol_nowhere}
use Rattle.elf_image.proofs.relocations.has_symbol.Goals as goal

pub returns-then-table-sections : goal.returns-then-table-sections
returns-then-table-sections c = λ bytes same.
    c.has_entry.ensures ∙ has_symbol_there bytes c.args.sections.now c.args.relocation.now _ _ same c.requires c.if-table-sections.true

pub returns-else-table-sections : goal.returns-else-table-sections
returns-else-table-sections c = λ bytes same. has_symbol_nowhere bytes c.args.sections.now c.args.relocation.now _ same c.requires c.if-table-sections.false
