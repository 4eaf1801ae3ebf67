use Rattle.elf_image.proofs.NameList.{names_in_file}
use Rattle.elf_image.proofs.names.names_of.Goals as goal

pub returns-clause-file : goal.returns-clause-file
returns-clause-file c = λ bytes symbols extents.
    names_in_file bytes c.args.symbols.now c.args.extents.now c.loop-symbol.names.items c.loop-symbol.symbol-index c.loop-symbol-test.false symbols extents c.loop-symbol.invariant
