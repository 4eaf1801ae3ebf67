use Rattle.std.proofs.Common.{sym, ap, ◌∙◌, subst}
use Rattle.std.proofs.lemmas.List.{take_all}
use Rattle.elf_raw.specs.Entries.{string_table, AreNamesIn}
use Rattle.elf_raw.proofs.EntriesBack.{names_in_table}
use Rattle.elf_raw.proofs.entries.string_table.Goals as goal

pub returns-clause-read_back : goal.returns-clause-read_back
returns-clause-read_back c =
    subst (λ table. AreNamesIn table c.args.symbols.now)
    (sym (c.loop-symbol.invariant ∙ ap string_table (take_all c.loop-symbol.symbol-index c.args.symbols.now c.loop-symbol-test.false)))
    (names_in_table c.args.symbols.now)
