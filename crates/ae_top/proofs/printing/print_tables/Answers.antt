use Rattle.std.proofs.Common.{ap}
use Rattle.ae_print.specs.ElfText.{elf_text}
use Rattle.ae_top.proofs.printing.print_tables.Goals as goal

pub returns-in-Ok-print_elf-clause-prints : goal.returns-in-Ok-print_elf-clause-prints
returns-in-Ok-print_elf-clause-prints g c =
    (c.in-Ok.ensures.asked, (elf_text c.in-Ok.raw, ap elf_text c.in-Ok.ensures.tables.same, c.in-Ok-print_elf.ensures.all))

pub returns-clause-prints : goal.returns-clause-prints
returns-clause-prints g c =
    (c.in-Ok.ensures.asked, (elf_text c.in-Ok.raw, ap elf_text c.in-Ok.ensures.tables.same, c.in-Err-print_elf.ensures.front))
