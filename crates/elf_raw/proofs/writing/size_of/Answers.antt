use Rattle.std.proofs.Common.{ℕ, ap, ◌∙◌}
use Rattle.std.specs.List.{fold}
use Rattle.elf_raw.specs.Written.{last_end}
use Rattle.elf_raw.proofs.WrittenFile.{tables_end_is}
use Rattle.elf_raw.proofs.writing.size_of.Goals as goal

pub returns-clause-end : goal.returns-clause-end
returns-clause-end c =
    c.pieces_end.ensures
    ∙ ap (λ (n : ℕ). fold last_end n c.args.pieces.now) (c.tables_end.ensures.end ∙ tables_end_is c.args.raw.now c.requires c.tables_end.ensures.size)
