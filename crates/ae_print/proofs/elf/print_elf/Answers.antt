use Rattle.std.proofs.Common.{[], rules}
use Rattle.ae_print.specs.ElfText.{elf_text}
use Rattle.ae_print.proofs.elf.print_elf.Goals as goal
use Rattle.ae_ports.proofs.LawsOfFaults.{OnErr-always, HasCause-failed, HasCause-at}
use Rattle.ae_ports.proofs.LawsOfContent.{AppendsFront-at}

pub returns-clause-all : goal.returns-clause-all
returns-clause-all g c =
    let text = elf_text c.args.raw.now in
    let written = c.write_elf.ensures.wrote.behind _ [] c.new-lines.ensures.begun in
    let all = (c.finish.ensures.finished _ text written).all in
    search rules

pub returns-clause-front : goal.returns-clause-front
returns-clause-front g c =
    let text = elf_text c.args.raw.now in
    let written = c.write_elf.ensures.wrote.behind _ [] c.new-lines.ensures.begun in
    let finished = c.finish.ensures.finished _ text written in
    AppendsFront-at _ _ _ _ text (search rules) finished.front

pub returns-clause-cause : goal.returns-clause-cause
returns-clause-cause g c =
    let text = elf_text c.args.raw.now in
    let written = c.write_elf.ensures.wrote.behind _ [] c.new-lines.ensures.begun in
    let finished = c.finish.ensures.finished _ text written in
    HasCause-at _ _ _ _ (search rules) finished.cause

pub returns-in_err-write_elf-clause-front : goal.returns-in_err-write_elf-clause-front
returns-in_err-write_elf-clause-front g c =
    let text = elf_text c.args.raw.now in
    let written = c.write_elf.ensures.wrote.behind _ [] c.new-lines.ensures.begun in
    AppendsFront-at _ _ _ _ text (search rules) (OnErr-always _ _ written.front)

pub returns-in_err-write_elf-clause-cause : goal.returns-in_err-write_elf-clause-cause
returns-in_err-write_elf-clause-cause g c =
    let text = elf_text c.args.raw.now in
    let written = c.write_elf.ensures.wrote.behind _ [] c.new-lines.ensures.begun in
    let broken = c.in_err-write_elf.ensures.broken in
    HasCause-at _ _ _ _ (search rules) (HasCause-failed _ _ _ c.from_residual.ensures.0 written.later (written.risen broken))
