use Rattle.elf_raw.specs.Relocations.{relocation_of}
use Rattle.rv_code.proofs.LawsOfRows.{row_more}
use Rattle.elf_raw.proofs.tables.add_relocations.Goals as goal

pub loop-place-preserved : goal.loop-place-preserved
loop-place-preserved c =
    row_more (relocation_of c.args.bytes.now c.args.number c.args.section.now) c.args.relocations.now.items c.loop-place.relocations.items c.push.new.self.items c.loop-place.place _
    c.loop-place.invariant c.in_ok-push.ensures.items c.read_relocation.ensures
