use Rattle.elf_image.proofs.Joining.{IsJoining}
use Rattle.elf_image.proofs.sections.joined.Given as goal

abbrev pub invariant-loop-part : goal.invariant-loop-part
invariant-loop-part l = IsJoining l.parts l.rest l.extents.items l.extent l.part-index
