use Rattle.std.proofs.Common.{◌≡◌, ◌*◌, ◌≤◌, length, take}
use Rattle.rv_code.specs.Places.{code_addresses}
use Rattle.elf_image.proofs.sections.word_count.Given as goal

abbrev pub invariant-loop-extent : goal.invariant-loop-extent
invariant-loop-extent l =
    (l.count ≡ length (code_addresses (take l.extent-index l.extents))) × (l.count ≤ 4294967296 * l.extent-index)
