use Rattle.std.proofs.Common.{map, ap, ◌∙◌}
use Rattle.std.proofs.lemmas.List.{take_all}
use Rattle.elf_image.specs.CodeWords.{range_of}
use Rattle.elf_image.proofs.CodeAt.{extents_within}
use Rattle.elf_image.proofs.words.ranges_of.Goals as goal

pub range_of-requires-clause-low : goal.range_of-requires-clause-low
range_of-requires-clause-low c =
    (extents_within c.args.bytes.now c.args.load.now c.args.extents.now c.requires.load c.requires.extents c.loop-extent.extent-index _ c.loop-extent-test.true).above

pub range_of-requires-clause-high : goal.range_of-requires-clause-high
range_of-requires-clause-high c =
    (extents_within c.args.bytes.now c.args.load.now c.args.extents.now c.requires.load c.requires.extents c.loop-extent.extent-index _ c.loop-extent-test.true).below

pub returns : goal.returns
returns c =
    c.loop-extent.invariant
    ∙ ap (map (range_of c.args.bytes.now)) (take_all c.loop-extent.extent-index c.args.extents.now c.loop-extent-test.false)
    ∙ ap (map (range_of c.args.bytes.now)) c.requires.extents
