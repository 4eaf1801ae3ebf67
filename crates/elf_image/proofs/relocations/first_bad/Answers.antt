use Rattle.std.proofs.Common.{pos, sym, ◌∙◌}
use Rattle.elf_image.specs.Named.{names_nothing}
use Rattle.elf_image.proofs.FirstPassing.{found_at, found_never, fails_one_more}
use Rattle.elf_image.proofs.relocations.first_bad.Goals as goal

pub returns-then-names_nothing : goal.returns-then-names_nothing
returns-then-names_nothing c = λ bytes same.
    found_at (names_nothing bytes) c.args.relocations.now c.loop-number.number _ c.loop-number-test.true (c.loop-number.invariant bytes same)
    (sym (c.names_nothing.ensures bytes same) ∙ c.if-names_nothing.true)

pub loop-number-preserved : goal.loop-number-preserved
loop-number-preserved c = λ bytes same.
    fails_one_more (names_nothing bytes) c.args.relocations.now c.loop-number.number _ c.loop-number-test.true (c.loop-number.invariant bytes same)
    (sym (c.names_nothing.ensures bytes same) ∙ c.if-names_nothing.false)

pub returns : goal.returns
returns c = λ bytes same.
    found_never (names_nothing bytes) c.args.relocations.now c.loop-number.number (record { section = 0; offset = 0; info = 0; addend = pos 0 }) c.loop-number-test.false (c.loop-number.invariant bytes same)
