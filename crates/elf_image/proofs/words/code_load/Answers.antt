use Rattle.std.proofs.Common.{sym, ◌∙◌}
use Rattle.elf_image.proofs.LoadFound.{code_load_at}
use Rattle.elf_image.proofs.words.code_load.Goals as goal

pub returns-clause-code : goal.returns-clause-code
returns-clause-code c = λ bytes same.
    code_load_at bytes c.args.segments.now c.loop-number.number _ c.requires c.loop-number.invariant (sym c.loads_code.ensures ∙ c.loop-number-test.false) same
