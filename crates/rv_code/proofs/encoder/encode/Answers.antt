use Rattle.std.proofs.Common.{ap, ◌∙◌}
use Rattle.rv_code.specs.Table.{meaning_of}
use Rattle.rv_code.proofs.Encoded.{meaning_of-word_of}
use Rattle.rv_code.proofs.encoder.encode.Goals as goal

pub returns-clause-meaning : goal.returns-clause-meaning
returns-clause-meaning c = ap meaning_of c.by_format.ensures ∙ meaning_of-word_of c.args.instr.now c.requires
