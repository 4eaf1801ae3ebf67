use Rattle.std.proofs.Common.{ap, ◌∙◌}
use Rattle.rv_code.specs.Numbers.{number_of}
use Rattle.schema_form.proofs.Words.{four_bytes}
use Rattle.schema_form.proofs.numbers.word_from.Goals as goal

pub returns : goal.returns
returns c =
    let four = four_bytes c.args.bytes.now c.args.offset c.requires in
    c.take_u32.ensures.word ∙ cc (ap number_of four)
