use Rattle.std.proofs.Common.{arith, ◌∙◌}
use Rattle.ae_words.proofs.Heads.{option_more}
use Rattle.ae_words.proofs.options.GivenOptions.+with_options.Goals as goal

pub returns-in_ok-with_option-in-len2-up : goal.returns-in_ok-with_option-in-len2-up
returns-in_ok-with_option-in-len2-up t c =
    let now = c.in_ok-with_option-in-len2-up.field-0 in
    c.with_options.ensures
    ∙ option_more c.args.takes c.args.files.now c.args.self now c.args.place c.args.words.now c.name-item.result c.value-item.result (omega arith) c.name-item.is c.value-item.is
    (rw (← c.bytes.ensures, ← c.bytes-in-len2-up.ensures) c.in_ok-with_option-in-len2-up.ensures.options)
