use Rattle.std.proofs.Common.{rules, sym, ◌∙◌, arith}
use Rattle.rv_code.proofs.Decoded.{bad_keeps_its_word}
use Rattle.rv_code.proofs.encoder.is_bad.Goals as goal

pub returns-in-Bad : goal.returns-in-Bad
returns-in-Bad c = (λ _. bad_keeps_its_word c.args.word c.in-Bad.field-0 (omega arith) (sym c.decode.ensures.meaning ∙ c.in-Bad.is), λ _. search rules)
