use Rattle.std.proofs.Common.{◌∙◌, arith}
use Rattle.ae_words.proofs.Heads.{behind_plain}
use Rattle.ae_words.proofs.forms.plain.Goals as goal

pub returns-in-len2-up : goal.returns-in-len2-up
returns-in-len2-up c = c.plain_these.ensures ∙ behind_plain c.args.words.now (omega arith)
