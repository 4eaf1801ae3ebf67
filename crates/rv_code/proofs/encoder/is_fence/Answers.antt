use Rattle.std.proofs.Common.{rules, sym, ◌∙◌, arith}
use Rattle.rv_code.proofs.Decoded.{fence_keeps_its_word}
use Rattle.rv_code.proofs.encoder.is_fence.Goals as goal

pub returns-in-Fence : goal.returns-in-Fence
returns-in-Fence c = (λ _. fence_keeps_its_word c.args.word c.in-Fence.field-0 (omega arith) (sym c.decode.ensures.meaning ∙ c.in-Fence.is), λ _. search rules)
