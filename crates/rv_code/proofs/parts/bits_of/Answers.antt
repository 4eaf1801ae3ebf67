use Rattle.std.proofs.Common.{ap, ◌∙◌}
use Rattle.std.specs.Prelude.{[], ◌∷◌, bit_or}
use Rattle.rv_code.specs.Parts.{mask_of}
use Rattle.rv_code.proofs.Masks.{bit_or-mask_of}
use Rattle.rv_code.proofs.parts.bits_of.Goals as goal

pub returns : goal.returns
returns c =
    ap (λ n. bit_or n c.bit_of-2.result) c.bit_of.ensures
    ∙ (ap (bit_or (mask_of (c.args.first ∷ []))) c.bit_of-2.ensures ∙ bit_or-mask_of c.args.first c.args.second)
