use Rattle.std.proofs.Common.{ℕ, Option, ap, ◌∙◌}
use Rattle.std.specs.Option.{unwrap_or}
use Rattle.std.proofs.lemmas.Option.{unwrap_or-slice_get}
use Rattle.rv_code.specs.Places.{code_addresses}
use Rattle.ae_print.proofs.schema.address_at.Goals as goal

pub returns : goal.returns
returns c =
    c.unwrap_or.ensures
    ∙ (ap (λ (found : Option ℕ). unwrap_or found 0) c.address_of.ensures ∙ unwrap_or-slice_get (code_addresses c.args.schema.now.stretches) c.args.place 0)
