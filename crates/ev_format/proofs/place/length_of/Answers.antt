use Rattle.std.proofs.Common.{ℕ, ◌+◌, ◌*◌, List, length, sym, ap, ◌∙◌}
use Rattle.ev_format.proofs.Counted.{length-landing_bytes}
use Rattle.ev_format.proofs.place.length_of.Goals as goal

pub returns-in-Landing : goal.returns-in-Landing
returns-in-Landing c =
    ap (λ (words : List ℕ). 8 + 4 * length words) c.words.ensures.same
    ∙ sym (length-landing_bytes c.args.rec.now _ _ _ c.in-Landing.is)
