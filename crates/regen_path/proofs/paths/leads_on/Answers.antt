-- The comparison says where a walk leads on.
use Rattle.std.proofs.Common.{◌≡◌, true, false, get_or}
use Rattle.std.proofs.lemmas.Option.{slice_get-get_or}
use Rattle.regen_path.proofs.Hopping.{no_spot, leads_by, leads_nowhere}
use Rattle.regen_path.proofs.paths.leads_on.Goals as goal

pub returns-in_default : goal.returns-in_default
returns-in_default c = (
  λ clash. absurd (let bad : false ≡ true = clash in cc),
  λ led. absurd (leads_nowhere c.args.spots.now c.args.goal c.args.way c.in_default.is led),
)

pub returns : goal.returns
returns c =
    let led =
    leads_by c.args.spots.now c.requires.spots c.in-Some.to c.args.goal (get_or c.args.spots.now c.in-Some.to no_spot) (get_or c.args.spots.now c.args.goal no_spot)
    (slice_get-get_or c.args.spots.now c.in-Some.to no_spot (c.requires.way c.in-Some.to c.in-Some.is)) (slice_get-get_or c.args.spots.now c.args.goal no_spot c.requires.goal) c.args.way c.in-Some.is
    in
    (λ reaches. led.0 (c.reaches.ensures.0 reaches), λ leads. c.reaches.ensures.1 (led.1 leads))
