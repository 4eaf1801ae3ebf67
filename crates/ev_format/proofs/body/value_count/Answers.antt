use Rattle.ev_format.proofs.Counted.{mask_is_even}
use Rattle.ev_format.proofs.body.value_count.Goals as goal

pub register_count-requires : goal.register_count-requires
register_count-requires g c = mask_is_even (g.H.Shape.shown c.args.shape.now) c.args.target c.in-Some.mask (g.met.H.Shape.well_formed c.args.shape.now) c.in-Some.ensures
