use Rattle.std.proofs.Common.{sym, ◌∙◌, arith}
use Rattle.ev_format.proofs.Headed.{other_header, differ}
use Rattle.ev_format.proofs.header.read_header.Goals as goal

pub returns-then-ne-clause-stopped : goal.returns-then-ne-clause-stopped
returns-then-ne-clause-stopped g c =
    other_header (g.H.Shape.shown c.args.shape.now) (g.S.Source.told c.args.source.now) (g.S.Source.told c.fill.new.source) c.fill.new.piece c.in_ok-fill.ensures.full (omega arith)
    (λ same. differ c.fill.new.piece c.header_of.result c.if-ne.ensures (same ∙ sym c.header_of.ensures))
