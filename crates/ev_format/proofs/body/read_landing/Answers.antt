use Rattle.std.proofs.Common.{ℕ, ◌*◌, arith, subst}
use Rattle.std.proofs.lemmas.Result.{err_from_is_err_and}
use Rattle.rv_code.specs.Numbers.{bytes_of}
use Rattle.ev_format.specs.declared.kind.RecordKind.TheVariants as kinds
use Rattle.ev_format.specs.Answers.{IfStopped}
use Rattle.ev_format.specs.Inner.Bodies.{BodyStops}
use Rattle.ev_format.specs.Inner.Filling.{FallsShort}
use Rattle.ev_format.proofs.Consumed.{IfStopped-behind}
use Rattle.ev_format.proofs.Found.{BodyStops-values}
use Rattle.ev_format.proofs.body.read_landing.Goals as goal

pub returns-in_err-values-clause-stopped : goal.returns-in_err-values-clause-stopped
returns-in_err-values-clause-stopped g c =
    let shape = g.H.Shape.shown c.args.shape.now in
    let target = c.in_ok-target.target in
    let left = g.S.Source.told c.read_word.new.source in
    let short = subst (λ (count : ℕ). IfStopped left (FallsShort (4 * count)) c.in_err-values.field-0.0) c.value_count.ensures.count c.in_err-values.ensures.short in
    let stopped = IfStopped-behind (g.S.Source.told c.args.source.now) left (bytes_of 4 target) _ (BodyStops shape kinds.Landing c.args.at) c.in_err-values.field-0.0
    c.in_ok-target.ensures.word (λ rest stop. BodyStops-values shape c.args.at target rest stop (omega arith)) short in
    let p = err_from_is_err_and c.from_residual-in_err-values.result c.from_residual-in_err-values.ensures.1 in
    rw (p.1, p.2) stopped
