use Rattle.std.proofs.Common.{rules}
use Rattle.rv_code.specs.Code.{extents_of}
use Rattle.rv_code.specs.Places.{code_addresses}
use Rattle.ae_ports.proofs.LawsOfFaults.{HasCause-failed, HasCause-at}
use Rattle.ae_print.specs.NeedsText.{IsNeedsLine, IsNeedsText, IsFirstOfNeedsText}
use Rattle.ae_print.proofs.Lines.{first_all}
use Rattle.ae_print.proofs.SomeFinished.{some_written, some_all, some_front, some_let_go, in_error}
use Rattle.ae_print.proofs.needs.print_needs.Goals as goal

pub returns-clause-all : goal.returns-clause-all
returns-clause-all g c =
    let code = c.args.graph.now.code in
    let some = c.in_ok-write_needs.ensures.all in
    let written = some_written g.K.Sink.told g.K.Sink.faults g.K.Sink.same_rest (IsNeedsText code) _ _ _ c.new-lines.ensures.begun some in
    some_all g.K.Sink.told g.K.Sink.faults g.K.Sink.same_rest (IsNeedsText code) _ c.finish.new.self.sink.now _ some.text _ (search rules) some.is (c.finish.ensures.finished _ some.text written)

pub returns-clause-front : goal.returns-clause-front
returns-clause-front g c =
    let code = c.args.graph.now.code in
    let some = c.in_ok-write_needs.ensures.all in
    let written = some_written g.K.Sink.told g.K.Sink.faults g.K.Sink.same_rest (IsNeedsText code) _ _ _ c.new-lines.ensures.begun some in
    in_error _ _
    (some_front g.K.Sink.told g.K.Sink.faults g.K.Sink.same_rest (IsFirstOfNeedsText code) _ c.finish.new.self.sink.now _ some.text _ (search rules)
    (first_all (IsNeedsLine code) (code_addresses (extents_of code)) some.text some.is) (c.finish.ensures.finished _ some.text written))

pub returns-clause-cause : goal.returns-clause-cause
returns-clause-cause g c =
    let code = c.args.graph.now.code in
    let some = c.in_ok-write_needs.ensures.all in
    let written = some_written g.K.Sink.told g.K.Sink.faults g.K.Sink.same_rest (IsNeedsText code) _ _ _ c.new-lines.ensures.begun some in
    HasCause-at _ _ _ _ (search rules) (c.finish.ensures.finished _ some.text written).cause

pub returns-in_err-write_needs-clause-front : goal.returns-in_err-write_needs-clause-front
returns-in_err-write_needs-clause-front g c =
    let code = c.args.graph.now.code in
    let some = c.in_err-write_needs.ensures.front in
    let written = some_written g.K.Sink.told g.K.Sink.faults g.K.Sink.same_rest (IsFirstOfNeedsText code) _ _ _ c.new-lines.ensures.begun some in
    in_error _ _ (some_let_go g.K.Sink.told g.K.Sink.faults g.K.Sink.same_rest (IsFirstOfNeedsText code) _ _ _ some.text (search rules) some.is written.front)

pub returns-in_err-write_needs-clause-cause : goal.returns-in_err-write_needs-clause-cause
returns-in_err-write_needs-clause-cause g c =
    let code = c.args.graph.now.code in
    let some = c.in_err-write_needs.ensures.front in
    let written = some_written g.K.Sink.told g.K.Sink.faults g.K.Sink.same_rest (IsFirstOfNeedsText code) _ _ _ c.new-lines.ensures.begun some in
    let broken = c.in_err-write_needs.ensures.broken in
    HasCause-at _ _ _ _ (search rules) (HasCause-failed _ _ _ c.from_residual.ensures.0 written.later (written.risen broken))
