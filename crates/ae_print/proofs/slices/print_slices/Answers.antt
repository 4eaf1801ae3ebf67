use Rattle.std.proofs.Common.{rules}
use Rattle.ae_print.specs.SliceText.{IsSliceLine, IsSliceText, IsFirstOfSliceText, accesses_of}
use Rattle.ae_print.proofs.Lines.{first_all, some_as}
use Rattle.ae_print.proofs.SomeFinished.{some_written, some_all, some_front, in_error, in_success, same_count, later_count, risen_count, by_result, under_success, risen_since}
use Rattle.ae_print.proofs.slices.print_slices.Goals as goal

pub returns-in-Ok-clause-all : goal.returns-in-Ok-clause-all
returns-in-Ok-clause-all g c =
    let code = c.args.graph.now.code in
    under_success c.write_slices-written.result c.write_slices-written.ensures.all (λ some.
    let written = some_written g.K.Sink.told g.K.Sink.faults g.K.Sink.same_rest (IsSliceText code) _ _ _ c.new-lines.ensures.begun some in
    some_all g.K.Sink.told g.K.Sink.faults g.K.Sink.same_rest (IsSliceText code) _ c.finish.new.self.sink.now _ some.text _ (search rules) some.is (c.in-Ok.ensures.finished _ some.text written))

pub returns-in-Ok-clause-front : goal.returns-in-Ok-clause-front
returns-in-Ok-clause-front g c =
    let code = c.args.graph.now.code in
    let some = by_result c.write_slices-written.result c.write_slices-written.ensures.all c.write_slices-written.ensures.front
    (λ all. some_as _ _ _ (IsFirstOfSliceText code) (λ text is. first_all (IsSliceLine code) (accesses_of code) text is) all) (λ front. front) in
    let written = some_written g.K.Sink.told g.K.Sink.faults g.K.Sink.same_rest (IsFirstOfSliceText code) _ _ _ c.new-lines.ensures.begun some in
    let finished = c.in-Ok.ensures.finished _ some.text written in
    in_error _ c.write_slices-written.result (some_front g.K.Sink.told g.K.Sink.faults g.K.Sink.same_rest (IsFirstOfSliceText code) _ c.finish.new.self.sink.now _ some.text _ (search rules) some.is finished)

pub returns-in-Ok-clause-failed : goal.returns-in-Ok-clause-failed
returns-in-Ok-clause-failed g c = λ failed.
    let code = c.args.graph.now.code in
    let some = by_result c.write_slices-written.result c.write_slices-written.ensures.all c.write_slices-written.ensures.front
    (λ all. some_as _ _ _ (IsFirstOfSliceText code) (λ text is. first_all (IsSliceLine code) (accesses_of code) text is) all) (λ front. front) in
    let written = some_written g.K.Sink.told g.K.Sink.faults g.K.Sink.same_rest (IsFirstOfSliceText code) _ _ _ c.new-lines.ensures.begun some in
    risen_since _ _ (g.K.Sink.faults c.finish.new.self.sink.now) _ (search rules) (written.risen (c.write_slices-written.ensures.broken failed)) c.in-Ok.ensures.written.later

pub returns-in-Ok-clause-served : goal.returns-in-Ok-clause-served
returns-in-Ok-clause-served g c =
    let code = c.args.graph.now.code in
    let some = by_result c.write_slices-written.result c.write_slices-written.ensures.all c.write_slices-written.ensures.front
    (λ all. some_as _ _ _ (IsFirstOfSliceText code) (λ text is. first_all (IsSliceLine code) (accesses_of code) text is) all) (λ front. front) in
    let written = some_written g.K.Sink.told g.K.Sink.faults g.K.Sink.same_rest (IsFirstOfSliceText code) _ _ _ c.new-lines.ensures.begun some in
    let finished = c.in-Ok.ensures.finished _ some.text written in
    in_success _ c.write_slices-written.result (same_count _ (g.K.Sink.faults c.finish.new.self.sink.now) _ _ (search rules) finished.cause)

pub returns-in-Ok-clause-unfailed : goal.returns-in-Ok-clause-unfailed
returns-in-Ok-clause-unfailed g c = λ _.
    let code = c.args.graph.now.code in
    let some = by_result c.write_slices-written.result c.write_slices-written.ensures.all c.write_slices-written.ensures.front
    (λ all. some_as _ _ _ (IsFirstOfSliceText code) (λ text is. first_all (IsSliceLine code) (accesses_of code) text is) all) (λ front. front) in
    let written = some_written g.K.Sink.told g.K.Sink.faults g.K.Sink.same_rest (IsFirstOfSliceText code) _ _ _ c.new-lines.ensures.begun some in
    let finished = c.in-Ok.ensures.finished _ some.text written in
    same_count _ (g.K.Sink.faults c.finish.new.self.sink.now) _ _ (search rules) finished.cause

pub returns-in-Ok-clause-later : goal.returns-in-Ok-clause-later
returns-in-Ok-clause-later g c =
    let code = c.args.graph.now.code in
    let some = by_result c.write_slices-written.result c.write_slices-written.ensures.all c.write_slices-written.ensures.front
    (λ all. some_as _ _ _ (IsFirstOfSliceText code) (λ text is. first_all (IsSliceLine code) (accesses_of code) text is) all) (λ front. front) in
    let written = some_written g.K.Sink.told g.K.Sink.faults g.K.Sink.same_rest (IsFirstOfSliceText code) _ _ _ c.new-lines.ensures.begun some in
    let finished = c.in-Ok.ensures.finished _ some.text written in
    later_count _ (g.K.Sink.faults c.finish.new.self.sink.now) _ _ (search rules) finished.cause

pub returns-in-Err-clause-front : goal.returns-in-Err-clause-front
returns-in-Err-clause-front g c =
    let code = c.args.graph.now.code in
    let some = by_result c.write_slices-written.result c.write_slices-written.ensures.all c.write_slices-written.ensures.front
    (λ all. some_as _ _ _ (IsFirstOfSliceText code) (λ text is. first_all (IsSliceLine code) (accesses_of code) text is) all) (λ front. front) in
    let written = some_written g.K.Sink.told g.K.Sink.faults g.K.Sink.same_rest (IsFirstOfSliceText code) _ _ _ c.new-lines.ensures.begun some in
    let finished = c.in-Err.ensures.finished _ some.text written in
    some_front g.K.Sink.told g.K.Sink.faults g.K.Sink.same_rest (IsFirstOfSliceText code) _ c.finish.new.self.sink.now _ some.text _ (search rules) some.is finished

pub returns-in-Err-clause-failed : goal.returns-in-Err-clause-failed
returns-in-Err-clause-failed g c = λ _.
    let code = c.args.graph.now.code in
    let some = by_result c.write_slices-written.result c.write_slices-written.ensures.all c.write_slices-written.ensures.front
    (λ all. some_as _ _ _ (IsFirstOfSliceText code) (λ text is. first_all (IsSliceLine code) (accesses_of code) text is) all) (λ front. front) in
    let written = some_written g.K.Sink.told g.K.Sink.faults g.K.Sink.same_rest (IsFirstOfSliceText code) _ _ _ c.new-lines.ensures.begun some in
    let finished = c.in-Err.ensures.finished _ some.text written in
    risen_count _ (g.K.Sink.faults c.finish.new.self.sink.now) _ _ (search rules) finished.cause

pub returns-in-Err-clause-later : goal.returns-in-Err-clause-later
returns-in-Err-clause-later g c =
    let code = c.args.graph.now.code in
    let some = by_result c.write_slices-written.result c.write_slices-written.ensures.all c.write_slices-written.ensures.front
    (λ all. some_as _ _ _ (IsFirstOfSliceText code) (λ text is. first_all (IsSliceLine code) (accesses_of code) text is) all) (λ front. front) in
    let written = some_written g.K.Sink.told g.K.Sink.faults g.K.Sink.same_rest (IsFirstOfSliceText code) _ _ _ c.new-lines.ensures.begun some in
    let finished = c.in-Err.ensures.finished _ some.text written in
    later_count _ (g.K.Sink.faults c.finish.new.self.sink.now) _ _ (search rules) finished.cause
