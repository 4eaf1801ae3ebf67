use Rattle.std.proofs.Common.{[], rules}
use Rattle.ae_ports.proofs.LawsOfFaults.{OnErr-always, HasCause-failed, HasCause-at}
use Rattle.ae_ports.proofs.LawsOfContent.{AppendsFront-at}
use Rattle.schema_form.specs.Spelling.{schema_bytes}
use Rattle.schema_form.proofs.writing.put_schema.Goals as goal

pub returns-clause-all : goal.returns-clause-all
returns-clause-all g c =
    let text = schema_bytes c.args.schema.now in
    let written = c.write_schema.ensures.wrote.behind _ [] c.new-bytes.ensures.begun in
    let all = (c.finish.ensures.finished _ text written).all in
    search rules

pub returns-clause-front : goal.returns-clause-front
returns-clause-front g c =
    let text = schema_bytes c.args.schema.now in
    let written = c.write_schema.ensures.wrote.behind _ [] c.new-bytes.ensures.begun in
    let finished = c.finish.ensures.finished _ text written in
    AppendsFront-at _ _ _ _ text (search rules) finished.front

pub returns-clause-cause : goal.returns-clause-cause
returns-clause-cause g c =
    let text = schema_bytes c.args.schema.now in
    let written = c.write_schema.ensures.wrote.behind _ [] c.new-bytes.ensures.begun in
    let finished = c.finish.ensures.finished _ text written in
    HasCause-at _ _ _ _ (search rules) finished.cause

pub returns-in_err-write_schema-clause-front : goal.returns-in_err-write_schema-clause-front
returns-in_err-write_schema-clause-front g c =
    let text = schema_bytes c.args.schema.now in
    let written = c.write_schema.ensures.wrote.behind _ [] c.new-bytes.ensures.begun in
    AppendsFront-at _ _ _ _ text (search rules) (OnErr-always _ _ written.front)

pub returns-in_err-write_schema-clause-cause : goal.returns-in_err-write_schema-clause-cause
returns-in_err-write_schema-clause-cause g c =
    let text = schema_bytes c.args.schema.now in
    let written = c.write_schema.ensures.wrote.behind _ [] c.new-bytes.ensures.begun in
    let broken = c.in_err-write_schema.ensures.broken in
    HasCause-at _ _ _ _ (search rules) (HasCause-failed _ _ _ c.from_residual.ensures.0 written.later (written.risen broken))
