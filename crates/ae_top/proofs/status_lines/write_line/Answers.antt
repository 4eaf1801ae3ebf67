use Rattle.std.proofs.Common.{◌++◌}
use Rattle.ae_ports.specs.Content.{AppendsFront}
use Rattle.ae_nums.specs.Trace.{newline}
use Rattle.ae_ports.proofs.LawsOfContent.{Appends-behind, AppendsFront-behind, AppendsFront-more}
use Rattle.ae_ports.proofs.LawsOfFaults.{OnErr-always}
use Rattle.std.proofs.lemmas.Result.{on_err_weaker}
use Rattle.ae_top.proofs.status_lines.write_line.Goals as goal

pub returns-in_err-write_all-2-clause-failed : goal.returns-in_err-write_all-2-clause-failed
returns-in_err-write_all-2-clause-failed g c =
    let told = g.K.Sink.told in
    OnErr-always (AppendsFront (told c.args.sink.now) (told c.write_all-2.new.sink) (c.args.text.now ++ c.args.detail.now ++ newline)) c.from_residual-in_err-write_all-2.result
    (AppendsFront-more (told c.args.sink.now) (told c.write_all-2.new.sink) (c.args.text.now ++ c.args.detail.now) newline
    (AppendsFront-behind (told c.args.sink.now) (told c.write_all.new.sink) (told c.write_all-2.new.sink) c.args.text.now c.args.detail.now c.in_ok-write_all.ensures.all c.in_err-write_all-2.ensures.front))

pub returns-clause-failed : goal.returns-clause-failed
returns-clause-failed g c =
    let told = g.K.Sink.told in
    on_err_weaker c.write_all-3.result
    (λ (front : AppendsFront (told c.write_all-2.new.sink) (told c.write_all-3.new.sink) newline).
    AppendsFront-behind (told c.args.sink.now) (told c.write_all-2.new.sink) (told c.write_all-3.new.sink) (c.args.text.now ++ c.args.detail.now) newline
    (Appends-behind (told c.args.sink.now) (told c.write_all.new.sink) (told c.write_all-2.new.sink) c.args.text.now c.args.detail.now c.in_ok-write_all.ensures.all c.in_ok-write_all-2.ensures.all) front)
    c.write_all-3.ensures.front
