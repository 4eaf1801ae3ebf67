use Rattle.std.proofs.Common.{◌++◌, refl, rules, ◌≡◌}
use Rattle.ae_nums.specs.Trace.{newline}
use Rattle.ev_format.specs.Spelling.{address_in}
use Rattle.ae_print.specs.EventText.{further_text, record_front, record_name}
use Rattle.ae_nums.proofs.LawsOfWriters.{Puts-both, Puts-front, Puts-more}
use Rattle.ae_print.proofs.events.write_record.Goals as goal

pub returns-in_err-write : goal.returns-in_err-write
returns-in_err-write g c =
    let rec = c.args.rec.now in
    let front = record_front c.args.offset (record_name rec) (address_in rec) in
    let broken = c.in_err-write.ensures.puts.broken in
    let is : c.bytes.result.now ≡ front = search rules in
    let puts = Puts-front _ _ front (further_text rec) _ _ c.from_residual.result broken c.write.ensures.puts is in
    Puts-more _ _ _ newline _ broken puts

pub returns-in_err-write_further : goal.returns-in_err-write_further
returns-in_err-write_further g c =
    let rec = c.args.rec.now in
    let front = record_front c.args.offset (record_name rec) (address_in rec) in
    let is : c.bytes.result.now ≡ front = search rules in
    let both = Puts-both g.met.K.Sink.rest_joins _ _ _ front (further_text rec) _ _ _ _ c.write.ensures.puts is c.write_further.ensures refl in
    Puts-front _ _ (front ++ further_text rec) newline _ _ _ c.in_err-write_further.ensures.broken both refl

pub returns : goal.returns
returns g c =
    let rec = c.args.rec.now in
    let front = record_front c.args.offset (record_name rec) (address_in rec) in
    let is : c.bytes.result.now ≡ front = search rules in
    let both = Puts-both g.met.K.Sink.rest_joins _ _ _ front (further_text rec) _ _ _ _ c.write.ensures.puts is c.write_further.ensures refl in
    Puts-both g.met.K.Sink.rest_joins _ _ _ (front ++ further_text rec) newline _ _ _ _ both refl c.write-2.ensures.puts refl
