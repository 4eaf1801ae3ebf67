use Rattle.std.proofs.Common.{sym, ap, ◌∙◌}
use Rattle.std.specs.Prelude.{is_some}
use Rattle.ae_print.proofs.Lines.{puts_anyway}
use Rattle.ae_print.proofs.needs.write_word.Goals as goal

pub unreachable-requires : goal.unreachable-requires
unreachable-requires g c =
    let none = ap is_some (sym c.in-None.is) ∙ c.mask.ensures.code ∙ c.requires in
    cc none

pub returns-clause-line : goal.returns-clause-line
returns-clause-line g c = record {
  text = c.bytes.result.now;
  is = record {
    mask = c.in-Some.mask;
    hard = c.hard.result;
    kept = c.kept.result;
    needs = c.in-Some.ensures.mask;
    is_hard = c.hard.ensures;
    is_kept = c.kept.ensures;
    is = c.bytes.ensures.same ∙ c.line_of_word-line.ensures;
  };
  puts = puts_anyway _ _ _ _ c.write.ensures.puts;
}
