-- What is written between two moments, and between the second and a third, is written between the first and the third.
use Rattle.std.proofs.Common.{ℕ, List, [], ◌++◌, Option, refl, sym, ◌∙◌, subst, append_assoc, arith}
use Rattle.std.proofs.lemmas.List.{append-nil}
use Rattle.std.proofs.lemmas.Grind.{flat_map-append}
use Rattle.ae_nums.specs.declared.item.Item.{Item}
use Rattle.ae_nums.specs.declared.writer.LineWriter.{LineWriter}
use Rattle.ae_nums.specs.Trace.{line_of, trace_text}
use Rattle.ae_nums.specs.Writer.{Written, Wrote}

module _ {K : Type 0} (told : K → Option (List ℕ)) (faults : K → ℕ) where
  -- between a moment and itself nothing was written
  pub wrote_nothing : (writer : LineWriter K) → Wrote told faults writer writer []
  wrote_nothing writer = record {
    behind = λ start first written. subst (Written told faults start writer) (sym (append-nil first)) written;
    later = omega arith;
    still = λ broken. (broken, refl);
  }

  -- a text, and then another
  pub wrote_both : (one two three : LineWriter K) (first second : List ℕ) → Wrote told faults one two first → Wrote told faults two three second → Wrote told faults one three (first ++ second)
  wrote_both one two three first second before after = record {
    behind = λ start text written.
        subst (Written told faults start three) (append_assoc text first second) (after.behind start (text ++ first) (before.behind start text written));
    later = omega (arith, before.later, after.later);
    still = λ broken.
        let mid = before.still broken in
        let end = after.still mid.0 in
        (end.0, end.1 ∙ mid.1);
  }

  -- the lines of some items, and then those of others
  pub wrote_lines : (one two three : LineWriter K) (first second : List Item) → Wrote told faults one two (trace_text first) → Wrote told faults two three (trace_text second) → Wrote told faults one three (trace_text (first ++ second))
  wrote_lines one two three first second before after =
      subst (Wrote told faults one three) (sym (flat_map-append line_of first second)) (wrote_both one two three (trace_text first) (trace_text second) before after)
