use Rattle.std.proofs.Common.{◌≡◌, ◌↔◌, ℕ, List, sym, ap, subst, ◌∙◌}
use Rattle.std.specs.Prelude.{IsTrue}
use Rattle.std.specs.Int.{bit_at}
use Rattle.rv_code.specs.declared.image.Range.{Range}
use Rattle.rv_code.specs.declared.class.Class.{Class}
use Rattle.rv_code.specs.Parts.{class_of}
use Rattle.rv_code.specs.Table.{meaning_of}
use Rattle.need_sets.specs.Needed.{IsNeeded}
use Rattle.schema_form.specs.OfImage.{GivesKept, flags_of, raw_word_of}
use Rattle.schema_form.proofs.of_image.schema_word_of.Goals as goal

pub returns-clause-word : goal.returns-clause-word
returns-clause-word c = λ marks is_fall is_taken.
    let value = c.in-Some-Some.value in
    let kept = c.gives_kept-kept.result in
    let class : c.class_of-class.result ≡ class_of (meaning_of value) = c.class_of-class.ensures ∙ ap class_of c.decode.ensures.meaning in
    record {
      value = value;
      fall = c.args.fall;
      taken = c.args.taken;
      kept = kept;
      there = sym c.in-Some-Some.ensures.word;
      is_fall = is_fall;
      is_taken = is_taken;
      is_kept = subst (λ (code : List Range). IsTrue kept ↔ GivesKept code c.args.address) c.requires.needs c.gives_kept-kept.ensures;
      flags = c.flags_of.ensures ∙ (λ i. flags_of (class i) (c.is_leader-leader.ensures i) c.args.fall c.args.taken kept);
      raw = c.raw_word_of.ensures ∙ ap (λ (each : Class). raw_word_of each kept value) class;
      needs = subst (λ (code : List Range). (register : ℕ) → (bit_at c.in-Some-Some.mask register ≡ 1) ↔ IsNeeded code c.args.address register) c.requires.needs c.in-Some-Some.ensures'.mask;
    }
