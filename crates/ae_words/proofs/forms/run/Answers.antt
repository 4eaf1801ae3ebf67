use Rattle.std.proofs.Common.{arith, sym, ap, ◌∙◌}
use Rattle.ae_words.specs.Files.{is_file_word}
use Rattle.ae_words.proofs.Heads.{second_is_file, second_is_option}
use Rattle.ae_words.proofs.forms.run.Goals as goal

pub returns-then-names_a_file : goal.returns-then-names_a_file
returns-then-names_a_file c =
    let file = ap is_file_word (sym c.bytes.ensures) ∙ sym c.names_a_file.ensures ∙ c.if-names_a_file.true in
    c.run_these-then-names_a_file.ensures ∙ second_is_file c.args.words.now c.second-item.result (omega arith) c.second-item.is file

pub returns-else-names_a_file : goal.returns-else-names_a_file
returns-else-names_a_file c =
    let file = ap is_file_word (sym c.bytes.ensures) ∙ sym c.names_a_file.ensures ∙ c.if-names_a_file.false in
    c.run_these-else-names_a_file.ensures ∙ second_is_option c.args.words.now c.second-item.result (omega arith) c.second-item.is file
