use Rattle.std.proofs.Common.{List, [], ◌∷◌, ◌++◌, take, get_or, sym, subst}
use Rattle.std.proofs.lemmas.List.{take_more}
use Rattle.rv_code.specs.declared.instr.Instr.{Instr}
use Rattle.schema_form.specs.declared.word.SchemaWord.{SchemaWord}
use Rattle.regen_walk.specs.Decoded.{AreDecoded}
use Rattle.regen_walk.proofs.WordsDecoded.{one_more}
use Rattle.regen_walk.proofs.decoded.decoded.Goals as goal

abbrev no_word : SchemaWord
no_word = record { flags = 0; raw = 0; mask = 0 }

pub loop-word-preserved : goal.loop-word-preserved
loop-word-preserved c =
    let words = c.args.words.now in
    let index = c.loop-word.word-index in
    let word : SchemaWord = get_or words index no_word in
    let means = c.decode.ensures in
    let one = one_more (take index words) c.loop-word.instrs.items word c.decode.result c.loop-word.invariant (record { meaning = means.meaning; registers = means.registers; fits = means.fits }) in
    subst (λ (list : List SchemaWord). AreDecoded list c.push.new.self.items) (sym (take_more words index no_word c.loop-word-test.true))
    (subst (λ (instrs : List Instr). AreDecoded (take index words ++ word ∷ []) instrs) (sym c.in_ok-push.ensures.items) one)
