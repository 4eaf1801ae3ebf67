use Rattle.rv_code.proofs.Decoded.{meaning_of-Fits, word_of-meaning_of}
use Rattle.rv_code.proofs.Encoded.{word_of-IsWord, meaning_of-word_of}
use Rattle.rv_code.proofs.laws.words_and_instructions_agree.Goals as goal

pub returns : goal.returns
returns c =
    record {
      instructions = λ instr fits. (word_of-IsWord instr fits, meaning_of-word_of instr fits);
      words = λ word small. (meaning_of-Fits word small, word_of-meaning_of word small);
    }
