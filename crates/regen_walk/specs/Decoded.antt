-- Instructions that were decoded once, beside the raw words of a schema.
use Rattle.std.specs.Prelude.{◌≡◌, ℕ, ⊤, List, [], ◌∷◌}
use Rattle.rv_code.specs.declared.instr.Instr.{Instr}
use Rattle.rv_code.specs.Encoding.{Fits}
use Rattle.rv_code.specs.Parts.{HasRegisters}
use Rattle.rv_code.specs.Table.{meaning_of}
use Rattle.schema_form.specs.declared.word.SchemaWord.{SchemaWord}

-- the instruction is what the raw word means
pub record IsDecoded (raw : ℕ) (instr : Instr) : Type 0 where
  pub meaning : instr ≡ meaning_of raw
  pub registers : HasRegisters instr
  pub fits : Fits instr

-- one instruction for each word
abbrev pub AreDecoded : List SchemaWord → List Instr → Type 0
AreDecoded [] [] = ⊤
AreDecoded [] (instr ∷ instrs) = ⊥
AreDecoded (word ∷ words) [] = ⊥
AreDecoded (word ∷ words) (instr ∷ instrs) = IsDecoded word.raw instr × AreDecoded words instrs
