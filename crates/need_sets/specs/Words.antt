-- What the code words at addresses are: each by the instruction that the word means.
use Rattle.std.specs.Prelude.{ℕ, Bool, List, [], Option}
use Rattle.std.specs.Option.{option_and_then, option_map, option_map_or}
use Rattle.rv_code.specs.declared.class.Class.{Class}
use Rattle.rv_code.specs.declared.image.Range.{Range}
use Rattle.rv_code.specs.declared.instr.Instr.{Instr}
use Rattle.rv_code.specs.Code.{extents_of, is_code}
use Rattle.rv_code.specs.Parts.{class_of, base_of, sources_of, written_by}
use Rattle.rv_code.specs.Ways.{successor_by, successors_of}
use Rattle.flow_graph.specs.CodeParts.{instr_in}

module _ (code : List Range) (address : ℕ) where
  abbrev pub class_at : Option Class
  class_at = option_map class_of (instr_in code address)

  -- the register that a load or store takes its address from, but x0
  abbrev pub base_at : Option ℕ
  base_at = option_and_then base_of (instr_in code address)

  abbrev pub written_at : Option ℕ
  written_at = option_and_then written_by (instr_in code address)

  abbrev pub sources_at : List ℕ
  sources_at = option_map_or sources_of (instr_in code address) []

  -- the direct successors: the fall address and the direct target, where they are code words
  abbrev pub successors_at : List ℕ
  successors_at = option_map_or (λ (instr : Instr). successors_of (is_code (extents_of code)) instr address) (instr_in code address) []

  -- the one that a way leads to
  abbrev pub successor_at : (taken : Bool) → Option ℕ
  successor_at taken = option_and_then (λ (instr : Instr). successor_by (is_code (extents_of code)) taken instr address) (instr_in code address)
