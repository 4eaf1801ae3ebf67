use Rattle.std.proofs.Common.{◌≡◌, ℕ, ◌++◌, List, take}
use Rattle.std.specs.Prelude.{flat_map}
use Rattle.rv_code.specs.Code.{extents_of}
use Rattle.rv_code.specs.Places.{code_addresses}
use Rattle.flow_graph.specs.CodeParts.{instr_in}
use Rattle.flow_graph.specs.Leaders.{places_behind}
use Rattle.flow_graph.specs.Marks.{marks_of}
use Rattle.flow_graph.proofs.marks.mark_targets.Given as goal

abbrev pub invariant-loop-place : goal.invariant-loop-place
invariant-loop-place l =
    (addresses : List ℕ) → l.initial.marks ≡ marks_of l.ranges addresses
    → l.marks ≡ marks_of l.ranges (addresses ++ flat_map (λ address. places_behind (instr_in l.ranges address) address) (take l.place (code_addresses (extents_of l.ranges))))
