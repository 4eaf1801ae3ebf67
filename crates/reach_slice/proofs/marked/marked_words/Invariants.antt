use Rattle.std.proofs.Common.{◌≡◌, take}
use Rattle.std.specs.Prelude.{filter}
use Rattle.rv_code.specs.Code.{extents_of}
use Rattle.rv_code.specs.Places.{code_addresses}
use Rattle.reach_slice.specs.Marked.{is_marked}
use Rattle.reach_slice.proofs.marked.marked_words.Given as goal

abbrev pub invariant-loop-place : goal.invariant-loop-place
invariant-loop-place l = l.words.items ≡ filter (is_marked l.ranges l.marks) (take l.place (code_addresses (extents_of l.ranges)))
