use Rattle.regen_path.proofs.Waiting.{WaitDownTo, left_of}
use Rattle.regen_path.proofs.growing.wait_behind.Given as goal

abbrev pub invariant-loop-next : goal.invariant-loop-next
invariant-loop-next l = WaitDownTo l.ground.ways.items l.kind l.node l.number l.next l.initial.waiting.items l.waiting.items

abbrev pub decreases-loop-next : goal.decreases-loop-next
decreases-loop-next l = left_of l.next
