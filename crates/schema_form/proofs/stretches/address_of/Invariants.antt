use Rattle.std.proofs.Common.{◌≡◌, drop}
use Rattle.rv_code.specs.Places.{address_of}
use Rattle.schema_form.proofs.stretches.address_of.Given as goal

abbrev pub invariant-loop-stretch : goal.invariant-loop-stretch
invariant-loop-stretch l = address_of l.stretches l.place ≡ address_of (drop l.stretch-index l.stretches) l.left
