use Rattle.std.proofs.Common.{◌≡◌, ℕ, ◌+◌, ◌<◌, length, drop}
use Rattle.std.specs.List.{AllByRecursion}
use Rattle.ae_nums.specs.Registers.{registers_of}
use Rattle.regen_walk.specs.Registers.{with_values}
use Rattle.regen_walk.proofs.registers.put_values.Given as goal

abbrev pub invariant-loop-register : goal.invariant-loop-register
invariant-loop-register l = record {
  next : (goal.iterator-loop-register).can_next l.register-iterator;
  finite : (goal.iterator-loop-register).is_finite l.register-iterator;
  rest : with_values l.registers l.register-iterator (drop l.place l.values) ≡ with_values l.fn.registers (registers_of l.mask) l.values;
  long : length l.register-iterator + l.place ≡ length l.values;
  low : AllByRecursion (λ (register : ℕ). register < 32) l.register-iterator;
}
