-- The registers of a walk, x0 to x31, of which a landing gives some their values: this project's own.
use Rattle.std.specs.Prelude.{ℕ, List, [], ◌∷◌}
use Rattle.rv_machine.specs.State.{with_register}

-- the registers after values were put into some, one after the other
abbrev pub with_values : List ℕ → (numbers values : List ℕ) → List ℕ
with_values registers [] values = registers
with_values registers (number ∷ numbers) [] = registers
with_values registers (number ∷ numbers) (value ∷ values) = with_values (with_register registers number value) numbers values
