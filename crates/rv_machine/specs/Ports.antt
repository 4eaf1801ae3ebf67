-- The outside of a machine: what its ports tell, what passes through them, and whose fault a fault is.
use Rattle.std.specs.Prelude.{◌≡◌, ◌⊎◌, ℕ, ◌≤◌, List, Option, Result, Ok, Err}
use Rattle.ae_ports.specs.Content.{Consumes, Appends}
use Rattle.ae_ports.specs.Fault.{HasRisen}
use Rattle.rv_machine.specs.declared.outcome.MachineFault.{MachineFault}
use Rattle.rv_machine.specs.declared.outcome.MachineFault.TheVariants.{InputFault, OutFault, ErrFault, EventFault}

-- the bytes that the input has left, and those that the outputs and the sink of the event bytes have taken, where told
pub record Told : Type 0 where
  pub input : Option (List ℕ)
  pub out : Option (List ℕ)
  pub err : Option (List ℕ)
  pub events : Option (List ℕ)

-- the counts of faults of the same, and of the taker of items
pub record Counts : Type 0 where
  pub input : ℕ
  pub out : ℕ
  pub err : ℕ
  pub events : ℕ
  pub items : ℕ

-- these of the objects, in this order
abbrev pub tells : (input out err events : Option (List ℕ)) → Told
tells input out err events = record { input = input; out = out; err = err; events = events }

abbrev pub counts : (input out err events items : ℕ) → Counts
counts input out err events items = record { input = input; out = out; err = err; events = events; items = items }

-- a count of faults has risen, and not fallen
pub record Rises (before now : ℕ) : Type 0 where
  pub later : before ≤ now
  pub risen : HasRisen before now

-- A fault is that of the object whose count rose. The other counts, and all of them where there is no fault, are as before.
abbrev pub HasCauses : {T : Type 0} → Result T MachineFault → (before now : Counts) → Type 0
HasCauses (Ok value) before now = now ≡ before
HasCauses (Err InputFault) before now = Rises before.input now.input × (now ≡ record before { input = now.input })
HasCauses (Err OutFault) before now = Rises before.out now.out × (now ≡ record before { out = now.out })
HasCauses (Err ErrFault) before now = Rises before.err now.err × (now ≡ record before { err = now.err })
HasCauses (Err EventFault) before now =
    (Rises before.events now.events × (now ≡ record before { events = now.events }))
    ⊎ (Rises before.items now.items × (now ≡ record before { items = now.items }))

-- bytes that passed: those taken of the input, and those given to the outputs and as events
pub record Passed : Type 0 where
  pub taken : List ℕ
  pub out : List ℕ
  pub err : List ℕ
  pub events : List ℕ

-- these bytes passed, as far as the ports tell
pub record HasPassed (before now : Told) (passed : Passed) : Type 0 where
  pub input : Consumes before.input now.input passed.taken
  pub out : Appends before.out now.out passed.out
  pub err : Appends before.err now.err passed.err
  pub events : Appends before.events now.events passed.events

-- some bytes passed, and nothing else happened to what the ports tell
abbrev pub PassesOn : (before now : Told) → Type 0
PassesOn before now = (passed : Passed) × HasPassed before now passed
