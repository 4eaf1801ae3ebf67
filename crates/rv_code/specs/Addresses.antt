-- Where things lie in the address space of 2^32 bytes: this project's own.
use Rattle.std.specs.Prelude.{ℕ}
use Rattle.rv_code.specs.declared.limits.TheConstants.{STACK_START, STACK_LENGTH, TRACER_START}

-- the stack's first byte; an executable's segments lie below it
abbrev pub stack_start : ℕ
stack_start = STACK_START

-- the bytes of the stack
abbrev pub stack_length : ℕ
stack_length = STACK_LENGTH

-- The first byte of what belongs to the tracer: new code, masks, the buffer of events and a save page.
abbrev pub tracer_start : ℕ
tracer_start = TRACER_START
