-- Where a run begins: this project's own. Every register is 0 but x2, which points near the end of the stack. Memory is
-- the image's regions and the stack.
use Rattle.std.specs.Prelude.{ℕ, List, [], replicate, slice_set}
use Rattle.rv_code.specs.declared.image.Image.{Image}
use Rattle.rv_code.specs.declared.limits.TheConstants.{FIRST_STACK_POINTER}
use Rattle.rv_memory.specs.Stretches.{mapping_of, memory_of}
use Rattle.rv_machine.specs.State.{State}

unfoldable pub first_registers : List ℕ
first_registers = slice_set (replicate 32 0) 2 FIRST_STACK_POINTER

abbrev pub start_of : Image → List ℕ → State
start_of image input =
    record {
      pc = image.entry;
      registers = first_registers;
      memory = memory_of (mapping_of image.regions);
      input = input;
      out = [];
      err = [];
      events = [];
    }
