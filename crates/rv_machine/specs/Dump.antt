-- The dump of a program's memory: this project's own. For each mapped region but the tracer's, in the order of addresses,
-- its start, its length and its bytes.
use Rattle.std.specs.Prelude.{ℕ, List, ◌++◌, length, nat_lt}
use Rattle.std.specs.List.{filter, flat_map}
use Rattle.rv_code.specs.declared.image.Image.{Image}
use Rattle.rv_code.specs.Addresses.{tracer_start}
use Rattle.rv_code.specs.Numbers.{bytes_of}
use Rattle.rv_memory.specs.Memory.{Cell, span, bytes_at}
use Rattle.rv_machine.specs.Run.{run_of}
use Rattle.rv_memory.specs.Stretches.{MappedStretch, stretches_of}

-- what memory now holds where a stretch was
abbrev pub dumped_stretch : List Cell → MappedStretch → List ℕ
dumped_stretch memory stretch =
    bytes_of 4 stretch.start ++ bytes_of 4 (length stretch.bytes) ++ bytes_at memory (span stretch.start (length stretch.bytes))

abbrev pub dumped : List MappedStretch → List Cell → List ℕ
dumped stretches memory = flat_map (dumped_stretch memory) (filter (λ (stretch : MappedStretch). nat_lt stretch.start tracer_start) stretches)

-- the dump after the run of an image on an input, at most so many steps
abbrev pub dump_of : Image → List ℕ → ℕ → List ℕ
dump_of image input count = dumped (stretches_of image.regions) (run_of image input count).last.memory
