-- What is mapped, as stretches of bytes: this project's own. Before the first step of an image they are its regions and the
-- stack, whose bytes are 0 and writable, in the order of their addresses.
use Rattle.std.specs.Prelude.{ℕ, suc, Bool, true, not, List, [], ◌∷◌, ◌++◌, map, replicate, nat_lt}
use Rattle.std.specs.List.{filter, flat_map}
use Rattle.rv_code.specs.declared.image.Region.{Region}
use Rattle.rv_code.specs.Addresses.{stack_start, stack_length}
use Rattle.rv_memory.specs.Memory.{Cell}

-- mapped bytes, one behind the other
pub record MappedStretch : Type 0 where
  pub start : ℕ
  pub bytes : List ℕ
  pub writable : Bool

abbrev pub stretch_of : Region → MappedStretch
stretch_of region = record { start = region.start; bytes = region.bytes ++ replicate region.zeros 0; writable = region.writable }

unfoldable pub stack : MappedStretch
stack = record { start = stack_start; bytes = replicate stack_length 0; writable = true }

-- the stretches at the start, in the order of addresses: the regions below the stack, the stack, and the tracer's
abbrev pub stretches_of : List Region → List MappedStretch
stretches_of regions =
    let is_below : Region → Bool = λ region. nat_lt region.start stack_start in
    map stretch_of (filter is_below regions) ++ stack ∷ map stretch_of (filter (λ region. not (is_below region)) regions)

-- the cells of bytes from an address on
abbrev pub cells_from : ℕ → List ℕ → Bool → List Cell
cells_from address [] writable = []
cells_from address (byte ∷ bytes) writable =
    record { address = address; byte = byte; writable = writable } ∷ cells_from (suc address) bytes writable

abbrev pub cells_of : MappedStretch → List Cell
cells_of stretch = cells_from stretch.start stretch.bytes stretch.writable

-- the cells of stretches
abbrev pub cells_in : List MappedStretch → List Cell
cells_in stretches = flat_map cells_of stretches

-- what a memory holds; all that is mapped is in the stretches
pub record Mapping : Type 0 where
  -- in the order of their addresses
  pub stretches : List MappedStretch

-- a memory as cells
abbrev pub memory_of : Mapping → List Cell
memory_of mapping = cells_in mapping.stretches

-- what is mapped before the first step of an image with these regions
abbrev pub mapping_of : List Region → Mapping
mapping_of regions = record { stretches = stretches_of regions }
