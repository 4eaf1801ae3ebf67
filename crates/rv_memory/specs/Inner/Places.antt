-- Which stretch an address lies in.
use Rattle.std.specs.Prelude.{◌⊎◌, ℕ, ◌<◌, ◌≤◌, List, length, slice_index_or}
use Rattle.rv_memory.specs.Stretches.{MappedStretch, stack}
use Rattle.rv_memory.specs.Outline.{stretch_end}

-- the stretch with this number, of so many
abbrev pub stretch_at : List MappedStretch → ℕ → MappedStretch
stretch_at stretches place = slice_index_or stretches place stack

-- the address lies in the stretch with this number
pub record HasAddress (stretches : List MappedStretch) (place address : ℕ) : Type 0 where
  pub inside : place < length stretches
  pub above : (stretch_at stretches place).start ≤ address
  pub below : address < stretch_end (stretch_at stretches place)

-- the address lies before or behind a stretch
abbrev pub Misses : MappedStretch → ℕ → Type 0
Misses stretch address = (address < stretch.start) ⊎ (stretch_end stretch ≤ address)

-- no stretch has the address
pub record IsNowhere (stretches : List MappedStretch) (address : ℕ) : Type 0 where
  pub missed : (place : ℕ) → place < length stretches → Misses (stretch_at stretches place) address
