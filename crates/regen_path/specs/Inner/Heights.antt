-- Trees whose nodes are numbered by depth: the nodes at and under a node have numbers in a row, from its own to the last under it.
use Rattle.std.specs.Prelude.{◌≡◌, ◌<◌, ◌≤◌, ℕ, List, Some, length, slice_get, slice_index}
use Rattle.std.specs.List.{slice_index_or}
use Rattle.regen_path.specs.declared.growing.Link.{Link}
use Rattle.regen_path.specs.declared.growing.Link.TheVariants.{Root, Up, Down}
use Rattle.regen_path.specs.declared.growing.Visit.{Visit}
use Rattle.regen_path.specs.declared.heights.Span.{Span}
use Rattle.regen_path.specs.declared.heights.Heights.{Heights}
use Rattle.regen_path.specs.Inner.Growing.{IsAbove, parent_of}

-- one number a node: that of a node at or under it, and no node under it has a greater one
pub record AreLasts (visits : List Visit) (lasts : List ℕ) : Type 0 where
  pub long : length lasts ≡ length visits
  pub under : (number : ℕ) → number < length visits → IsAbove visits number (slice_index lasts number)
  pub most : (number parent : ℕ) (visit : Visit) → slice_get visits number ≡ Some visit → parent_of visit.link ≡ Some parent → slice_index lasts number ≤ slice_index lasts parent

-- the same as far down as this number
pub record LastsFrom (visits : List Visit) (bound : ℕ) (lasts : List ℕ) : Type 0 where
  pub long : length lasts ≡ length visits
  pub under : (number : ℕ) → number < length visits → IsAbove visits number (slice_index lasts number)
  pub most : (number parent : ℕ) (visit : Visit) → bound ≤ number → slice_get visits number ≡ Some visit → parent_of visit.link ≡ Some parent → slice_index lasts number ≤ slice_index lasts parent

-- the numbers of the nodes at and under one
abbrev pub span_at : (lasts : List ℕ) → (number : ℕ) → Span
span_at lasts number = record { first = number; last = slice_index lasts number }

abbrev pub no_heights : Heights
no_heights = record { rise = record { first = 0; last = 0 }; sink = record { first = 0; last = 0 } }

abbrev pub heights_at : List Heights → (number : ℕ) → Heights
heights_at heights number = slice_index_or heights number no_heights

-- A node rises by an arc to its parent, and from there as far as that does; and what sinks to its parent sinks on to it by an arc from there.
abbrev pub heights_by : (own : Span) → List Heights → Link → Heights
heights_by own heights Root = record { rise = own; sink = own }
heights_by own heights (Up parent) = record { rise = (heights_at heights parent).rise; sink = own }
heights_by own heights (Down parent) = record { rise = own; sink = (heights_at heights parent).sink }

pub record AreHeights (visits : List Visit) (lasts : List ℕ) (heights : List Heights) : Type 0 where
  pub long : length heights ≡ length visits
  pub each : (number : ℕ) (visit : Visit) → slice_get visits number ≡ Some visit → heights_at heights number ≡ heights_by (span_at lasts number) heights visit.link
