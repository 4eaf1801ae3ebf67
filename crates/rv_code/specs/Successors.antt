-- The direct successors as a list, the one that is fallen to first.
use Rattle.std.specs.Prelude.{ℕ, List, ◌++◌}
use Rattle.rv_code.specs.declared.ways.Successors.{Successors}
use Rattle.rv_code.specs.Ways.{as_list}

abbrev pub listed : Successors → List ℕ
listed successors = as_list successors.fall ++ as_list successors.taken
