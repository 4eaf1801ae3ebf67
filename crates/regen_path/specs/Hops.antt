-- What to do first on a walk.
use Rattle.std.specs.Prelude.{List, [], ◌∷◌, if◌then◌else◌, ◌==◌}
use Rattle.regen_path.specs.declared.arcs.Arc.{Arc}
use Rattle.regen_path.specs.declared.paths.Hop.{Hop}
use Rattle.regen_path.specs.declared.paths.Hop.TheVariants.{Fall, Taken, Here}

-- the way of a walk's first arc; a walk without arcs is at its goal
abbrev pub first_hop : List Arc → Hop
first_hop [] = Here
first_hop (arc ∷ rest) = if arc.kind == 0 then Fall else Taken
