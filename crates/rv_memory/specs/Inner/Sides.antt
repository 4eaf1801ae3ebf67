-- The regions on one side of the stack.
use Rattle.std.specs.Prelude.{Bool, List, not, nat_lt, if◌then◌else◌}
use Rattle.std.specs.List.{filter}
use Rattle.rv_code.specs.declared.image.Region.{Region}
use Rattle.rv_code.specs.Addresses.{stack_start}

-- whether a region begins below the stack, or else whether it doesn't
abbrev pub is_on_side : Bool → Region → Bool
is_on_side below region = if below then nat_lt region.start stack_start else not (nat_lt region.start stack_start)

abbrev pub on_side : Bool → List Region → List Region
on_side below regions = filter (is_on_side below) regions
