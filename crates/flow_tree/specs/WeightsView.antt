-- How contracts see the weights of a graph's edges: as their list, each a number of 32 bits.
use Rattle.std.specs.Prelude.{ℕ, ◌<◌, ◌^◌, List}
use Rattle.std.specs.List.{AllByRecursion}
use Rattle.flow_tree.specs.declared.weights.Weights.TheInside.{Inside}

abbrev pub weights_list : Inside → List ℕ
weights_list weights = weights.table

abbrev pub AreWeights : Inside → Type 0
AreWeights weights = AllByRecursion (λ (weight : ℕ). weight < 2 ^ 32) weights.table
