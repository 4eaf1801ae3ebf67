-- What is shown of a graph with its weights by depth.
use Rattle.std.proofs.Common.{◌≡◌, ℕ, Bool, List, subst}
use Rattle.ae_print.specs.GraphText.{IsGraphText}
use Rattle.flow_graph.specs.CodeParts.{CodeParts}
use Rattle.flow_graph.specs.Edges.{edges_of}
use Rattle.flow_tree.specs.Weight.{weights_by_depth}
use Rattle.flow_tree.specs.WitnessEdges.{AreWitnesses, CutsCycles, HaveLeastWeight}
use Rattle.ae_top.specs.Printing.{IsWitnessText}

module _ (parts : CodeParts) (weights : List ℕ) (marks : List Bool) (by : weights ≡ weights_by_depth parts)
    (are : AreWitnesses (edges_of parts) weights marks) (cuts : CutsCycles (edges_of parts) marks) (least : HaveLeastWeight (edges_of parts) weights marks) where
  of_parts : (text : List ℕ) → IsGraphText parts weights marks text → IsWitnessText parts text
  of_parts text said = record {
    marks = marks;
    witnesses = subst (λ (table : List ℕ). AreWitnesses (edges_of parts) table marks) by are;
    cuts = cuts;
    least = subst (λ (table : List ℕ). HaveLeastWeight (edges_of parts) table marks) by least;
    shows = subst (λ (table : List ℕ). IsGraphText parts table marks text) by said;
  }

  -- a text of the graph of which something holds
  pub shown : (P : List ℕ → Type 0) → (text : List ℕ) × IsGraphText parts weights marks text × P text → (text : List ℕ) × IsWitnessText parts text × P text
  shown P some = (some.0, of_parts some.0 some.1, some.2)
