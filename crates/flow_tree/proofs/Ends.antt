-- Before the first tree, and after the last.
use Rattle.std.proofs.Common.{◌≡◌, ℕ, zero, suc, ◌<◌, Bool, true, false, List, length, Some, None, sym, replicate}
use Rattle.std.specs.Prelude.{slice_get}
use Rattle.flow_graph.specs.declared.edge.Edge.{Edge}
use Rattle.flow_tree.specs.WitnessEdges.{Joins}
use Rattle.flow_tree.specs.Inner.Growing.{IsGrown, HasGrown, IsSpanning}
use Rattle.flow_tree.proofs.LawsOfJoins.{Joins-IsUndirected}

replicate_at : (count : ℕ) (mark : Bool) (place : ℕ) (found : Bool) → slice_get (replicate count mark) place ≡ Some found → mark ≡ found
replicate_at zero mark place found is = absurd (let clash : None ≡ Some found = is in cc)
replicate_at (suc count) mark zero found is = let same : Some mark ≡ Some found = is in cc
replicate_at (suc count) mark (suc place) found is = replicate_at count mark place found is

apart : true ≡ false → ⊥
apart same = absurd (cc)

-- nothing is grown yet, and all edges are marked
pub none_grown : (edges : List Edge) (weights : List ℕ) (blocks count : ℕ) → HasGrown edges weights (replicate blocks false) (replicate count true)
none_grown edges weights blocks count = record {
  chosen = λ number unmarked witness. apart (replicate_at count true number false unmarked);
  joined = λ number one other joined on other_on. absurd (apart (sym (replicate_at blocks false one true on)));
  whole = λ number one other joined on. absurd (apart (sym (replicate_at blocks false one true on)));
}

-- all blocks are grown
pub all_grown : (edges : List Edge) (weights : List ℕ) (grown marks : List Bool) (blocks : ℕ) → HasGrown edges weights grown marks → length marks ≡ length edges
    → ((block : ℕ) → block < blocks → IsGrown grown block) → ((number one other : ℕ) → Joins edges number one other → one < blocks) → IsSpanning edges weights marks
all_grown edges weights grown marks blocks has count all within = record {
  count = count;
  chosen = has.chosen;
  joined = λ number one other joined.
      has.joined number one other joined (all one (within number one other joined)) (all other (within number other one ((Joins-IsUndirected edges).turned number one other joined)));
}
