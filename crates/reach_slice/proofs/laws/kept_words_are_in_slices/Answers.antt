use Rattle.reach_slice.proofs.Sliced.{kept_in_slices, hard_in_slices}
use Rattle.reach_slice.proofs.laws.kept_words_are_in_slices.Goals as goal

pub returns : goal.returns
returns c = record { kept = kept_in_slices; hard = hard_in_slices }
