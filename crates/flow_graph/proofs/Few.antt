-- There are no more marks, and no more blocks, than code words.
use Rattle.std.proofs.Common.{◌≡◌, ℕ, ◌≤◌, Bool, List, [], ◌∷◌, length, ◌∙◌, inl, inr, arith}
use Rattle.std.specs.Prelude.{filter}
use Rattle.std.specs.List.{zip}
use Rattle.std.proofs.lemmas.Bool.{cases_Bool}
use Rattle.std.proofs.lemmas.List.{length-map}
use Rattle.std.proofs.lemmas.Slice.Zip.{length-zip}
use Rattle.rv_code.specs.declared.image.Range.{Range}
use Rattle.rv_code.specs.Code.{extents_of}
use Rattle.rv_code.specs.Image.{word_count}
use Rattle.rv_code.specs.Places.{code_addresses}
use Rattle.rv_code.proofs.LawsOfPlaces.{length-code_addresses_of_ranges}
use Rattle.flow_graph.specs.Blocks.{block_by, blocks_among, is_last_among}
use Rattle.flow_graph.specs.Leaders.{is_leader_among}
use Rattle.flow_graph.specs.Marks.{is_one_of, marks_of}

pub length-marks_of : (ranges : List Range) (starts : List ℕ) → length (marks_of ranges starts) ≡ word_count ranges
length-marks_of ranges starts = length-map (code_addresses (extents_of ranges)) (is_one_of starts) ∙ length-code_addresses_of_ranges ranges

fewer_kept : (test : ℕ → Bool) (words : List ℕ) → length (filter test words) ≤ length words
fewer_kept test [] = omega arith
fewer_kept test (word ∷ words) = elim (cases_Bool (test word)) [
  | inl kept ↦ rw kept (omega (arith, fewer_kept test words))
  | inr dropped ↦ rw dropped (omega (arith, fewer_kept test words))
]

pub few_blocks : (ranges : List Range) (starts : List ℕ) → length (blocks_among ranges starts) ≤ word_count ranges
few_blocks ranges starts =
    let words : List ℕ = code_addresses (extents_of ranges) in
    let leaders : List ℕ = filter (is_leader_among ranges starts) words in
    let lasts : List ℕ = filter (is_last_among ranges starts) words in
    let few = fewer_kept (is_leader_among ranges starts) words in
    let blocks = length-map (zip leaders lasts) block_by in
    let pairs = length-zip leaders lasts in
    omega (arith, few, blocks, pairs, length-code_addresses_of_ranges ranges)
