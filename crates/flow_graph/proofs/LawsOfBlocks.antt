-- Blocks are runs of code words, and each word is in one.
use Rattle.std.proofs.Common.{◌≡◌, ℕ, ◌%◌, true, List, [], ◌∷◌, get_or, Some, None, ap, ◌∙◌, inl, inr}
use Rattle.std.specs.List.{AllByRecursion}
use Rattle.std.proofs.lemmas.Bool.{cases_Bool, and_left}
use Rattle.std.proofs.lemmas.Option.{slice_get-get_or}
use Rattle.rv_code.specs.Code.{extents_of}
use Rattle.rv_code.specs.Places.{code_addresses, AreCodeExtents, EndsInSpace}
use Rattle.rv_code.proofs.LawsOfPlaces.{is_code-Contains}
use Rattle.rv_code.proofs.LawsOfElements.{all_by_place}
use Rattle.flow_graph.specs.declared.block.Block.{Block}
use Rattle.flow_graph.specs.Blocks.{blocks_of, is_last}
use Rattle.flow_graph.specs.CodeParts.{CodeParts, has_code}
use Rattle.flow_graph.specs.Laws.{BlocksAreRuns, IsBlock, WordsAreInOneBlock}
use Rattle.flow_graph.specs.Leaders.{block_starts, is_leader}
use Rattle.flow_graph.specs.Marks.{is_one_of}
use Rattle.flow_graph.proofs.Among.{words_alternate}
use Rattle.flow_graph.proofs.Followed.{code_at, code_facts}
use Rattle.flow_graph.proofs.Marked.{words_rise}
use Rattle.flow_graph.proofs.Runs.{runs_of, Runs}
use Rattle.flow_graph.proofs.Whole.{in_one_run, whole_runs, IsWhole}

runs_in : (parts : CodeParts) → AreCodeExtents (extents_of parts.code) → AllByRecursion EndsInSpace (extents_of parts.code)
    → Runs (is_leader parts) (is_last parts) None (code_addresses (extents_of parts.code))
runs_in parts order ends = runs_of (is_leader parts) (is_last parts) (code_addresses (extents_of parts.code)) (words_alternate parts.code parts.entry parts.named parts.functions order ends)

block_from_whole : (parts : CodeParts) (block : Block) → AllByRecursion EndsInSpace (extents_of parts.code) → IsWhole (is_leader parts) (is_last parts) (has_code parts) block → IsBlock parts block
block_from_whole parts block ends whole = record {
  order = whole.part.order;
  begins = whole.part.begun;
  alone = λ address above below. elim (cases_Bool (has_code parts address)) [
    | inl code ↦ whole.part.alone address (code_facts (extents_of parts.code) address ends code).0 above below
    | inr none ↦ and_left (has_code parts address) (is_one_of (block_starts parts) address) none
  ];
  words = whole.part.words;
  ends = whole.ended;
  goes_on = λ address code above below. whole.part.goes_on address (code_facts (extents_of parts.code) address ends code).0 above below;
}

all_blocks : (parts : CodeParts) (blocks : List Block) → AllByRecursion EndsInSpace (extents_of parts.code) → AllByRecursion (IsWhole (is_leader parts) (is_last parts) (has_code parts)) blocks
    → AllByRecursion (IsBlock parts) blocks
all_blocks parts [] ends each = tt
all_blocks parts (block ∷ blocks) ends each = (block_from_whole parts block ends each.0, all_blocks parts blocks ends each.1)

pub blocks_are_runs : (parts : CodeParts) → AreCodeExtents (extents_of parts.code) → AllByRecursion EndsInSpace (extents_of parts.code) → BlocksAreRuns parts
blocks_are_runs parts order ends =
    let words : List ℕ = code_addresses (extents_of parts.code) in
    all_blocks parts (blocks_of parts) ends
    (whole_runs (is_leader parts) (is_last parts) (has_code parts) None 0 words (runs_in parts order ends)
    (all_by_place (λ word. (word % 4 ≡ 0) × (has_code parts word ≡ true)) words (λ place within.
    let code : has_code parts (get_or words place 0) ≡ true = code_at (extents_of parts.code) place (get_or words place 0) order (slice_get-get_or words place 0 within) in
    ((code_facts (extents_of parts.code) (get_or words place 0) ends code).0, code)))
    tt)

pub words_are_in_one_block : (parts : CodeParts) → AreCodeExtents (extents_of parts.code) → AllByRecursion EndsInSpace (extents_of parts.code) → WordsAreInOneBlock parts
words_are_in_one_block parts order ends = λ address code.
    let words : List ℕ = code_addresses (extents_of parts.code) in
    let within = is_code-Contains (extents_of parts.code) address order code in
    in_one_run (is_leader parts) (is_last parts) None 0 0 within.0 address words (runs_in parts order ends) (words_rise parts.code order) tt
    (slice_get-get_or words within.0 address within.1 ∙ ap (λ (n : ℕ). Some n) within.2)
