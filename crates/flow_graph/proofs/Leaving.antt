-- The edges of one block more.
use Rattle.std.proofs.Common.{◌≡◌, ℕ, suc, ◌+◌, ◌<◌, List, [], ◌∷◌, ◌++◌, length, get_or, take, sym, ap, ◌∙◌, arith, append-nil}
use Rattle.std.specs.Prelude.{flat_map}
use Rattle.std.specs.List.{enumerate_from}
use Rattle.std.proofs.lemmas.Grind.{flat_map-append}
use Rattle.std.proofs.lemmas.List.{take_more, length-take-le}
use Rattle.rv_code.specs.declared.image.Range.{Range}
use Rattle.flow_graph.specs.declared.block.Block.{Block}
use Rattle.flow_graph.specs.declared.edge.Edge.{Edge}
use Rattle.flow_graph.specs.Edges.{edges_from}

numbered_more : (number : ℕ) (blocks : List Block) (block : Block) → enumerate_from number (blocks ++ block ∷ []) ≡ enumerate_from number blocks ++ (number + length blocks, block) ∷ []
numbered_more number [] block = let none : number ≡ number + 0 = omega arith in ap (λ (n : ℕ). (n, block) ∷ []) none
numbered_more number (first ∷ blocks) block =
    let same : number + 1 + length blocks ≡ number + suc (length blocks) = omega arith in
    ap (λ (rest : List (ℕ × Block)). (number, first) ∷ rest) (numbered_more (number + 1) blocks block ∙ ap (λ (n : ℕ). enumerate_from (number + 1) blocks ++ (n, block) ∷ []) same)

pub one_block_more : (ranges : List Range) (starts : List ℕ) (number : ℕ) (blocks : List Block) (none : Block) (edges more : List Edge) → number < length blocks
    → more ≡ edges ++ edges_from ranges starts (number, get_or blocks number none) → edges ≡ flat_map (edges_from ranges starts) (enumerate_from 0 (take number blocks))
    → more ≡ flat_map (edges_from ranges starts) (enumerate_from 0 (take (number + 1) blocks))
one_block_more ranges starts number blocks none edges more within more_is was =
    let block : Block = get_or blocks number none in
    let leaves : ℕ × Block → List Edge = edges_from ranges starts in
    let count : 0 + length (take number blocks) ≡ number = omega (arith, length-take-le number blocks (omega (arith, within))) in
    let one : flat_map leaves ((number, block) ∷ []) ≡ leaves (number, block) = append-nil (leaves (number, block)) in
    more_is
    ∙ (ap (λ (front : List Edge). front ++ leaves (number, block)) was
    ∙ (ap (λ (back : List Edge). flat_map leaves (enumerate_from 0 (take number blocks)) ++ back) (sym one)
    ∙ (sym (flat_map-append leaves (enumerate_from 0 (take number blocks)) ((number, block) ∷ []))
    ∙ (ap (λ (n : ℕ). flat_map leaves (enumerate_from 0 (take number blocks) ++ (n, block) ∷ [])) (sym count)
    ∙ (ap (flat_map leaves) (sym (numbered_more 0 (take number blocks) block))
    ∙ ap (λ (bs : List Block). flat_map leaves (enumerate_from 0 bs)) (sym (take_more blocks number none within)))))))
