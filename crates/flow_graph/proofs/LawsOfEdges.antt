-- Each edge joins blocks, and there are few.
use Rattle.std.proofs.Common.{◌≡◌, ℕ, suc, ◌+◌, ◌*◌, ◌<◌, ◌≤◌, Bool, true, false, cond, List, [], ◌∷◌, ◌++◌, length, Option, Some, None, refl, sym, ap, ◌∙◌, arith, length-append}
use Rattle.std.specs.Prelude.{IfSome, flat_map, position, slice_get}
use Rattle.std.specs.List.{AllByRecursion, cons_option, enumerate_from}
use Rattle.std.specs.Option.{option_map}
use Rattle.std.proofs.lemmas.List.Quantifiers.{position-Some}
use Rattle.rv_code.specs.Code.{extents_of, is_code}
use Rattle.flow_graph.specs.declared.block.Block.{Block}
use Rattle.flow_graph.specs.declared.edge.Edge.{Edge}
use Rattle.flow_graph.specs.Blocks.{block_at, blocks_of, holds}
use Rattle.flow_graph.specs.CodeParts.{CodeParts}
use Rattle.flow_graph.specs.Edges.{edge_among, edges_from, is_taken_kind, kind_by, way_among}
use Rattle.flow_graph.specs.Laws.{BlocksAreFew, EdgesJoinBlocks, IsEdge}
use Rattle.flow_graph.specs.Leaders.{block_starts}
use Rattle.flow_graph.proofs.Few.{few_blocks}

number_within : (blocks : List Block) (address : ℕ) (code : Bool) (found : Option ℕ) → cond code (position (λ (block : Block). holds block address) blocks) None ≡ found
    → IfSome found (λ number. number < length blocks)
number_within blocks address code None is = tt
number_within blocks address false (Some number) is = absurd (cc is)
number_within blocks address true (Some number) is = (position-Some (λ (block : Block). holds block address) blocks number (record { leader = 0; last = 0 }) is).0

pub taken_again : (taken : Bool) → is_taken_kind (kind_by taken) ≡ taken
taken_again true = refl
taken_again false = refl

with_edge : (parts : CodeParts) (taken : Bool) (number : ℕ) (block : Block) (found : Option ℕ) (rest : List Edge) → slice_get (blocks_of parts) number ≡ Some block
    → way_among parts.code taken block.last ≡ found → AllByRecursion (IsEdge parts) rest
    → AllByRecursion (IsEdge parts)
    (cons_option (option_map (λ (target : ℕ). record { from = block.last; kind = kind_by taken; source = number; to = block_at parts target; target = target }) found) rest)
with_edge parts taken number block None rest is way joined = joined
with_edge parts taken number block (Some target) rest is way joined = (
  record {
    source = ap (option_map (λ (block : Block). block.last)) is;
    way = ap (λ (b : Bool). way_among parts.code b block.last) (taken_again taken) ∙ way;
    to = refl;
    within = number_within (blocks_of parts) target (is_code (extents_of parts.code) target) (block_at parts target) refl;
  },
  joined,
)

both_join : (parts : CodeParts) (front back : List Edge) → AllByRecursion (IsEdge parts) front → AllByRecursion (IsEdge parts) back → AllByRecursion (IsEdge parts) (front ++ back)
both_join parts [] back one other = other
both_join parts (edge ∷ front) back one other = (one.0, both_join parts front back one.1 other)

edges_behind : (parts : CodeParts) (number : ℕ) (blocks : List Block) → ((more : ℕ) → slice_get (blocks_of parts) (number + more) ≡ slice_get blocks more)
    → AllByRecursion (IsEdge parts) (flat_map (edges_from parts.code (block_starts parts)) (enumerate_from number blocks))
edges_behind parts number [] same = tt
edges_behind parts number (block ∷ blocks) same =
    let at : number + 0 ≡ number = omega arith in
    let here : slice_get (blocks_of parts) number ≡ Some block = ap (slice_get (blocks_of parts)) (sym at) ∙ same 0 in
    both_join parts (edges_from parts.code (block_starts parts) (number, block)) (flat_map (edges_from parts.code (block_starts parts)) (enumerate_from (number + 1) blocks))
    (with_edge parts false number block (way_among parts.code false block.last) (cons_option (edge_among parts.code (block_starts parts) true number block.last) []) here refl
    (with_edge parts true number block (way_among parts.code true block.last) [] here refl tt))
    (edges_behind parts (number + 1) blocks (λ more.
    let next : number + 1 + more ≡ number + suc more = omega arith in
    ap (slice_get (blocks_of parts)) next ∙ same (suc more)))

pub edges_join : (parts : CodeParts) → EdgesJoinBlocks parts
edges_join parts = edges_behind parts 0 (blocks_of parts) (λ more. let same : 0 + more ≡ more = omega arith in ap (slice_get (blocks_of parts)) same)

at_most_one : (edge : Option Edge) (rest : List Edge) (limit : ℕ) → length rest ≤ limit → length (cons_option edge rest) ≤ suc limit
at_most_one None rest limit few = omega (arith, few)
at_most_one (Some edge) rest limit few = omega (arith, few)

few_edges : (parts : CodeParts) (number : ℕ) (blocks : List Block) → length (flat_map (edges_from parts.code (block_starts parts)) (enumerate_from number blocks)) ≤ 2 * length blocks
few_edges parts number [] = omega arith
few_edges parts number (block ∷ blocks) =
    let two : length (edges_from parts.code (block_starts parts) (number, block)) ≤ 2 =
    at_most_one (edge_among parts.code (block_starts parts) false number block.last) (cons_option (edge_among parts.code (block_starts parts) true number block.last) []) 1
    (at_most_one (edge_among parts.code (block_starts parts) true number block.last) [] 0 (omega arith))
    in
    omega (arith, two, few_edges parts (number + 1) blocks, length-append (edges_from parts.code (block_starts parts) (number, block)) (flat_map (edges_from parts.code (block_starts parts)) (enumerate_from (number + 1) blocks)))

pub blocks_are_few : (parts : CodeParts) → BlocksAreFew parts
blocks_are_few parts = (few_blocks parts.code (block_starts parts), few_edges parts 0 (blocks_of parts))
