-- What a turn over one more code word comes to.
use Rattle.std.proofs.Common.{◌≡◌, ℕ, ◌+◌, true, false, List, [], ◌∷◌, ◌++◌, Option, Some, None, sym, ap, ◌∙◌, subst}
use Rattle.std.specs.Prelude.{unwrap_or}
use Rattle.std.specs.List.{AllByRecursion}
use Rattle.std.proofs.lemmas.Option.{slice_get_within, get_or_from_slice_get}
use Rattle.rv_code.specs.declared.image.Range.{Range}
use Rattle.rv_code.specs.Code.{extents_of}
use Rattle.rv_code.specs.Image.{word_count}
use Rattle.rv_code.specs.Places.{address_of, code_addresses, AreCodeExtents, EndsInSpace}
use Rattle.rv_code.proofs.LawsOfPlaces.{length-code_addresses_of_ranges}
use Rattle.flow_graph.specs.declared.block.Block.{Block}
use Rattle.flow_graph.specs.Blocks.{blocks_among, is_last_among}
use Rattle.flow_graph.specs.Leaders.{is_leader_among, starts_in}
use Rattle.flow_graph.proofs.Among.{words_alternate}
use Rattle.flow_graph.proofs.Paired.{SoFar, begun, one_last, one_other, all_met}

-- the blocks up to a place, where the code words that begin blocks are these
pub record Met (ranges : List Range) (entry : ℕ) (named functions : List ℕ) (place : ℕ) (blocks : List Block) (leader : Option ℕ) : Type 0 where
  pub so_far : SoFar (is_leader_among ranges (starts_in ranges entry named functions)) (is_last_among ranges (starts_in ranges entry named functions)) (code_addresses (extents_of ranges)) place blocks leader

pub none_met : (ranges : List Range) (entry : ℕ) (named functions : List ℕ) (blocks : List Block) → AreCodeExtents (extents_of ranges) → AllByRecursion EndsInSpace (extents_of ranges)
    → blocks ≡ [] → Met ranges entry named functions 0 blocks None
none_met ranges entry named functions blocks order ends none =
    record { so_far = begun (is_leader_among ranges (starts_in ranges entry named functions)) (is_last_among ranges (starts_in ranges entry named functions)) (code_addresses (extents_of ranges)) blocks (words_alternate ranges entry named functions order ends) none }

pub last_met : (ranges : List Range) (entry : ℕ) (named functions : List ℕ) (place address first : ℕ) (blocks next : List Block) (leader after : Option ℕ)
    → AreCodeExtents (extents_of ranges) → AllByRecursion EndsInSpace (extents_of ranges) → Some address ≡ address_of (extents_of ranges) place
    → is_last_among ranges (starts_in ranges entry named functions) address ≡ true → first ≡ unwrap_or leader address
    → next ≡ blocks ++ record { leader = first; last = address } ∷ [] → after ≡ None
    → Met ranges entry named functions place blocks leader → Met ranges entry named functions (place + 1) next after
last_met ranges entry named functions place address first blocks next leader after order ends is last first_is next_is after_is met =
    let words : List ℕ = code_addresses (extents_of ranges) in
    let all : next ≡ blocks ++ record { leader = unwrap_or leader address; last = address } ∷ [] =
    next_is ∙ ap (λ (n : ℕ). blocks ++ record { leader = n; last = address } ∷ []) first_is
    in
    let turned : Met ranges entry named functions (place + 1) (blocks ++ record { leader = unwrap_or leader address; last = address } ∷ []) None =
    record {
      so_far = one_last (is_leader_among ranges (starts_in ranges entry named functions)) (is_last_among ranges (starts_in ranges entry named functions)) words place address blocks leader
          (words_alternate ranges entry named functions order ends) (slice_get_within words place address (sym is)) (get_or_from_slice_get words place address 0 (sym is)) last met.so_far;
    }
    in
    subst (λ (o : Option ℕ). Met ranges entry named functions (place + 1) next o) (sym after_is)
    (subst (λ (bs : List Block). Met ranges entry named functions (place + 1) bs None) (sym all) turned)

pub other_met : (ranges : List Range) (entry : ℕ) (named functions : List ℕ) (place address first : ℕ) (blocks next : List Block) (leader after : Option ℕ)
    → AreCodeExtents (extents_of ranges) → AllByRecursion EndsInSpace (extents_of ranges) → Some address ≡ address_of (extents_of ranges) place
    → is_last_among ranges (starts_in ranges entry named functions) address ≡ false → first ≡ unwrap_or leader address
    → next ≡ blocks → after ≡ Some first
    → Met ranges entry named functions place blocks leader → Met ranges entry named functions (place + 1) next after
other_met ranges entry named functions place address first blocks next leader after order ends is other first_is next_is after_is met =
    let words : List ℕ = code_addresses (extents_of ranges) in
    let turned : Met ranges entry named functions (place + 1) blocks (Some (unwrap_or leader address)) =
    record {
      so_far = one_other (is_leader_among ranges (starts_in ranges entry named functions)) (is_last_among ranges (starts_in ranges entry named functions)) words place address blocks leader
          (words_alternate ranges entry named functions order ends) (slice_get_within words place address (sym is)) (get_or_from_slice_get words place address 0 (sym is)) other met.so_far;
    }
    in
    subst (λ (o : Option ℕ). Met ranges entry named functions (place + 1) next o) (sym (after_is ∙ ap Some first_is))
    (subst (λ (bs : List Block). Met ranges entry named functions (place + 1) bs (Some (unwrap_or leader address))) (sym next_is) turned)

pub whole : (ranges : List Range) (entry : ℕ) (named functions : List ℕ) (place : ℕ) (blocks : List Block) (leader : Option ℕ) → place ≡ word_count ranges
    → Met ranges entry named functions place blocks leader → blocks ≡ blocks_among ranges (starts_in ranges entry named functions)
whole ranges entry named functions place blocks leader all met =
    all_met (is_leader_among ranges (starts_in ranges entry named functions)) (is_last_among ranges (starts_in ranges entry named functions)) (code_addresses (extents_of ranges)) place blocks leader
    (length-code_addresses_of_ranges ranges ∙ sym all) met.so_far
