-- A graph is built of copies of the parts of its image.
use Rattle.std.proofs.Common.{ap, sym, subst, ◌∙◌, ◌≡◌, ℕ, List, map}
use Rattle.std.specs.List.{AllByRecursion}
use Rattle.std.proofs.lemmas.Result.{IfOk-weaker}
use Rattle.rv_code.specs.declared.image.Name.{Name}
use Rattle.rv_code.specs.declared.image.Range.{Range}
use Rattle.rv_code.specs.Code.{extents_of}
use Rattle.rv_code.specs.ImageView.{image_parts}
use Rattle.rv_code.specs.Places.{AreCodeExtents, EndsInSpace}
use Rattle.rv_code.proofs.LawsOfPlaces.{IsImage-AreCodeExtents, IsImage-EndsInSpace}
use Rattle.flow_graph.specs.CodeParts.{CodeParts, code_parts, first_seen}
use Rattle.flow_graph.proofs.graph.Graph.build.Goals as goal

pub over-requires-clause-order : goal.over-requires-clause-order
over-requires-clause-order c =
    subst (λ (ranges : List Range). AreCodeExtents (extents_of ranges)) (sym (c.in_ok-code.ensures ∙ c.as_slice.ensures)) (IsImage-AreCodeExtents (image_parts c.image.inside) c.image.invariant)

pub over-requires-clause-ends : goal.over-requires-clause-ends
over-requires-clause-ends c =
    subst (λ (ranges : List Range). AllByRecursion EndsInSpace (extents_of ranges)) (sym (c.in_ok-code.ensures ∙ c.as_slice.ensures)) (IsImage-EndsInSpace (image_parts c.image.inside) c.image.invariant)

same_parts : (entry : ℕ) (code other_code : List Range) (functions other_functions : List ℕ) (routines other_routines : List Name) (named other_named : List ℕ)
    → code ≡ other_code → functions ≡ other_functions → routines ≡ other_routines → named ≡ other_named
    → let one : CodeParts = record { entry = entry; code = code; functions = functions; routines = routines; named = named } in
    one ≡ record { entry = entry; code = other_code; functions = other_functions; routines = other_routines; named = other_named }
same_parts entry code other_code functions other_functions routines other_routines named other_named code_is functions_are routines_are named_are =
    λ j. record { entry = entry; code = code_is j; functions = functions_are j; routines = routines_are j; named = named_are j }

pub returns : goal.returns
returns c =
    let parts : CodeParts =
    record { entry = c.image.inside.entry; code = c.in_ok-code.code.items; functions = c.in_ok-functions.functions.items; routines = c.in_ok-routines.routines; named = c.in_ok-named.named.items }
    in
    let same : parts ≡ code_parts (image_parts c.image.inside) =
    same_parts c.image.inside.entry _ _ _ _ _ _ _ _ (c.in_ok-code.ensures ∙ c.as_slice.ensures)
    (c.in_ok-functions.ensures ∙ ap (map (λ (name : Name). name.address)) c.as_slice-2.ensures)
    (c.in_ok-routines.ensures ∙ ap first_seen c.as_slice-3.ensures)
    (c.in_ok-named.ensures.items_if_clones_equal (λ x y is. is) ∙ c.as_slice-4.ensures)
    in
    IfOk-weaker c.over.result (λ (graph : CodeParts). graph ≡ parts) (λ (graph : CodeParts). graph ≡ code_parts c.args.image.now) (λ graph is. is ∙ (same ∙ ap code_parts c.image.view_is)) c.over.ensures
