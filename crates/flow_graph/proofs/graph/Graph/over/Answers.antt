-- What was worked out of the parts is kept beside them.
use Rattle.std.proofs.Common.{sym, subst, ◌∙◌, ◌≡◌, ◌<◌, ◌^◌, ℕ, List}
use Rattle.std.specs.List.{AllByRecursion}
use Rattle.rv_code.specs.declared.image.Range.{Range}
use Rattle.rv_code.specs.Code.{extents_of}
use Rattle.rv_code.specs.Image.{word_count}
use Rattle.rv_code.specs.Places.{AreCodeExtents, EndsInSpace}
use Rattle.flow_graph.specs.declared.flow.Flow.{Flow}
use Rattle.flow_graph.specs.Flow.{IsFlow}
use Rattle.flow_graph.specs.Leaders.{starts_in}
use Rattle.flow_graph.proofs.graph.Graph.over.Goals as goal

flow_of_same : (flow : Flow) (entry : ℕ) (ranges other_ranges : List Range) (named other_named functions other_functions : List ℕ)
    → ranges ≡ other_ranges → named ≡ other_named → functions ≡ other_functions
    → IsFlow ranges (starts_in ranges entry named functions) flow → IsFlow other_ranges (starts_in other_ranges entry other_named other_functions) flow
flow_of_same flow entry ranges other_ranges named other_named functions other_functions ranges_are named_are functions_are is =
    subst (λ (rs : List Range). IsFlow rs (starts_in rs entry other_named other_functions) flow) ranges_are
    (subst (λ (ns : List ℕ). IsFlow ranges (starts_in ranges entry ns other_functions) flow) named_are
    (subst (λ (fs : List ℕ). IsFlow ranges (starts_in ranges entry named fs) flow) functions_are is))

pub invariant_of-result : goal.invariant_of-result
invariant_of-result c = record {
  order = subst (λ (ranges : List Range). AreCodeExtents (extents_of ranges)) (sym c.from_vec.ensures) c.requires.order;
  ends = subst (λ (ranges : List Range). AllByRecursion EndsInSpace (extents_of ranges)) (sym c.from_vec.ensures) c.requires.ends;
  words = subst (λ (ranges : List Range). word_count ranges < 2 ^ 32) (sym c.from_vec.ensures) c.requires.words;
  flow =
      flow_of_same c.in_ok-flow.flow c.args.entry c.deref.result.now c.from_vec.result c.deref-2.result.now c.from_vec-3.result c.deref-3.result.now c.from_vec-2.result
      (c.deref.ensures.value ∙ sym c.from_vec.ensures) (c.deref-2.ensures.value ∙ sym c.from_vec-3.ensures) (c.deref-3.ensures.value ∙ sym c.from_vec-2.ensures) c.in_ok-flow.ensures;
}
