use Rattle.std.proofs.Common.{◌≡◌, ◌∙◌, ◌++◌, ◌∷◌, [], sym, rules}
use Rattle.regen_walk.proofs.ArcsMade.{arc_more, arc_less, none_from}
use Rattle.regen_walk.proofs.arcs.quiet_arcs_among.Goals.{in-Some+in_ok-push, in_default}
use Rattle.regen_walk.proofs.arcs.quiet_arcs_among.Goals as goal

pub loop-edge-preserved : goal.loop-edge-preserved
loop-edge-preserved c = elim c.match-quiet_arc.branch [
  | in-Some+in_ok-push w ↦
      let pushed : c.match-quiet_arc.arcs.items ≡ c.loop-edge.arcs.items ++ w.in-Some.arc ∷ [] = search rules in
      pushed ∙ arc_more c.args.words.now c.args.edges.now c.loop-edge.edge-index _ c.loop-edge-test.true c.loop-edge.arcs.items w.in-Some.arc c.loop-edge.invariant (sym c.quiet_arc.ensures ∙ w.in-Some.is)
  | in_default w ↦
      let same : c.match-quiet_arc.arcs.items ≡ c.loop-edge.arcs.items = search rules in
      same ∙ arc_less c.args.words.now c.args.edges.now c.loop-edge.edge-index _ c.loop-edge-test.true c.loop-edge.arcs.items c.loop-edge.invariant (sym c.quiet_arc.ensures ∙ none_from c.quiet_arc.result w.in_default.not-Some)
]
