use Rattle.std.proofs.Common.{◌≡◌, ℕ, ◌+◌, ◌<◌, true, false, List, length, get_or, take, drop, ◌++◌, Some, None, refl, sym, ap, subst, ◌∙◌, arith, rules}
use Rattle.std.specs.Prelude.{slice_get}
use Rattle.std.proofs.lemmas.Option.{slice_get-get_or, get_or_from_slice_get}
use Rattle.flow_graph.specs.declared.edge.Edge.{Edge}
use Rattle.flow_graph.specs.declared.edge.Kind.TheVariants.{Fall}
use Rattle.flow_graph.specs.Edges.{edges_of}
use Rattle.schema_form.specs.Inner.Recorded.{AreRecordedBefore}
use Rattle.schema_form.proofs.RecordedWays.{none_more, one_more, all_recorded, front_only}
use Rattle.schema_form.proofs.of_image.recorded_ways.Goals as goal
use Rattle.schema_form.proofs.of_image.recorded_ways.Goals.{then-is_recorded, else-is_recorded}

item_there : {X : Type 0} (xs known : List X) (number : ℕ) (none : X) → xs ≡ known → number < length xs → slice_get known number ≡ Some (get_or xs number none)
item_there xs known number none same within = ap (λ list. slice_get list number) (sym same) ∙ slice_get-get_or xs number none within

pub loop-number-preserved : goal.loop-number-preserved
loop-number-preserved c =
    let parts = c.args.graph.now in
    let marks = c.args.marks.now in
    let number = c.loop-number.number in
    let none : Edge = record { from = 0; kind = Fall; source = 0; to = None; target = 0 } in
    let edges = c.edges-edges.result.now in
    let within : number < length edges = c.loop-number-test.true in
    let in_marks : number < length marks = (let same = ap length c.edges-edges.ensures in omega (arith, within, same, c.requires)) in
    let edge = get_or edges number none in
    let there = item_there edges (edges_of parts) number none c.edges-edges.ensures within in
    elim c.if-is_recorded.branch [
      | then-is_recorded w ↦
          let both = c.is_recorded.ensures.0 w.if-is_recorded.true in
          let old : c.loop-number.cells.items ≡ w.deref_mut.result.now = search rules in
          let cells = c.loop-number.cells in
          let size : cells.len ≡ length cells.items = search rules in
          let all : c.if-is_recorded.cells.items ≡ take cells.len (w.set_cell.new.cells ++ drop (length w.set_cell.new.cells) cells.items) = λ i. (w.cells-is i).items in
          let new : c.if-is_recorded.cells.items ≡ w.set_cell.new.cells =
          all ∙ front_only cells.len w.set_cell.new.cells cells.items (w.set_cell.ensures.size ∙ ap length (sym old)) size in
          subst (λ cells. AreRecordedBefore parts marks c.args.taken (number + 1) cells) (sym new)
          (one_more parts marks c.args.taken number edge there w.deref_mut.result.now w.set_cell.new.cells (item_there marks marks number false refl in_marks ∙ ap Some both.0) both.1
          w.set_cell.ensures.size w.set_cell.ensures.set (subst (AreRecordedBefore parts marks c.args.taken number) old c.loop-number.invariant))
      | else-is_recorded w ↦
          subst (λ cells. AreRecordedBefore parts marks c.args.taken (number + 1) cells) (sym (λ i. (w.cells-is i).items))
          (none_more parts marks c.args.taken number edge there c.loop-number.cells.items
          (λ marked way.
          let clash : true ≡ false = sym (c.is_recorded.ensures.1 (get_or_from_slice_get marks number true false marked, way)) ∙ w.if-is_recorded.false in
          absurd (cc clash))
          c.loop-number.invariant)
    ]

pub returns : goal.returns
returns c =
    all_recorded c.args.graph.now c.args.marks.now c.args.taken c.loop-number.number c.loop-number.cells.items
    (let past = c.loop-number-test.false in let same = ap length c.edges-edges.ensures in omega (arith, past, same, c.loop-number.auto.number-end)) c.loop-number.invariant
