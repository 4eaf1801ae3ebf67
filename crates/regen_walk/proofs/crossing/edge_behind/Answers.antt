use Rattle.std.proofs.Common.{◌∙◌, sym}
use Rattle.regen_walk.proofs.ArcsMade.{none_from}
use Rattle.regen_walk.proofs.Crossed.{nowhere, other_record, told, quietly, leads_in}
use Rattle.regen_walk.proofs.crossing.edge_behind.Goals as goal

pub returns-in_default : goal.returns-in_default
returns-in_default c =
    nowhere c.args.schema.now c.args.spot c.met_at-met.result c.met_at-met.ensures c.args.taken c.args.rec.now (sym c.way_of.ensures ∙ none_from c.way_of.result c.in_default.not-Some)

pub returns-then-names_edge : goal.returns-then-names_edge
returns-then-names_edge c =
    told c.args.schema.now c.args.spot c.met_at-met.result c.met_at-met.ensures c.args.taken c.args.rec.now c.in-Some.next c.placed_at.result (sym c.is_marked.ensures ∙ c.if-is_marked.true)
    (sym c.names_edge.ensures ∙ c.if-names_edge.true) (sym c.way_of.ensures ∙ c.in-Some.is) c.placed_at.ensures.position c.placed_at.ensures.placed

pub returns-then-is_marked : goal.returns-then-is_marked
returns-then-is_marked c =
    other_record c.args.schema.now c.args.spot c.met_at-met.result c.met_at-met.ensures c.args.taken c.args.rec.now (sym c.is_marked.ensures ∙ c.if-is_marked.true) (sym c.names_edge.ensures ∙ c.if-names_edge.false)

pub returns-in-Some-place_of : goal.returns-in-Some-place_of
returns-in-Some-place_of c =
    let found = sym c.place_of.ensures.place ∙ c.in-Some-place_of.is in
    quietly c.args.schema.now c.args.spot c.met_at-met.result c.met_at-met.ensures c.args.taken c.requires c.in-Some.next c.in-Some-place_of.place (sym c.is_marked.ensures ∙ c.if-is_marked.false)
    (sym c.way_of.ensures ∙ c.in-Some.is) found

pub returns-in-None : goal.returns-in-None
returns-in-None c =
    let found = sym c.place_of.ensures.place ∙ c.in-None.is in
    absurd (leads_in c.args.schema.now c.args.spot c.met_at-met.result c.met_at-met.ensures c.args.taken c.in-Some.next (sym c.is_marked.ensures ∙ c.if-is_marked.false) (sym c.way_of.ensures ∙ c.in-Some.is) found)
