-- One arc more is put into the table.
use Rattle.std.proofs.Common.{◌≡◌, ◌+◌, ◌<◌, List, length, get_or, set, replicate, Some, refl, sym, subst, arith, rules}
use Rattle.std.specs.Prelude.{slice_get}
use Rattle.std.proofs.lemmas.Option.{slice_get-get_or, slice_get_read}
use Rattle.graph_paths.proofs.LawsOfMembers.{among_place}
use Rattle.regen_path.specs.declared.arcs.Arc.{Arc}
use Rattle.regen_path.specs.declared.arcs.Ways.{Ways}
use Rattle.regen_path.proofs.Tabled.{HasSome, no_ways, some_none, some_more, some_all}
use Rattle.regen_path.proofs.arcs.ways_of.Goals as goal

abbrev no_arc : Arc
no_arc = record { from = 0; to = 0; kind = 0 }

pub loop-arc-init : goal.loop-arc-init
loop-arc-init c =
    let none : c.in_ok-ways.ways.items ≡ replicate c.args.count no_ways = search rules in
    subst (λ (table : List Ways). HasSome c.args.arcs.now c.args.count table 0) (sym none) (some_none c.args.arcs.now c.args.count)

pub index-requires : goal.index-requires
index-requires c =
    let arc = get_or c.args.arcs.now c.loop-arc.arc-index no_arc in
    let ends = c.requires.ends arc (among_place c.args.arcs.now c.loop-arc.arc-index arc (slice_get-get_or c.args.arcs.now c.loop-arc.arc-index no_arc c.loop-arc-test.true)) in
    let inside : arc.from < length c.loop-arc.ways.items = omega (arith, ends.0, c.loop-arc.invariant.long) in
    search rules

pub with-requires : goal.with-requires
with-requires c =
    let arc = get_or c.args.arcs.now c.loop-arc.arc-index no_arc in
    c.requires.kinds arc (among_place c.args.arcs.now c.loop-arc.arc-index arc (slice_get-get_or c.args.arcs.now c.loop-arc.arc-index no_arc c.loop-arc-test.true))

pub index_mut-requires : goal.index_mut-requires
index_mut-requires c =
    let arc = get_or c.args.arcs.now c.loop-arc.arc-index no_arc in
    let ends = c.requires.ends arc (among_place c.args.arcs.now c.loop-arc.arc-index arc (slice_get-get_or c.args.arcs.now c.loop-arc.arc-index no_arc c.loop-arc-test.true)) in
    let inside : arc.from < length c.loop-arc.ways.items = omega (arith, ends.0, c.loop-arc.invariant.long) in
    search rules

pub loop-arc-preserved : goal.loop-arc-preserved
loop-arc-preserved c =
    let arc = get_or c.args.arcs.now c.loop-arc.arc-index no_arc in
    let is_arc : slice_get c.args.arcs.now c.loop-arc.arc-index ≡ Some arc = slice_get-get_or c.args.arcs.now c.loop-arc.arc-index no_arc c.loop-arc-test.true in
    let ends = c.requires.ends arc (among_place c.args.arcs.now c.loop-arc.arc-index arc is_arc) in
    let inside : arc.from < length c.loop-arc.ways.items = omega (arith, ends.0, c.loop-arc.invariant.long) in
    subst (λ (ways : Ways). HasSome c.args.arcs.now c.args.count (set c.loop-arc.ways.items arc.from ways) (c.loop-arc.arc-index + 1)) (sym c.with.ensures)
    (some_more c.args.arcs.now c.args.count c.requires.ends c.requires.kinds c.requires.alone c.loop-arc.ways.items c.loop-arc.arc-index arc c.index.result.now is_arc
    (slice_get_read c.loop-arc.ways.items (length c.loop-arc.ways.items) arc.from c.index.result.now refl inside c.index.ensures) c.loop-arc.invariant)

pub returns : goal.returns
returns c =
    let equal : c.loop-arc.arc-index ≡ length c.args.arcs.now = omega (arith, c.loop-arc-test.false, c.loop-arc.auto.arc-index-end) in
    some_all c.args.arcs.now c.args.count c.loop-arc.ways.items (subst (HasSome c.args.arcs.now c.args.count c.loop-arc.ways.items) equal c.loop-arc.invariant)
