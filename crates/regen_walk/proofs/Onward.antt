-- The rest of a way can be walked.
use Rattle.std.proofs.Common.{◌≡◌, inl, inr, ℕ, ◌+◌, ◌≤◌, eqb, List, [], ◌∷◌, ◌++◌, length, map, take, Some, refl, sym, ap, subst, ◌∙◌, arith}
use Rattle.std.proofs.lemmas.List.{length-append, take-append-le}
use Rattle.std.proofs.Math.Seq.{take-append-add}
use Rattle.ae_nums.specs.declared.item.Item.{Item}
use Rattle.rv_machine.specs.Outcomes.{TookFront}
use Rattle.graph_paths.specs.Forests.{Trail}
use Rattle.rv_code.specs.Places.{address_of}
use Rattle.rv_code.proofs.LawsOfLookUps.{address_of-place_of}
use Rattle.regen_path.specs.declared.arcs.Arc.{Arc}
use Rattle.regen_path.specs.declared.arcs.Ways.{Ways}
use Rattle.regen_path.specs.Arcs.{AreWays, HasArc, way_from}
use Rattle.regen_path.specs.Walks.{ArcLeads, IsWalk}
use Rattle.regen_path.proofs.LawsOfArcs.{kind_below}
use Rattle.schema_form.specs.SchemaParts.{SchemaParts}
use Rattle.schema_form.specs.Valid.{IsSchema}
use Rattle.regen_walk.specs.declared.met.Spot.{Spot}
use Rattle.regen_walk.specs.declared.position.Position.TheVariants.{Before}
use Rattle.regen_walk.specs.FreeArcs.{kind_number, quiet_arcs}
use Rattle.regen_walk.specs.Inner.Going.{GoesAlong, ways_along}
use Rattle.regen_walk.specs.Inner.Met.{IsSpot}
use Rattle.regen_walk.specs.Inner.OnTheWay.{IsOnTheWay}
use Rattle.regen_walk.specs.Labels.{Quiet}
use Rattle.regen_walk.specs.Walks.{walk_from}
use Rattle.regen_walk.proofs.Hops.{kind_by_way}
use Rattle.regen_walk.proofs.Passing.{quiet_step, goes_over}
use Rattle.regen_walk.proofs.Shortness.{walks_same}
use Rattle.regen_walk.proofs.Towards.{forest_in, labels_both, walk_both}
use Rattle.regen_walk.proofs.WordsMet.{met_of}

-- a front of the items that were taken in between is one of all
pub front_within : (took : List Item → Type 0) (before between behind : List Item) (count : ℕ) → count ≤ length between → took (before ++ take count between) → TookFront took ((before ++ between) ++ behind)
front_within took before between behind count few is =
    let long = length-append before between in
    let far = length-append (before ++ between) behind in
    let within : length before + count ≤ length (before ++ between) = omega (arith, long, few) in
    let same : take (length before + count) ((before ++ between) ++ behind) ≡ before ++ take count between =
    take-append-le (length before + count) (before ++ between) behind within ∙ take-append-add before between count
    in
    (length before + count, omega (arith, within, far), subst took (sym same) is)

module _ (parts : SchemaParts) (valid : IsSchema parts) (ways : List Ways) (are : AreWays (quiet_arcs parts) (length parts.words) ways) (goal : Spot) (end : IsSpot parts goal) where
  same_place : (spot : Spot) → IsSpot parts spot → spot.place ≡ goal.place → spot.address ≡ goal.address
  same_place spot there place =
      let both : Some spot.address ≡ Some goal.address =
      sym (address_of-place_of parts.stretches spot.place spot.address there) ∙ ap (address_of parts.stretches) place ∙ address_of-place_of parts.stretches goal.place goal.address end
      in
      cc

  -- with any registers the moves along a walk can be made
  pub may_go : (walk : List Arc) (spot : Spot) → IsSpot parts spot → (before : List ℕ) → IsWalk (HasArc ways) spot.place goal.place walk
      → (items : List Item) × (now : List ℕ) × GoesAlong parts walk spot.address goal.address before now items
  may_go [] spot there before walks = (
    [],
    before,
    ap (λ (a : ℕ). walk_from parts (Before a) before []) (same_place spot there walks.trail),
  )
  may_go (arc ∷ walk) spot there before walks =
      let led = walks.trail.1 in
      let has = walks.within arc (inl refl) in
      let kind = kind_by_way arc.kind (kind_below ways arc.kind arc.from arc.to has) in
      let way : way_from ways (kind_number (eqb arc.kind 1)) spot.place ≡ Some arc.to =
      ap (λ (k : ℕ). way_from ways k spot.place) (sym kind) ∙ ap (way_from ways arc.kind) (sym led.0) ∙ has
      in
      let m = met_of parts valid spot there in
      let q = quiet_step parts valid spot there m.0 m.1 ways (eqb arc.kind 1) arc.to are way in
      let over = goes_over parts valid spot there m.0 m.1 (eqb arc.kind 1) arc.to q before in
      let rest = may_go walk (record { address = q.target; place = arc.to }) q.to over.1 (record {
        within = λ a is. walks.within a (inr is);
        trail = subst (λ (p : ℕ). Trail ArcLeads walk p goal.place) (sym led.1) walks.trail.2;
      })
      in (
        over.0 ++ rest.0,
        rest.1,
        walk_both parts (Before spot.address) before (Quiet (eqb arc.kind 1) ∷ Quiet (eqb arc.kind 1) ∷ []) (map Quiet (ways_along walk)) (record { items = over.0; position = Before q.target; registers = over.1 })
            (record { items = rest.0; position = Before goal.address; registers = rest.1 }) over.2 rest.2,
      )

  -- a taker that fails on the way has a front of the items of all of it
  pub breaks_off : (from spot : Spot) (before now : List ℕ) (items more : List Item) (count taken : ℕ) (took : List Item → Type 0) → IsOnTheWay parts ways from goal spot before now (items ++ more) count
      → taken ≤ length more → took (items ++ take taken more)
      → (walk : List Arc) → IsWalk (HasArc ways) from.place goal.place walk
      → (given : List Item) × (there : List ℕ) × GoesAlong parts walk from.address goal.address before there given × TookFront took given
  breaks_off from spot before now items more count taken took on few has walk walks =
      let all : on.front ++ on.rest ≡ walk = walks_same ways (forest_in parts valid ways are) from.place goal.place (on.front ++ on.rest) walk on.whole walks in
      let rest = may_go on.rest spot on.stands now on.left in
      let goes : GoesAlong parts (on.front ++ on.rest) from.address goal.address before rest.1 ((items ++ more) ++ rest.0) =
      ap (walk_from parts (Before from.address) before) (labels_both on.front on.rest)
      ∙ walk_both parts (Before from.address) before (map Quiet (ways_along on.front)) (map Quiet (ways_along on.rest)) (record { items = items ++ more; position = Before spot.address; registers = now })
      (record { items = rest.0; position = Before goal.address; registers = rest.1 }) on.gone rest.2
      in (
        (items ++ more) ++ rest.0,
        rest.1,
        subst (λ (w : List Arc). GoesAlong parts w from.address goal.address before rest.1 ((items ++ more) ++ rest.0)) all goes,
        front_within took items more rest.0 taken few has,
      )
