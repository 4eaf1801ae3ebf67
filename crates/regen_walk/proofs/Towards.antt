-- On the way over arcs towards a goal.
use Rattle.std.proofs.Common.{◌≡◌, inl, inr, ℕ, ◌+◌, ◌≤◌, Bool, true, false, eqb, List, [], ◌∷◌, ◌++◌, length, map, append_assoc, Option, Some, None, refl, sym, ap, subst, ◌∙◌, arith}
use Rattle.std.specs.Option.{option_and_then, option_map}
use Rattle.std.proofs.lemmas.Grind.{flat_map-append}
use Rattle.std.proofs.lemmas.List.{append-nil, length-append, map-append}
use Rattle.ae_nums.specs.declared.item.Item.{Item}
use Rattle.graph_paths.specs.Forests.{HasNoCycle, Trail}
use Rattle.graph_paths.proofs.LawsOfForests.{HasNoCycle-within}
use Rattle.rv_code.specs.Places.{address_of}
use Rattle.rv_code.proofs.LawsOfLookUps.{address_of-place_of}
use Rattle.regen_path.specs.declared.arcs.Arc.{Arc}
use Rattle.regen_path.specs.declared.arcs.Ways.{Ways}
use Rattle.regen_path.specs.Arcs.{AreWays, HasArc, way_from}
use Rattle.regen_path.specs.Walks.{ArcJoins, ArcLeads, IsWalk}
use Rattle.schema_form.specs.SchemaParts.{SchemaParts}
use Rattle.schema_form.specs.Valid.{IsSchema}
use Rattle.regen_walk.specs.declared.met.Spot.{Spot}
use Rattle.regen_walk.specs.declared.position.Position.{Position}
use Rattle.regen_walk.specs.declared.position.Position.TheVariants.{Before}
use Rattle.regen_walk.specs.FreeArcs.{kind_number, quiet_arcs}
use Rattle.regen_walk.specs.Inner.Going.{GoesAlong, PassesOver, items_at, ways_along}
use Rattle.regen_walk.specs.Inner.Met.{IsSpot}
use Rattle.regen_walk.specs.Inner.OnTheWay.{IsOnTheWay}
use Rattle.regen_walk.specs.Labels.{Label, Quiet}
use Rattle.regen_walk.specs.Moves.{Moved, move_of}
use Rattle.regen_walk.specs.Walks.{behind_items, walk_from}
use Rattle.regen_walk.proofs.ForestArcs.{forest_of}
use Rattle.regen_walk.proofs.Shortness.{walks_same, walk_short}

pub forest_in : (parts : SchemaParts) → IsSchema parts → (ways : List Ways) → AreWays (quiet_arcs parts) (length parts.words) ways → HasNoCycle ArcJoins (HasArc ways)
forest_in parts valid ways are = HasNoCycle-within (λ arc has. (are.has arc).1 has) (forest_of parts valid (quiet_arcs parts) refl).forest

-- walks one after the other
module _ (parts : SchemaParts) (labels more : List Label) (first second : Moved) (then : walk_from parts first.position first.registers more ≡ Some second)
    (again : (moved rest : Moved) → walk_from parts moved.position moved.registers labels ≡ Some rest → walk_from parts rest.position rest.registers more ≡ Some second
    → walk_from parts moved.position moved.registers (labels ++ more) ≡ Some (behind_items rest.items second)) where
  later : (moved : Moved) (o : Option Moved) → walk_from parts moved.position moved.registers labels ≡ o → option_map (behind_items moved.items) o ≡ Some first
      → option_map (behind_items moved.items) (walk_from parts moved.position moved.registers (labels ++ more)) ≡ Some (behind_items first.items second)
  later moved None at is = absurd (cc is)
  later moved (Some rest) at is =
      let joined : behind_items moved.items rest ≡ first = cc is in
      let then_rest : walk_from parts rest.position rest.registers more ≡ Some second = subst (λ (m : Moved). walk_from parts m.position m.registers more ≡ Some second) (sym joined) then in
      ap (option_map (behind_items moved.items)) (again moved rest at then_rest)
      ∙ ap (λ (items : List Item). Some (record second { items = items })) (sym (append_assoc moved.items rest.items second.items))
      ∙ ap (λ (m : Moved). Some (behind_items m.items second)) joined

  by_move : (o : Option Moved) → option_and_then (λ (moved : Moved). option_map (behind_items moved.items) (walk_from parts moved.position moved.registers labels)) o ≡ Some first
      → option_and_then (λ (moved : Moved). option_map (behind_items moved.items) (walk_from parts moved.position moved.registers (labels ++ more))) o ≡ Some (behind_items first.items second)
  by_move None is = absurd (cc is)
  by_move (Some moved) is = later moved (walk_from parts moved.position moved.registers labels) refl is

pub walk_both : (parts : SchemaParts) (position : Position) (registers : List ℕ) (labels more : List Label) (first second : Moved) → walk_from parts position registers labels ≡ Some first
    → walk_from parts first.position first.registers more ≡ Some second → walk_from parts position registers (labels ++ more) ≡ Some (behind_items first.items second)
walk_both parts position registers [] more first second is then =
    let begun : Moved = record { items = []; position = position; registers = registers } in
    let same : begun ≡ first = cc is in
    subst (λ (m : Moved). walk_from parts m.position m.registers more ≡ Some second → walk_from parts position registers more ≡ Some (behind_items m.items second)) same (λ all. all) then
walk_both parts position registers (label ∷ labels) more first second is then =
    by_move parts labels more first second then (λ moved rest at then_rest. walk_both parts moved.position moved.registers labels more rest second at then_rest)
    (move_of parts position registers label) is

pub kind_is : (taken : Bool) (kind : ℕ) → kind ≡ kind_number taken → eqb kind 1 ≡ taken
kind_is true kind is = ap (λ k. eqb k 1) is
kind_is false kind is = ap (λ k. eqb k 1) is

pub labels_both : (front rest : List Arc) → map Quiet (ways_along (front ++ rest)) ≡ map Quiet (ways_along front) ++ map Quiet (ways_along rest)
labels_both front rest =
    ap (map Quiet) (flat_map-append (λ (a : Arc). eqb a.kind 1 ∷ eqb a.kind 1 ∷ []) front rest) ∙ map-append Quiet (ways_along front) (ways_along rest)

labels_more : (front : List Arc) (arc : Arc) (taken : Bool) → arc.kind ≡ kind_number taken → map Quiet (ways_along (front ++ arc ∷ [])) ≡ map Quiet (ways_along front) ++ Quiet taken ∷ Quiet taken ∷ []
labels_more front arc taken kind =
    labels_both front (arc ∷ [])
    ∙ ap (λ (t : Bool). map Quiet (ways_along front) ++ Quiet t ∷ Quiet t ∷ []) (kind_is taken arc.kind kind)

module _ (parts : SchemaParts) (valid : IsSchema parts) (ways : List Ways) (are : AreWays (quiet_arcs parts) (length parts.words) ways) (from goal : Spot) (before : List ℕ) where
  pub begins : IsSpot parts from → (walk : List Arc) → IsWalk (HasArc ways) from.place goal.place walk → IsOnTheWay parts ways from goal from before before [] 0
  begins there walk walks = record { front = []; rest = walk; whole = walks; left = walks; gone = refl; stands = there; long = refl }

  pub goes_further : (spot next : Spot) (now after : List ℕ) (items : List Item) (count : ℕ) (taken : Bool) (access : Option Item) → IsOnTheWay parts ways from goal spot before now items count
      → (arc : Arc) (rest : List Arc) → arc.kind ≡ kind_number taken → IsWalk (HasArc ways) spot.place goal.place (arc ∷ rest) → way_from ways (kind_number taken) spot.place ≡ Some next.place
      → PassesOver parts taken spot next now after access → IsOnTheWay parts ways from goal next before after (items ++ items_at spot.address access) (count + 1)
  goes_further spot next now after items count taken access on arc rest kind walks way passes =
      let forest = forest_in parts valid ways are in
      let same : on.rest ≡ arc ∷ rest = walks_same ways forest spot.place goal.place on.rest (arc ∷ rest) on.left walks in
      let led = walks.trail.1 in
      let there : Some arc.to ≡ Some next.place = sym (walks.within arc (inl refl)) ∙ ap (λ (k : ℕ). way_from ways k arc.from) kind ∙ ap (way_from ways (kind_number taken)) led.0 ∙ way in
      let place : walks.trail.0 ≡ next.place = sym led.1 ∙ (let e : arc.to ≡ next.place = cc in e) in
      record {
        front = on.front ++ arc ∷ [];
        rest = rest;
        whole = subst (IsWalk (HasArc ways) from.place goal.place) (ap (λ (list : List Arc). on.front ++ list) same ∙ sym (append_assoc on.front (arc ∷ []) rest)) on.whole;
        left = record {
          within = λ a is. walks.within a (inr is);
          trail = subst (λ (p : ℕ). Trail ArcLeads rest p goal.place) place walks.trail.2;
        };
        gone =
            ap (walk_from parts (Before from.address) before) (labels_more on.front arc taken kind)
            ∙ walk_both parts (Before from.address) before (map Quiet (ways_along on.front)) (Quiet taken ∷ Quiet taken ∷ []) (record { items = items; position = Before spot.address; registers = now })
            (record { items = items_at spot.address access; position = Before next.address; registers = after }) on.gone passes.moves;
        stands = passes.spot;
        long = let more = length-append on.front (arc ∷ []) in omega (arith, more, on.long);
      }

  arrives : (spot : Spot) (now : List ℕ) (items : List Item) (count : ℕ) → IsSpot parts goal → IsOnTheWay parts ways from goal spot before now items count → spot.place ≡ goal.place
      → (walk : List Arc) → IsWalk (HasArc ways) from.place goal.place walk → GoesAlong parts walk from.address goal.address before now items
  arrives spot now items count there on place walk walks =
      let forest = forest_in parts valid ways are in
      let empty : IsWalk (HasArc ways) spot.place goal.place [] = record { within = λ a none. absurd none; trail = place } in
      let none : on.rest ≡ [] = walks_same ways forest spot.place goal.place on.rest [] on.left empty in
      let all : on.front ≡ walk =
      sym (append-nil on.front) ∙ ap (λ (list : List Arc). on.front ++ list) (sym none) ∙ walks_same ways forest from.place goal.place (on.front ++ on.rest) walk on.whole walks
      in
      let both : Some spot.address ≡ Some goal.address =
      sym (address_of-place_of parts.stretches spot.place spot.address on.stands) ∙ ap (address_of parts.stretches) place ∙ address_of-place_of parts.stretches goal.place goal.address there
      in
      let address : spot.address ≡ goal.address = cc in
      subst (λ (a : ℕ). GoesAlong parts walk from.address a before now items) address (subst (λ (w : List Arc). GoesAlong parts w from.address spot.address before now items) all on.gone)

  -- no way leads on
  pub arrives_early : (spot : Spot) (now : List ℕ) (items : List Item) (count : ℕ) → IsSpot parts goal → IsOnTheWay parts ways from goal spot before now items count
      → ((walk : List Arc) → IsWalk (HasArc ways) spot.place goal.place walk → spot.place ≡ goal.place)
      → (walk : List Arc) → IsWalk (HasArc ways) from.place goal.place walk → GoesAlong parts walk from.address goal.address before now items
  arrives_early spot now items count there on none = arrives spot now items count there on (none on.rest on.left)

  left_none : (rest : List Arc) (one two : ℕ) → length rest ≡ 0 → Trail ArcLeads rest one two → one ≡ two
  left_none [] one two none trail = trail
  left_none (arc ∷ rest) one two none trail = absurd (omega (arith, none))

  -- after as many arcs as there are words none is left
  pub arrives_last : (spot : Spot) (now : List ℕ) (items : List Item) (count : ℕ) → IsSpot parts goal → IsOnTheWay parts ways from goal spot before now items count → length parts.words ≤ count
      → (walk : List Arc) → IsWalk (HasArc ways) from.place goal.place walk → GoesAlong parts walk from.address goal.address before now items
  arrives_last spot now items count there on enough =
      let short = walk_short ways (forest_in parts valid ways are) from.place goal.place (on.front ++ on.rest) on.whole in
      let both = length-append on.front on.rest in
      let none : length on.rest ≡ 0 = omega (arith, short, both, on.long, enough, are.long) in
      arrives spot now items count there on (left_none on.rest spot.place goal.place none on.left.trail)
