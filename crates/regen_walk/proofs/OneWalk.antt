-- Two walks with the same records are one, up to and with the move that has the last.
use Rattle.std.proofs.Common.{◌≡◌, ℕ, Bool, true, false, List, [], ◌∷◌, ◌++◌, Some, refl, sym, ap, subst, ◌∙◌}
use Rattle.std.specs.Prelude.{IsSome, is_some}
use Rattle.std.specs.Option.{option_and_then, option_map}
use Rattle.rv_machine.specs.Start.{first_registers}
use Rattle.graph_paths.specs.Forests.{IsAmong}
use Rattle.rv_code.specs.Places.{place_of}
use Rattle.rv_code.proofs.LawsOfTests.{some_there}
use Rattle.ev_format.specs.declared.record.Record.{Record}
use Rattle.regen_path.specs.declared.arcs.Arc.{Arc}
use Rattle.regen_path.specs.Walks.{IsWalk}
use Rattle.schema_form.specs.Flags.{is_set}
use Rattle.schema_form.specs.Rules.{witness_mark}
use Rattle.schema_form.specs.SchemaParts.{SchemaParts}
use Rattle.schema_form.specs.Valid.{IsSchema}
use Rattle.regen_walk.specs.declared.met.Spot.{Spot}
use Rattle.regen_walk.specs.declared.position.Position.{Position}
use Rattle.regen_walk.specs.declared.position.Position.TheVariants.{Before, After, Outside, Stopped}
use Rattle.regen_walk.specs.FreeArcs.{quiet_arcs}
use Rattle.regen_walk.specs.Inner.Going.{ways_along}
use Rattle.regen_walk.specs.Labels.{Label, Quiet, Tell, moves_to, records_in}
use Rattle.regen_walk.specs.Laws.{SameRecordsSameWalk, quiet_before, up_to_last}
use Rattle.regen_walk.specs.Moves.{Moved, move_of, names_edge}
use Rattle.regen_walk.specs.Walks.{behind_items, walk_from}
use Rattle.regen_walk.proofs.Crossed.{tell_free}
use Rattle.regen_walk.proofs.Elsewhere.{not_first}
use Rattle.regen_walk.proofs.ForestArcs.{forest_of}
use Rattle.regen_walk.proofs.Reached.{edge_first, first_move, last_ways, quiet_named, reaches}
use Rattle.regen_walk.proofs.Shortness.{only_walk}
use Rattle.regen_walk.proofs.Steps.{move_from_outside, move_from_stopped, move_placed_after, move_placed_before}
use Rattle.regen_walk.proofs.WordsMet.{met_of}

none_told : (labels : List Label) → records_in labels ≡ [] → up_to_last labels ≡ []
none_told [] is = refl
none_told (Quiet taken ∷ labels) is = ap (quiet_before taken) (none_told labels is)
none_told (Tell rec ∷ labels) is = absurd (cc is)

-- the moves up to the first record, and what is behind them
pub record Parted (labels : List Label) (rec : Record) (records : List Record) : Type 0 where
  pub ways : List Bool
  pub rest : List Label
  pub all : labels ≡ moves_to ways rec ++ rest
  pub told : records_in rest ≡ records

pub parted : (labels : List Label) (rec : Record) (records : List Record) → records_in labels ≡ rec ∷ records → Parted labels rec records
parted [] rec records is = absurd (cc is)
parted (Quiet taken ∷ labels) rec records is =
    let p = parted labels rec records is in
    record { ways = taken ∷ p.ways; rest = p.rest; all = ap (λ (list : List Label). Quiet taken ∷ list) p.all; told = p.told }
parted (Tell first ∷ labels) rec records is =
    let same : first ≡ rec = cc is in
    let behind : records_in labels ≡ records = cc is in
    record { ways = []; rest = labels; all = ap (λ (r : Record). Tell r ∷ labels) same; told = behind }

stays : (taken : Bool) (ways : List Bool) (rec : Record) (rest : List Label) → quiet_before taken (moves_to ways rec ++ rest) ≡ Quiet taken ∷ (moves_to ways rec ++ rest)
stays taken [] rec rest = refl
stays taken (way ∷ ways) rec rest = refl

pub up_to_both : (ways : List Bool) (rec : Record) (rest : List Label) → up_to_last (moves_to ways rec ++ rest) ≡ moves_to ways rec ++ up_to_last rest
up_to_both [] rec rest = refl
up_to_both (taken ∷ ways) rec rest = ap (quiet_before taken) (up_to_both ways rec rest) ∙ stays taken ways rec (up_to_last rest)

-- the first moves of a walk can be made, and from there the rest
pub front_made : (parts : SchemaParts) (labels more : List Label) (position : Position) (registers : List ℕ) → IsSome (walk_from parts position registers (labels ++ more))
    → (first : Moved) × (walk_from parts position registers labels ≡ Some first) × IsSome (walk_from parts first.position first.registers more)
front_made parts [] more position registers made = (record { items = []; position = position; registers = registers }, refl, made)
front_made parts (label ∷ labels) more position registers made =
    let all = some_there (walk_from parts position registers (label ∷ (labels ++ more))) made in
    let b = first_move parts position registers label (labels ++ more) all.0 all.1 in
    let r = front_made parts labels more b.first.position b.first.registers (ap is_some b.behind) in (
      behind_items b.first.items r.0,
      ap (option_and_then (λ (first : Moved). option_map (behind_items first.items) (walk_from parts first.position first.registers labels))) b.made ∙ ap (option_map (behind_items b.first.items)) r.1,
      r.2,
    )

-- an edge isn't passed both with a record and without one
never_both : (at : ℕ) (taken marked way : Bool) (rec : Record) → names_edge at taken marked (Quiet way) ≡ true → names_edge at taken marked (Tell rec) ≡ true → ⊥
never_both at taken marked way rec quiet told =
    let free = (quiet_named at taken marked way quiet).0 in
    let clash : false ≡ true = sym (tell_free at taken rec) ∙ ap (λ (m : Bool). names_edge at taken m (Tell rec)) (sym free) ∙ told in
    cc

module _ (parts : SchemaParts) (valid : IsSchema parts) (rec : Record) where
  -- a walk without a record from before a word to the same record goes by the same ways
  from_spot : (from : Spot) → place_of parts.stretches from.address ≡ Some from.place → (registers : List ℕ) (one other : List Bool) (moved also_moved : Moved)
      → walk_from parts (Before from.address) registers (moves_to one rec) ≡ Some moved → walk_from parts (Before from.address) registers (moves_to other rec) ≡ Some also_moved → one ≡ other
  from_spot from there registers one other moved also_moved made also =
      let r = reaches parts valid rec one from there registers moved made in
      let s = reaches parts valid rec other from there registers also_moved also in
      let both : Some r.goal.place ≡ Some s.goal.place = sym r.spot ∙ ap (place_of parts.stretches) (sym r.address ∙ s.address) ∙ s.spot in
      let place : r.goal.place ≡ s.goal.place = cc in
      let walk : r.walk ≡ s.walk =
      only_walk (IsAmong (quiet_arcs parts)) (forest_of parts valid (quiet_arcs parts) refl).forest from.place s.goal.place r.walk s.walk
      (subst (λ (p : ℕ). IsWalk (IsAmong (quiet_arcs parts)) from.place p r.walk) place r.walks) s.walks
      in
      r.turned ∙ ap (λ (w : List Arc). ways_along w ++ last_ways rec) walk ∙ sym s.turned

  from_before : (at : ℕ) (registers : List ℕ) (one other : List Bool) (moved also_moved : Moved) → (place : ℕ) × (place_of parts.stretches at ≡ Some place)
      → walk_from parts (Before at) registers (moves_to one rec) ≡ Some moved → walk_from parts (Before at) registers (moves_to other rec) ≡ Some also_moved → one ≡ other
  from_before at registers one other moved also_moved there made also = from_spot (record { address = at; place = there.0 }) there.1 registers one other moved also_moved made also

  placed_before : (at : ℕ) (registers : List ℕ) (ways : List Bool) (moved : Moved) → walk_from parts (Before at) registers (moves_to ways rec) ≡ Some moved
      → (place : ℕ) × (place_of parts.stretches at ≡ Some place)
  placed_before at registers [] moved made =
      let b = first_move parts (Before at) registers (Tell rec) [] moved made in
      move_placed_before parts at registers (Tell rec) b.first b.made
  placed_before at registers (way ∷ ways) moved made =
      let b = first_move parts (Before at) registers (Quiet way) (moves_to ways rec) moved made in
      move_placed_before parts at registers (Quiet way) b.first b.made

  -- the label by which an edge is passed
  passed_by : (at : ℕ) (taken : Bool) (registers : List ℕ) (label : Label) (labels : List Label) (moved : Moved) → walk_from parts (After at taken) registers (label ∷ labels) ≡ Some moved
      → (marked : Bool) × ((other : Label) (rest : List Label) (also : Moved) → walk_from parts (After at taken) registers (other ∷ rest) ≡ Some also → names_edge at taken marked other ≡ true)
  passed_by at taken registers label labels moved made =
      let b = first_move parts (After at taken) registers label labels moved made in
      let there = move_placed_after parts at taken registers label b.first b.made in
      let spot : Spot = record { address = at; place = there.0 } in
      let m = met_of parts valid spot there.1 in (
        is_set (witness_mark taken) m.0.word.flags,
        λ other rest also is. (edge_first parts valid spot there.1 m.0 m.1 taken registers other rest also is).0,
      )

  pub same_turns : (position : Position) (registers : List ℕ) (one other : List Bool) (moved also_moved : Moved) → walk_from parts position registers (moves_to one rec) ≡ Some moved
      → walk_from parts position registers (moves_to other rec) ≡ Some also_moved → one ≡ other
  same_turns (Before at) registers one other moved also_moved made also = from_before at registers one other moved also_moved (placed_before at registers one moved made) made also
  same_turns (After at taken) registers [] [] moved also_moved made also = refl
  same_turns (After at taken) registers [] (way ∷ ways) moved also_moved made also =
      let p = passed_by at taken registers (Tell rec) [] moved made in
      absurd (never_both at taken p.0 way rec (p.1 (Quiet way) (moves_to ways rec) also_moved also) (p.1 (Tell rec) [] moved made))
  same_turns (After at taken) registers (way ∷ ways) [] moved also_moved made also =
      let p = passed_by at taken registers (Tell rec) [] also_moved also in
      absurd (never_both at taken p.0 way rec (p.1 (Quiet way) (moves_to ways rec) moved made) (p.1 (Tell rec) [] also_moved also))
  same_turns (After at taken) registers (way ∷ ways) (turn ∷ turns) moved also_moved made also =
      let p = passed_by at taken registers (Quiet way) (moves_to ways rec) moved made in
      let first = (quiet_named at taken p.0 way (p.1 (Quiet way) (moves_to ways rec) moved made)).1 in
      let second = (quiet_named at taken p.0 turn (p.1 (Quiet turn) (moves_to turns rec) also_moved also)).1 in
      let b = first_move parts (After at taken) registers (Quiet way) (moves_to ways rec) moved made in
      let d = first_move parts (After at taken) registers (Quiet turn) (moves_to turns rec) also_moved also in
      let there : d.first ≡ b.first =
      (let both : Some d.first ≡ Some b.first = sym d.made ∙ ap (λ (w : Bool). move_of parts (After at taken) registers (Quiet w)) (second ∙ sym first) ∙ b.made in cc)
      in
      let rest = same_turns b.first.position b.first.registers ways turns b.rest d.rest b.behind (subst (λ (m : Moved). walk_from parts m.position m.registers (moves_to turns rec) ≡ Some d.rest) there d.behind) in
      ap (λ (w : Bool). w ∷ ways) (first ∙ sym second) ∙ ap (λ (list : List Bool). turn ∷ list) rest
  same_turns (Outside target) registers [] [] moved also_moved made also = refl
  same_turns (Outside target) registers [] (way ∷ ways) moved also_moved made also =
      absurd (not_first parts (Outside target) registers (Quiet way) (moves_to ways rec) also_moved (move_from_outside parts target registers (Quiet way)) also)
  same_turns (Outside target) registers (way ∷ ways) other moved also_moved made also =
      absurd (not_first parts (Outside target) registers (Quiet way) (moves_to ways rec) moved (move_from_outside parts target registers (Quiet way)) made)
  same_turns Stopped registers [] other moved also_moved made also = absurd (not_first parts Stopped registers (Tell rec) [] moved (move_from_stopped parts registers (Tell rec)) made)
  same_turns Stopped registers (way ∷ ways) other moved also_moved made also =
      absurd (not_first parts Stopped registers (Quiet way) (moves_to ways rec) moved (move_from_stopped parts registers (Quiet way)) made)

module _ (parts : SchemaParts) (valid : IsSchema parts) where
  one_walk : (records : List Record) (position : Position) (registers : List ℕ) (one other : List Label) → IsSome (walk_from parts position registers one) → IsSome (walk_from parts position registers other)
      → records_in one ≡ records → records_in other ≡ records → up_to_last one ≡ up_to_last other
  one_walk [] position registers one other made also told also_told = none_told one told ∙ sym (none_told other also_told)
  one_walk (rec ∷ records) position registers one other made also told also_told =
      let p = parted one rec records told in
      let q = parted other rec records also_told in
      let a = front_made parts (moves_to p.ways rec) p.rest position registers (subst (λ (labels : List Label). IsSome (walk_from parts position registers labels)) p.all made) in
      let b = front_made parts (moves_to q.ways rec) q.rest position registers (subst (λ (labels : List Label). IsSome (walk_from parts position registers labels)) q.all also) in
      let ways : p.ways ≡ q.ways = same_turns parts valid rec position registers p.ways q.ways a.0 b.0 a.1 b.1 in
      let there : b.0 ≡ a.0 =
      (let both : Some b.0 ≡ Some a.0 = sym b.1 ∙ ap (λ (w : List Bool). walk_from parts position registers (moves_to w rec)) (sym ways) ∙ a.1 in cc)
      in
      let rest : up_to_last p.rest ≡ up_to_last q.rest =
      one_walk records a.0.position a.0.registers p.rest q.rest a.2 (subst (λ (m : Moved). IsSome (walk_from parts m.position m.registers q.rest)) there b.2) p.told q.told
      in
      ap up_to_last p.all
      ∙ up_to_both p.ways rec p.rest
      ∙ ap (λ (w : List Bool). moves_to w rec ++ up_to_last p.rest) ways
      ∙ ap (λ (labels : List Label). moves_to q.ways rec ++ labels) rest
      ∙ sym (up_to_both q.ways rec q.rest)
      ∙ ap up_to_last (sym q.all)

pub same_walk : SameRecordsSameWalk
same_walk parts valid records one other explains also =
    one_walk parts valid records (Before parts.entry) first_registers one other explains.made also.made explains.told also.told
