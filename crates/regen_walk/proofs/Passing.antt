-- Going on over an edge without a record.
use Rattle.std.proofs.Common.{◌≡◌, ℕ, ◌+◌, Bool, true, false, cond, List, [], ◌∷◌, ◌++◌, length, Option, Some, None, refl, sym, ap, subst, ◌∙◌}
use Rattle.std.specs.Prelude.{slice_get}
use Rattle.std.specs.Option.{option_and_then, option_map, option_map_or}
use Rattle.std.proofs.lemmas.List.{append-nil}
use Rattle.std.proofs.lemmas.Option.{slice_get-get_or}
use Rattle.ae_nums.specs.declared.item.Item.{Item}
use Rattle.rv_code.specs.declared.class.Class.{Class}
use Rattle.rv_code.specs.declared.extent.Extent.{Extent}
use Rattle.rv_code.specs.Numbers.{wrap}
use Rattle.rv_code.specs.Parts.{target_of}
use Rattle.rv_code.specs.Places.{address_of, place_of}
use Rattle.rv_code.specs.Table.{meaning_of}
use Rattle.rv_code.specs.Ways.{falls}
use Rattle.rv_code.proofs.LawsOfLookUps.{address_of-place_of}
use Rattle.flow_graph.specs.declared.edge.Edge.{Edge}
use Rattle.flow_graph.specs.Edges.{kind_by, is_taken_kind}
use Rattle.flow_graph.proofs.LawsOfEdges.{taken_again}
use Rattle.regen_path.specs.declared.arcs.Arc.{Arc}
use Rattle.regen_path.specs.declared.arcs.Ways.{Ways}
use Rattle.regen_path.specs.Arcs.{AreWays, way_from}
use Rattle.schema_form.specs.declared.word.SchemaWord.{SchemaWord}
use Rattle.schema_form.specs.Flags.{class_in, is_set}
use Rattle.schema_form.specs.Rules.{way_of, witness_mark}
use Rattle.schema_form.specs.SchemaParts.{SchemaParts}
use Rattle.schema_form.specs.Valid.{IsSchema}
use Rattle.regen_walk.specs.declared.met.Met.{Met}
use Rattle.regen_walk.specs.declared.met.Spot.{Spot}
use Rattle.regen_walk.specs.declared.position.Position.{Position}
use Rattle.regen_walk.specs.declared.position.Position.TheVariants.{Before, After, Outside}
use Rattle.regen_walk.specs.FreeArcs.{goes_quietly, kind_number, quiet_arcs, word_goes_quietly}
use Rattle.regen_walk.specs.Inner.Going.{IsCarriedOut, PassesOver, items_at}
use Rattle.regen_walk.specs.Inner.Met.{IsMet, IsSpot}
use Rattle.regen_walk.specs.Labels.{Label, Quiet}
use Rattle.regen_walk.specs.Moves.{Moved, goes_on, is_kept, move_of, names_edge, placed_at}
use Rattle.regen_walk.specs.Walks.{behind_items, walk_from}
use Rattle.regen_walk.proofs.ForestArcs.{known, kind_same}
use Rattle.regen_walk.proofs.Steps.{move_before, move_after, quiet_some}
use Rattle.regen_walk.proofs.WordsMet.{place_within}

-- what an arc says of the word that it is from
pub record QuietStep (parts : SchemaParts) (at : ℕ) (met : Met) (taken : Bool) (place : ℕ) : Type 0 where
  pub quiet : goes_quietly (is_kept met.word) taken met.class ≡ true
  pub free : is_set (witness_mark taken) met.word.flags ≡ false
  pub target : ℕ
  pub way : way_of taken met.class met.word.raw at ≡ Some target
  pub to : place_of parts.stretches target ≡ Some place

-- the parts of a free edge that is there
pub record FreeParts (stretches : List Extent) (taken : Bool) (class : Class) (word : SchemaWord) (address : ℕ) (edge : Edge) : Type 0 where
  pub free : is_set (witness_mark taken) word.flags ≡ false
  pub way : way_of taken class word.raw address ≡ Some edge.target
  pub to : edge.to ≡ place_of stretches edge.target

free_by : (stretches : List Extent) (taken : Bool) (class : Class) (word : SchemaWord) (place address : ℕ) (edge : Edge) (marked : Bool) (way : Option ℕ)
    → is_set (witness_mark taken) word.flags ≡ marked → way_of taken class word.raw address ≡ way
    → cond marked None (option_map (λ (target : ℕ). record { from = address; kind = kind_by taken; source = place; to = place_of stretches target; target = target }) way) ≡ Some edge
    → FreeParts stretches taken class word address edge
free_by stretches taken class word place address edge true way marked_is way_is is = absurd (cc is)
free_by stretches taken class word place address edge false None marked_is way_is is = absurd (cc is)
free_by stretches taken class word place address edge false (Some target) marked_is way_is is =
    let made : Edge = record { from = address; kind = kind_by taken; source = place; to = place_of stretches target; target = target } in
    let same : made ≡ edge = cc is in
    record {
      free = marked_is;
      way = way_is ∙ ap (λ (e : Edge). Some e.target) same;
      to = subst (λ (e : Edge). e.to ≡ place_of stretches e.target) same refl;
    }

quiet_by : (quiet : Bool) (o : Option Arc) (arc : Arc) → cond quiet o None ≡ Some arc → quiet ≡ true
quiet_by true o arc is = refl
quiet_by false o arc is = absurd (cc is)

module _ (parts : SchemaParts) (valid : IsSchema parts) (spot : Spot) (there : IsSpot parts spot) (met : Met) (is : IsMet parts spot.address met) where
  pub word_there : slice_get parts.words spot.place ≡ Some met.word
  word_there = sym (ap (option_and_then (slice_get parts.words)) there) ∙ is.there

  pub quiet_step : (ways : List Ways) (taken : Bool) (place : ℕ) → AreWays (quiet_arcs parts) (length parts.words) ways → way_from ways (kind_number taken) spot.place ≡ Some place
      → QuietStep parts spot.address met taken place
  quiet_step ways taken place are way =
      let arc : Arc = record { from = spot.place; to = place; kind = kind_number taken } in
      let k = known parts valid arc ((are.has arc).1 way) in
      let source : k.e.place ≡ spot.place = sym (k.a.from ∙ k.p.source) in
      let same_taken : k.e.taken ≡ taken =
      sym (ap is_taken_kind k.p.kind ∙ taken_again k.e.taken) ∙ kind_same (is_taken_kind k.n.edge.kind) taken (sym k.a.kind)
      in
      let word : k.e.word ≡ met.word = (let both : Some k.e.word ≡ Some met.word = sym k.e.at ∙ ap (slice_get parts.words) source ∙ word_there in cc) in
      let address : k.e.address ≡ spot.address =
      (let both : Some k.e.address ≡ Some spot.address = sym k.e.stands ∙ ap (address_of parts.stretches) source ∙ address_of-place_of parts.stretches spot.place spot.address there in cc)
      in
      let class : k.e.class ≡ met.class = (let both : Some k.e.class ≡ Some met.class = sym k.e.named ∙ ap (λ (w : SchemaWord). class_in w.flags) word ∙ is.named in cc) in
      let first = free_by parts.stretches k.e.taken k.e.class k.e.word k.e.place k.e.address k.n.edge (is_set (witness_mark k.e.taken) k.e.word.flags) (way_of k.e.taken k.e.class k.e.word.raw k.e.address) refl refl k.e.is in
      let gate = quiet_by (option_map_or (word_goes_quietly (is_taken_kind k.n.edge.kind)) (slice_get parts.words k.n.edge.source) false) _ arc k.n.is in
      let taken_is : is_taken_kind k.n.edge.kind ≡ taken = ap is_taken_kind k.p.kind ∙ taken_again k.e.taken ∙ same_taken in
      record {
        quiet =
            ap (λ (o : Option Class). option_map_or (goes_quietly (is_kept met.word) taken) o false) (sym is.named)
            ∙ gate_is taken k.n.edge taken_is (k.p.source ∙ source) gate;
        free = ap (λ (t : Bool). is_set (witness_mark t) met.word.flags) (sym same_taken) ∙ ap (λ (w : SchemaWord). is_set (witness_mark k.e.taken) w.flags) (sym word) ∙ first.free;
        target = k.n.edge.target;
        way =
            ap (λ (t : Bool). way_of t met.class met.word.raw spot.address) (sym same_taken)
            ∙ ap (λ (c : Class). way_of k.e.taken c met.word.raw spot.address) (sym class)
            ∙ ap (λ (w : SchemaWord). way_of k.e.taken k.e.class w.raw spot.address) (sym word)
            ∙ ap (way_of k.e.taken k.e.class k.e.word.raw) (sym address)
            ∙ first.way;
        to = sym first.to ∙ k.a.to;
      }
    where
      gate_is : (taken : Bool) (edge : Edge) → is_taken_kind edge.kind ≡ taken → edge.source ≡ spot.place
          → option_map_or (word_goes_quietly (is_taken_kind edge.kind)) (slice_get parts.words edge.source) false ≡ true → word_goes_quietly taken met.word ≡ true
      gate_is taken edge kind source gate =
          sym (ap (λ (t : Bool). option_map_or (word_goes_quietly t) (slice_get parts.words edge.source) false) kind
          ∙ ap (λ (p : ℕ). option_map_or (word_goes_quietly taken) (slice_get parts.words p) false) source
          ∙ ap (λ (o : Option SchemaWord). option_map_or (word_goes_quietly taken) o false) word_there)
          ∙ gate

  -- before the code word of a place
  pub placed_there : (target place : ℕ) → place_of parts.stretches target ≡ Some place → placed_at parts target ≡ Before target
  placed_there target place to =
      let within = place_within parts valid (record { address = target; place = place }) to in
      let none : SchemaWord = met.word in
      ap (λ (o : Option SchemaWord). option_map_or (λ (word : SchemaWord). Before target) o (Outside target))
      (ap (option_and_then (slice_get parts.words)) to ∙ slice_get-get_or parts.words place none within)

  names_quiet : (taken marked : Bool) → marked ≡ false → names_edge spot.address taken marked (Quiet taken) ≡ true
  names_quiet true true free = absurd (cc free)
  names_quiet true false free = refl
  names_quiet false true free = absurd (cc free)
  names_quiet false false free = refl

  over : (taken : Bool) (place : ℕ) (q : QuietStep parts spot.address met taken place) (registers : List ℕ)
      → move_of parts (After spot.address taken) registers (Quiet taken) ≡ Some (record { items = []; position = Before q.target; registers = registers })
  over taken place q registers =
      move_after parts spot.address met taken registers (Quiet taken) is
      ∙ ap (λ b. cond b (option_map (λ target. record { items = []; position = placed_at parts target; registers = registers }) (way_of taken met.class met.word.raw spot.address)) None)
      (names_quiet taken (is_set (witness_mark taken) met.word.flags) q.free)
      ∙ ap (option_map (λ target. record { items = []; position = placed_at parts target; registers = registers })) q.way
      ∙ ap (λ (position : Position). Some (record { items = []; position = position; registers = registers })) (placed_there q.target place q.to)

  two : (first second : Moved) (label more : Label) (registers : List ℕ) → move_of parts (Before spot.address) registers label ≡ Some first → move_of parts first.position first.registers more ≡ Some second
      → walk_from parts (Before spot.address) registers (label ∷ more ∷ []) ≡ Some (record { items = first.items ++ (second.items ++ []); position = second.position; registers = second.registers })
  two first second label more registers first_is second_is =
      ap (option_and_then (λ (moved : Moved). option_map (behind_items moved.items) (walk_from parts moved.position moved.registers (more ∷ [])))) first_is
      ∙ ap (λ o. option_map (behind_items first.items) (option_and_then (λ (moved : Moved). option_map (behind_items moved.items) (walk_from parts moved.position moved.registers [])) o)) second_is

  pub passes : (taken : Bool) (place address : ℕ) (q : QuietStep parts spot.address met taken place) (before now : List ℕ) (access : Option Item) → q.target ≡ address → IsCarriedOut spot.address met before access now
      → PassesOver parts taken spot (record { address = address; place = place }) before now access
  passes taken place address q before now access same carries =
      let first = move_before parts spot.address met before (Quiet taken) is ∙ carries parts taken q.quiet in
      record {
        moves =
            two (goes_on spot.address access taken now) (record { items = []; position = Before q.target; registers = now }) (Quiet taken) (Quiet taken) before first (over taken place q now)
            ∙ ap (λ (items : List Item). Some (record { items = items; position = Before q.target; registers = now })) (append-nil (items_at spot.address access))
            ∙ ap (λ (a : ℕ). Some (record { items = items_at spot.address access; position = Before a; registers = now })) same;
        spot = ap (place_of parts.stretches) (sym same) ∙ q.to;
      }

  -- with any registers both moves can be made
  pub goes_over : (taken : Bool) (place : ℕ) (q : QuietStep parts spot.address met taken place) (before : List ℕ) → (items : List Item) × (now : List ℕ)
      × (walk_from parts (Before spot.address) before (Quiet taken ∷ Quiet taken ∷ []) ≡ Some (record { items = items; position = Before q.target; registers = now }))
  goes_over taken place q before =
      let s = quiet_some parts spot.address met.word before met.class taken q.quiet in (
        s.moved.items ++ ([] ++ []),
        s.moved.registers,
        two s.moved (record { items = []; position = Before q.target; registers = s.moved.registers }) (Quiet taken) (Quiet taken) before
            (move_before parts spot.address met before (Quiet taken) is ∙ s.is)
            (ap (λ (p : Position). move_of parts p s.moved.registers (Quiet taken)) s.position ∙ over taken place q s.moved.registers),
      )

-- where a way leads that is there
pub way_there : (taken : Bool) (class : Class) (raw at to : ℕ) → way_of taken class raw at ≡ Some to → taken ≡ true → target_of (meaning_of raw) at ≡ Some to
way_there true class raw at to way is = way
way_there false class raw at to way is = absurd (cc is)

fallen : (does_fall : Bool) (next to : ℕ) → cond does_fall (Some next) None ≡ Some to → to ≡ next
fallen true next to way = let both : Some to ≡ Some next = sym way in cc
fallen false next to way = absurd (cc way)

pub led_there : (taken : Bool) (class : Class) (raw at to led : ℕ) → way_of taken class raw at ≡ Some to → (taken ≡ true → target_of (meaning_of raw) at ≡ Some led) → (taken ≡ false → led ≡ wrap (at + 4))
    → to ≡ led
led_there true class raw at to led way by_target by_fall = let both : Some to ≡ Some led = sym way ∙ by_target refl in cc
led_there false class raw at to led way by_target by_fall = fallen (falls class) (wrap (at + 4)) to way ∙ sym (by_fall refl)
