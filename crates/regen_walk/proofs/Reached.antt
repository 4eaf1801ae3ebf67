-- Where moves without a record lead that end with one that has it.
use Rattle.std.proofs.Common.{◌≡◌, inl, inr, ℕ, ◌%◌, Bool, true, false, cond, eqb, List, [], ◌∷◌, ◌++◌, length, map, Option, Some, None, refl, sym, ap, subst, ◌∙◌}
use Rattle.std.specs.Prelude.{◌&&◌, ◌==◌, IfNone, is_some}
use Rattle.std.specs.Option.{option_and_then, option_map}
use Rattle.std.proofs.lemmas.Bool.{and_parts, cases_Bool, eqb-true}
use Rattle.ae_nums.specs.declared.item.Item.{Item}
use Rattle.graph_paths.specs.Forests.{IsAmong}
use Rattle.rv_code.specs.declared.class.Class.{Class}
use Rattle.rv_code.specs.declared.class.Class.TheVariants.{Plain, Load, Store, Branch, Jump, Indirect, Call, Stop}
use Rattle.rv_code.specs.Places.{place_of}
use Rattle.rv_code.specs.Table.{meaning_of}
use Rattle.rv_code.proofs.LawsOfLookUps.{is_some-place_of}
use Rattle.rv_code.proofs.LawsOfTests.{some_there}
use Rattle.ev_format.specs.declared.record.Record.{Record}
use Rattle.ev_format.specs.declared.record.Record.TheVariants as records
use Rattle.ev_format.specs.Shapes.{value_count}
use Rattle.ev_format.specs.Spelling.{address_in}
use Rattle.regen_path.specs.declared.arcs.Arc.{Arc}
use Rattle.regen_path.specs.Walks.{IsWalk}
use Rattle.schema_form.specs.declared.word.SchemaWord.{SchemaWord}
use Rattle.schema_form.specs.Flags.{is_set}
use Rattle.schema_form.specs.LookUps.{schema_shape}
use Rattle.schema_form.specs.Rules.{way_of, witness_mark}
use Rattle.schema_form.specs.SchemaParts.{SchemaParts}
use Rattle.schema_form.specs.Valid.{IsSchema}
use Rattle.regen_walk.specs.declared.met.Met.{Met}
use Rattle.regen_walk.specs.declared.met.Spot.{Spot}
use Rattle.regen_walk.specs.declared.position.Position.{Position}
use Rattle.regen_walk.specs.declared.position.Position.TheVariants.{Before, After}
use Rattle.regen_walk.specs.Accesses.{may_end}
use Rattle.regen_walk.specs.FreeArcs.{goes_quietly, kind_number, quiet_arcs}
use Rattle.regen_walk.specs.Inner.Going.{GoesAlong, ways_along}
use Rattle.regen_walk.specs.Inner.Met.{IsMet, IsSpot}
use Rattle.regen_walk.specs.Inner.Telling.{last_moves, may_tell}
use Rattle.regen_walk.specs.Labels.{Label, Quiet, Tell, moves_to}
use Rattle.regen_walk.specs.Moves.{Moved, is_kept, move_by_class, move_of, names_edge, placed_at}
use Rattle.regen_walk.specs.Walks.{behind_items, walk_from}
use Rattle.regen_walk.proofs.Passing.{QuietStep, goes_over}
use Rattle.regen_walk.proofs.Steps.{move_after, move_before, quiet_none, quiet_some}
use Rattle.regen_walk.proofs.Towards.{kind_is, walk_both}
use Rattle.regen_walk.proofs.Traced.{is_arc}
use Rattle.regen_walk.proofs.WordsMet.{met_of}

-- what holds anyway holds where there is none
pub none_always : {X : Type 0} (P : Type 0) (o : Option X) → P → IfNone o P
none_always P None holds = holds
none_always P (Some x) holds = tt

-- the first move of a walk, and the rest of it
pub record Begins (parts : SchemaParts) (position : Position) (registers : List ℕ) (label : Label) (labels : List Label) (moved : Moved) : Type 0 where
  pub first : Moved
  pub made : move_of parts position registers label ≡ Some first
  pub rest : Moved
  pub behind : walk_from parts first.position first.registers labels ≡ Some rest
  pub joined : behind_items first.items rest ≡ moved

behind_by : (first : Moved) (o : Option Moved) (moved : Moved) → option_map (behind_items first.items) o ≡ Some moved → (rest : Moved) × (o ≡ Some rest) × (behind_items first.items rest ≡ moved)
behind_by first None moved is = absurd (cc is)
behind_by first (Some rest) moved is = (rest, refl, cc is)

begins_by : (parts : SchemaParts) (position : Position) (registers : List ℕ) (label : Label) (labels : List Label) (o : Option Moved) (moved : Moved) → move_of parts position registers label ≡ o
    → option_and_then (λ (first : Moved). option_map (behind_items first.items) (walk_from parts first.position first.registers labels)) o ≡ Some moved
    → Begins parts position registers label labels moved
begins_by parts position registers label labels None moved at is = absurd (cc is)
begins_by parts position registers label labels (Some first) moved at is =
    let r = behind_by first (walk_from parts first.position first.registers labels) moved is in
    record { first = first; made = at; rest = r.0; behind = r.1; joined = r.2 }

pub first_move : (parts : SchemaParts) (position : Position) (registers : List ℕ) (label : Label) (labels : List Label) (moved : Moved) → walk_from parts position registers (label ∷ labels) ≡ Some moved
    → Begins parts position registers label labels moved
first_move parts position registers label labels moved is = begins_by parts position registers label labels (move_of parts position registers label) moved refl is

-- what is behind the first moves of a walk
pub walk_rest : (parts : SchemaParts) (labels more : List Label) (position : Position) (registers : List ℕ) (moved first : Moved) → walk_from parts position registers (labels ++ more) ≡ Some moved
    → walk_from parts position registers labels ≡ Some first → (second : Moved) × (walk_from parts first.position first.registers more ≡ Some second)
walk_rest parts [] more position registers moved first all is =
    let begun : Moved = record { items = []; position = position; registers = registers } in
    let same : begun ≡ first = cc is in
    (moved, subst (λ (m : Moved). walk_from parts m.position m.registers more ≡ Some moved) same all)
walk_rest parts (label ∷ labels) more position registers moved first all is =
    let a = first_move parts position registers label (labels ++ more) moved all in
    let b = first_move parts position registers label labels first is in
    let same : b.first ≡ a.first = (let both : Some b.first ≡ Some a.first = sym b.made ∙ a.made in cc) in
    let behind : walk_from parts a.first.position a.first.registers labels ≡ Some b.rest = subst (λ (m : Moved). walk_from parts m.position m.registers labels ≡ Some b.rest) same b.behind in
    let r = walk_rest parts labels more a.first.position a.first.registers a.rest b.rest a.behind behind in
    (r.0, subst (λ (m : Moved). walk_from parts m.position m.registers more ≡ Some r.0) b.joined r.1)

gate : {X : Type 0} (b : Bool) (x y : X) → cond b (Some x) None ≡ Some y → b ≡ true
gate true x y is = refl
gate false x y is = absurd (cc is)

-- the ways of the moves before the record, from before its word
abbrev pub last_ways : Record → List Bool
last_ways (records.Fall at) = false ∷ []
last_ways (records.Taken at) = true ∷ []
last_ways (records.Value at value) = []
last_ways (records.Landing at target values) = []
last_ways (records.End at kind detail) = []

no_ways : (rec : Record) → last_moves rec ≡ Tell rec ∷ [] → [] ≡ last_ways rec
no_ways (records.Fall at) is = absurd (cc is)
no_ways (records.Taken at) is = absurd (cc is)
no_ways (records.Value at value) is = refl
no_ways (records.Landing at target values) is = refl
no_ways (records.End at kind detail) is = refl

one_way : (rec : Record) (taken : Bool) → last_moves rec ≡ Quiet taken ∷ Tell rec ∷ [] → taken ∷ [] ≡ last_ways rec
one_way (records.Fall at) true is = absurd (cc is)
one_way (records.Fall at) false is = refl
one_way (records.Taken at) true is = refl
one_way (records.Taken at) false is = absurd (cc is)
one_way (records.Value at value) taken is = absurd (cc is)
one_way (records.Landing at target values) taken is = absurd (cc is)
one_way (records.End at kind detail) taken is = absurd (cc is)

-- the record that a word gives is of its address
module _ (parts : SchemaParts) (at : ℕ) (word : SchemaWord) (registers : List ℕ) where
  pub told_here : (class : Class) (rec : Record) (moved : Moved) → move_by_class parts at word registers class (Tell rec) ≡ Some moved → (address_in rec ≡ at) × (last_moves rec ≡ Tell rec ∷ [])
  told_here Plain (records.Fall from) moved is = absurd (cc is)
  told_here Load (records.Fall from) moved is = absurd (cc is)
  told_here Store (records.Fall from) moved is = absurd (cc is)
  told_here Branch (records.Fall from) moved is = absurd (cc is)
  told_here Jump (records.Fall from) moved is = absurd (cc is)
  told_here Indirect (records.Fall from) moved is = absurd (cc is)
  told_here Call (records.Fall from) moved is = absurd (cc is)
  told_here Stop (records.Fall from) moved is = absurd (cc is)
  told_here Plain (records.Taken from) moved is = absurd (cc is)
  told_here Load (records.Taken from) moved is = absurd (cc is)
  told_here Store (records.Taken from) moved is = absurd (cc is)
  told_here Branch (records.Taken from) moved is = absurd (cc is)
  told_here Jump (records.Taken from) moved is = absurd (cc is)
  told_here Indirect (records.Taken from) moved is = absurd (cc is)
  told_here Call (records.Taken from) moved is = absurd (cc is)
  told_here Stop (records.Taken from) moved is = absurd (cc is)
  told_here Plain (records.Value from value) moved is = absurd (cc is)
  told_here Load (records.Value from value) moved is = (eqb-true from at (and_parts (eqb from at) (is_kept word) (gate _ _ moved is)).0, refl)
  told_here Store (records.Value from value) moved is = absurd (cc is)
  told_here Branch (records.Value from value) moved is = absurd (cc is)
  told_here Jump (records.Value from value) moved is = absurd (cc is)
  told_here Indirect (records.Value from value) moved is = absurd (cc is)
  told_here Call (records.Value from value) moved is = (eqb-true from at (gate _ _ moved is), refl)
  told_here Stop (records.Value from value) moved is = absurd (cc is)
  told_here Plain (records.Landing from target values) moved is = absurd (cc is)
  told_here Load (records.Landing from target values) moved is = absurd (cc is)
  told_here Store (records.Landing from target values) moved is = absurd (cc is)
  told_here Branch (records.Landing from target values) moved is = absurd (cc is)
  told_here Jump (records.Landing from target values) moved is = absurd (cc is)
  told_here Indirect (records.Landing from target values) moved is = (eqb-true from at (and_parts (eqb from at) (target % 2 == 0) (and_parts ((eqb from at) && (target % 2 == 0)) (length values == value_count (schema_shape parts) target) (gate _ _ moved is)).0).0, refl)
  told_here Call (records.Landing from target values) moved is = absurd (cc is)
  told_here Stop (records.Landing from target values) moved is = absurd (cc is)
  told_here Plain (records.End from kind detail) moved is = absurd (cc is)
  told_here Load (records.End from kind detail) moved is = (eqb-true from at (and_parts (eqb from at) (may_end (meaning_of word.raw) registers kind detail) (gate _ _ moved is)).0, refl)
  told_here Store (records.End from kind detail) moved is = (eqb-true from at (and_parts (eqb from at) (may_end (meaning_of word.raw) registers kind detail) (gate _ _ moved is)).0, refl)
  told_here Branch (records.End from kind detail) moved is = absurd (cc is)
  told_here Jump (records.End from kind detail) moved is = absurd (cc is)
  told_here Indirect (records.End from kind detail) moved is = absurd (cc is)
  told_here Call (records.End from kind detail) moved is = (eqb-true from at (and_parts (eqb from at) (may_end (meaning_of word.raw) registers kind detail) (gate _ _ moved is)).0, refl)
  told_here Stop (records.End from kind detail) moved is = (eqb-true from at (and_parts (eqb from at) (may_end (meaning_of word.raw) registers kind detail) (gate _ _ moved is)).0, refl)

-- the record of an edge is of the address of the word before it
pub named_told : (at : ℕ) (taken marked : Bool) (rec : Record) → names_edge at taken marked (Tell rec) ≡ true → (address_in rec ≡ at) × (last_moves rec ≡ Quiet taken ∷ Tell rec ∷ [])
named_told at true true (records.Fall from) is = absurd (cc is)
named_told at true true (records.Taken from) is = (eqb-true from at is, refl)
named_told at true true (records.Value from value) is = absurd (cc is)
named_told at true true (records.Landing from target values) is = absurd (cc is)
named_told at true true (records.End from kind detail) is = absurd (cc is)
named_told at true false (records.Fall from) is = absurd (cc is)
named_told at true false (records.Taken from) is = absurd (cc is)
named_told at true false (records.Value from value) is = absurd (cc is)
named_told at true false (records.Landing from target values) is = absurd (cc is)
named_told at true false (records.End from kind detail) is = absurd (cc is)
named_told at false true (records.Fall from) is = (eqb-true from at is, refl)
named_told at false true (records.Taken from) is = absurd (cc is)
named_told at false true (records.Value from value) is = absurd (cc is)
named_told at false true (records.Landing from target values) is = absurd (cc is)
named_told at false true (records.End from kind detail) is = absurd (cc is)
named_told at false false (records.Fall from) is = absurd (cc is)
named_told at false false (records.Taken from) is = absurd (cc is)
named_told at false false (records.Value from value) is = absurd (cc is)
named_told at false false (records.Landing from target values) is = absurd (cc is)
named_told at false false (records.End from kind detail) is = absurd (cc is)

pub quiet_named : (at : ℕ) (taken marked way : Bool) → names_edge at taken marked (Quiet way) ≡ true → (marked ≡ false) × (way ≡ taken)
quiet_named at true true way is = absurd (cc is)
quiet_named at false true way is = absurd (cc is)
quiet_named at true false true is = (refl, refl)
quiet_named at true false false is = absurd (cc is)
quiet_named at false false true is = absurd (cc is)
quiet_named at false false false is = (refl, refl)

over_there : (b : Bool) (f : ℕ → Moved) (way : Option ℕ) (moved : Moved) → cond b (option_map f way) None ≡ Some moved → (b ≡ true) × (target : ℕ) × (way ≡ Some target)
over_there false f way moved is = absurd (cc is)
over_there true f None moved is = absurd (cc is)
over_there true f (Some target) moved is = (refl, target, refl)

module _ (parts : SchemaParts) (valid : IsSchema parts) (spot : Spot) (there : IsSpot parts spot) (met : Met) (is : IsMet parts spot.address met) where
  -- a word that goes on without a record is then before the edge of its way
  quiet_first : (taken : Bool) (registers : List ℕ) (labels : List Label) (moved : Moved) → walk_from parts (Before spot.address) registers (Quiet taken ∷ labels) ≡ Some moved
      → (goes_quietly (is_kept met.word) taken met.class ≡ true) × (now : List ℕ) × (rest : Moved) × (walk_from parts (After spot.address taken) now labels ≡ Some rest)
  quiet_first taken registers labels moved walked =
      let b = first_move parts (Before spot.address) registers (Quiet taken) labels moved walked in
      let made : move_by_class parts spot.address met.word registers met.class (Quiet taken) ≡ Some b.first = sym (move_before parts spot.address met registers (Quiet taken) is) ∙ b.made in
      elim (cases_Bool (goes_quietly (is_kept met.word) taken met.class)) [
        | inl quiet ↦
            let s = quiet_some parts spot.address met.word registers met.class taken quiet in
            let same : s.moved ≡ b.first = (let both : Some s.moved ≡ Some b.first = sym s.is ∙ made in cc) in
            (quiet, b.first.registers, b.rest, subst (λ (p : Position). walk_from parts p b.first.registers labels ≡ Some b.rest) (ap (λ (m : Moved). m.position) (sym same) ∙ s.position) b.behind)
        | inr loud ↦ absurd (let clash : None ≡ Some b.first = sym (quiet_none parts spot.address met.word registers met.class taken loud) ∙ made in cc)
      ]

  pub edge_first : (taken : Bool) (registers : List ℕ) (label : Label) (labels : List Label) (moved : Moved) → walk_from parts (After spot.address taken) registers (label ∷ labels) ≡ Some moved
      → (names_edge spot.address taken (is_set (witness_mark taken) met.word.flags) label ≡ true) × (target : ℕ) × (way_of taken met.class met.word.raw spot.address ≡ Some target)
  edge_first taken registers label labels moved walked =
      let b = first_move parts (After spot.address taken) registers label labels moved walked in
      over_there (names_edge spot.address taken (is_set (witness_mark taken) met.word.flags) label) (λ target. record { items = []; position = placed_at parts target; registers = registers })
      (way_of taken met.class met.word.raw spot.address) b.first (sym (move_after parts spot.address met taken registers label is) ∙ b.made)

  -- two moves without a record
  step_of : (taken way : Bool) (registers : List ℕ) (labels : List Label) (moved : Moved) → walk_from parts (Before spot.address) registers (Quiet taken ∷ Quiet way ∷ labels) ≡ Some moved
      → (way ≡ taken) × (place : ℕ) × QuietStep parts spot.address met taken place
  step_of taken way registers labels moved walked =
      let f = quiet_first taken registers (Quiet way ∷ labels) moved walked in
      let e = edge_first taken f.1 (Quiet way) labels f.2 f.3 in
      let n = quiet_named spot.address taken (is_set (witness_mark taken) met.word.flags) way e.0 in
      let code = is_some-place_of parts.stretches e.1 valid.stretches.extents.each ∙ is.inner taken e.1 e.2 n.0 in
      let to = some_there (place_of parts.stretches e.1) code in
      (n.1, to.0, record { quiet = f.0; free = n.0; target = e.1; way = e.2; to = to.1 })

  -- the record of the word, or of the edge behind it
  last_here : (registers : List ℕ) (rec : Record) (moved : Moved) → walk_from parts (Before spot.address) registers (Tell rec ∷ []) ≡ Some moved
      → (address_in rec ≡ spot.address) × (may_tell parts spot.address registers rec ≡ true) × ([] ≡ last_ways rec)
  last_here registers rec moved walked =
      let b = first_move parts (Before spot.address) registers (Tell rec) [] moved walked in
      let t = told_here parts spot.address met.word registers met.class rec b.first (sym (move_before parts spot.address met registers (Tell rec) is) ∙ b.made) in
      (t.0, ap (λ (labels : List Label). is_some (walk_from parts (Before spot.address) registers labels)) t.1 ∙ ap is_some walked, no_ways rec t.1)

  last_edge : (taken : Bool) (registers : List ℕ) (rec : Record) (moved : Moved) → walk_from parts (Before spot.address) registers (Quiet taken ∷ Tell rec ∷ []) ≡ Some moved
      → (address_in rec ≡ spot.address) × (may_tell parts spot.address registers rec ≡ true) × (taken ∷ [] ≡ last_ways rec)
  last_edge taken registers rec moved walked =
      let f = quiet_first taken registers (Tell rec ∷ []) moved walked in
      let e = edge_first taken f.1 (Tell rec) [] f.2 f.3 in
      let t = named_told spot.address taken (is_set (witness_mark taken) met.word.flags) rec e.0 in
      (t.0, ap (λ (labels : List Label). is_some (walk_from parts (Before spot.address) registers labels)) t.1 ∙ ap is_some walked, one_way rec taken t.1)

-- a walk along arcs to the word of the record, which may then give it
pub record Reaches (parts : SchemaParts) (from : Spot) (registers : List ℕ) (rec : Record) (turns : List Bool) : Type 0 where
  pub goal : Spot
  pub spot : IsSpot parts goal
  pub address : address_in rec ≡ goal.address
  pub walk : List Arc
  pub walks : IsWalk (IsAmong (quiet_arcs parts)) from.place goal.place walk
  pub there : List ℕ
  pub items : List Item
  pub goes : GoesAlong parts walk from.address goal.address registers there items
  pub may : may_tell parts goal.address there rec ≡ true
  pub turned : turns ≡ ways_along walk ++ last_ways rec

module _ (parts : SchemaParts) (valid : IsSchema parts) (rec : Record) where
  at_once : (turns : List Bool) (from : Spot) → IsSpot parts from → (registers : List ℕ) → (address_in rec ≡ from.address) × (may_tell parts from.address registers rec ≡ true) × (turns ≡ last_ways rec)
      → Reaches parts from registers rec turns
  at_once turns from there registers last =
      record {
        goal = from;
        spot = there;
        address = last.0;
        walk = [];
        walks = record { within = λ arc none. absurd none; trail = refl };
        there = registers;
        items = [];
        goes = refl;
        may = last.1;
        turned = last.2;
      }

  over_arc : (turns : List Bool) (from : Spot) → IsSpot parts from → (met : Met) → IsMet parts from.address met → (registers now : List ℕ) (items : List Item) (taken : Bool) (place : ℕ)
      (q : QuietStep parts from.address met taken place) → walk_from parts (Before from.address) registers (Quiet taken ∷ Quiet taken ∷ []) ≡ Some (record { items = items; position = Before q.target; registers = now })
      → Reaches parts (record { address = q.target; place = place }) now rec turns → Reaches parts from registers rec (taken ∷ taken ∷ turns)
  over_arc turns from there met is registers now items taken place q over r =
      let arc : Arc = record { from = from.place; to = place; kind = kind_number taken } in
      record {
        goal = r.goal;
        spot = r.spot;
        address = r.address;
        walk = arc ∷ r.walk;
        walks = record {
          within = λ a among. elim among [ inl same ↦ subst (IsAmong (quiet_arcs parts)) (sym same) (is_arc parts valid from there met is taken place q) | inr behind ↦ r.walks.within a behind ];
          trail = (place, (refl, refl), r.walks.trail);
        };
        there = r.there;
        items = items ++ r.items;
        goes =
            ap (λ (t : Bool). walk_from parts (Before from.address) registers (Quiet t ∷ Quiet t ∷ map Quiet (ways_along r.walk))) (kind_is taken (kind_number taken) refl)
            ∙ walk_both parts (Before from.address) registers (Quiet taken ∷ Quiet taken ∷ []) (map Quiet (ways_along r.walk)) (record { items = items; position = Before q.target; registers = now })
            (record { items = r.items; position = Before r.goal.address; registers = r.there }) over r.goes;
        may = r.may;
        turned =
            ap (λ (list : List Bool). taken ∷ taken ∷ list) r.turned
            ∙ ap (λ (t : Bool). t ∷ t ∷ (ways_along r.walk ++ last_ways rec)) (sym (kind_is taken (kind_number taken) refl));
      }

  pub reaches : (turns : List Bool) (from : Spot) → IsSpot parts from → (registers : List ℕ) (moved : Moved) → walk_from parts (Before from.address) registers (moves_to turns rec) ≡ Some moved
      → Reaches parts from registers rec turns
  reaches [] from there registers moved walked =
      let m = met_of parts valid from there in
      at_once [] from there registers (last_here parts valid from there m.0 m.1 registers rec moved walked)
  reaches (taken ∷ []) from there registers moved walked =
      let m = met_of parts valid from there in
      at_once (taken ∷ []) from there registers (last_edge parts valid from there m.0 m.1 taken registers rec moved walked)
  reaches (taken ∷ way ∷ turns) from there registers moved walked =
      let m = met_of parts valid from there in
      let s = step_of parts valid from there m.0 m.1 taken way registers (moves_to turns rec) moved walked in
      let q = s.2 in
      let over = goes_over parts valid from there m.0 m.1 taken s.1 q registers in
      let first : Moved = record { items = over.0; position = Before q.target; registers = over.1 } in
      let all : walk_from parts (Before from.address) registers ((Quiet taken ∷ Quiet taken ∷ []) ++ moves_to turns rec) ≡ Some moved =
      subst (λ (w : Bool). walk_from parts (Before from.address) registers (Quiet taken ∷ Quiet w ∷ moves_to turns rec) ≡ Some moved) s.0 walked
      in
      let rest = walk_rest parts (Quiet taken ∷ Quiet taken ∷ []) (moves_to turns rec) (Before from.address) registers moved first all over.2 in
      subst (λ (w : Bool). Reaches parts from registers rec (taken ∷ w ∷ turns)) (sym s.0)
      (over_arc turns from there m.0 m.1 registers over.1 over.0 taken s.1 q over.2 (reaches turns (record { address = q.target; place = s.1 }) q.to over.1 rest.0 rest.1))
