-- The items of the records that were read so far.
use Rattle.std.proofs.Common.{◌≡◌, ℕ, ◌+◌, List, [], ◌∷◌, ◌++◌, length, take, refl, sym, subst}
use Rattle.std.proofs.lemmas.List.{map-append}
use Rattle.std.proofs.Math.Seq.{take-append-add}
use Rattle.ae_nums.specs.declared.item.Item.{Item}
use Rattle.rv_machine.specs.Start.{first_registers}
use Rattle.ev_format.specs.declared.place.Place.{Place}
use Rattle.ev_format.specs.declared.place.Place.TheVariants.{Start}
use Rattle.ev_format.specs.declared.record.Record.{Record}
use Rattle.ev_format.specs.declared.stop.Stop.{Stop}
use Rattle.ev_format.specs.Reading.{ReadsOne, ReadsTo, StopsWith, place_behind}
use Rattle.ev_format.proofs.LawsOfReadings.{begins, reads_all, reads_one_more}
use Rattle.schema_form.specs.LookUps.{schema_shape}
use Rattle.schema_form.specs.SchemaParts.{SchemaParts}
use Rattle.schema_form.specs.Valid.{IsSchema}
use Rattle.regen_walk.specs.declared.position.Position.{Position}
use Rattle.regen_walk.specs.declared.position.Position.TheVariants.{Before}
use Rattle.regen_walk.specs.Moves.{Moved}
use Rattle.regen_walk.specs.Promises.{IsAstray, IsBrokenOff, IsMoved, Tells}
use Rattle.regen_walk.specs.Regenerated.{AllExplained, BeginsItems, GoesAstray, without_offsets}
use Rattle.regen_walk.specs.Walks.{behind_items}
use Rattle.regen_walk.specs.WalkView.{WalkParts}
use Rattle.regen_walk.proofs.LawsOfWalks.{IsAfter, IsAfter-explained, IsAfter-items, IsAfter-more, IsAfter-none}

-- the records up to here were read, and the walk is behind the last of them
pub record HasReplayed (parts : SchemaParts) (bytes : List ℕ) (place : Place) (left : List ℕ) (walk : WalkParts) (took : List Item → Type 0) : Type 0 where
  pub records : List (ℕ × Record)
  pub reads : ReadsTo (schema_shape parts) Start bytes records place left
  pub moved : Moved
  pub after : IsAfter parts (without_offsets records) moved
  pub position : walk.position ≡ moved.position
  pub registers : walk.registers ≡ moved.registers
  pub given : took moved.items

-- before the first record
pub none_replayed : (parts : SchemaParts) (bytes : List ℕ) (walk : WalkParts) (took : List Item → Type 0) → walk.position ≡ Before parts.entry → walk.registers ≡ first_registers → took []
    → HasReplayed parts bytes Start bytes walk took
none_replayed parts bytes walk took position registers given = record {
  records = [];
  reads = (refl, refl);
  moved = record { items = []; position = Before parts.entry; registers = first_registers };
  after = IsAfter-none parts;
  position = position;
  registers = registers;
  given = given;
}

-- moves from where the walk stands
tells_there : (parts : SchemaParts) (walk : WalkParts) (moved : Moved) (rec : Record) (next : Moved) → walk.position ≡ moved.position → walk.registers ≡ moved.registers
    → Tells parts walk.position walk.registers rec next → Tells parts moved.position moved.registers rec next
tells_there parts walk moved rec next position registers tells =
    subst (λ (at : Position). Tells parts at moved.registers rec next) position
    (subst (λ (held : List ℕ). Tells parts walk.position held rec next) registers tells)

tells_here : (parts : SchemaParts) (walk : WalkParts) (moved : Moved) (rec : Record) (next : Moved) → walk.position ≡ moved.position → walk.registers ≡ moved.registers
    → Tells parts moved.position moved.registers rec next → Tells parts walk.position walk.registers rec next
tells_here parts walk moved rec next position registers tells =
    subst (λ (at : Position). Tells parts at walk.registers rec next) (sym position)
    (subst (λ (held : List ℕ). Tells parts moved.position held rec next) (sym registers) tells)

module _ (parts : SchemaParts) (valid : IsSchema parts) (bytes : List ℕ) (place : Place) (left rest : List ℕ) (walk : WalkParts) (took took_more took_all : List Item → Type 0) (join : (xs ys : List Item) → took xs → took_more ys → took_all (xs ++ ys)) (so_far : HasReplayed parts bytes place left walk took) (placed : ℕ × Record) (one : ReadsOne (schema_shape parts) place left rest placed) where
  -- the records with one more
  abbrev names : List (ℕ × Record)
  names = so_far.records ++ placed ∷ []

  one_more_name : without_offsets names ≡ without_offsets so_far.records ++ placed.1 ∷ []
  one_more_name = map-append (λ (first : ℕ × Record). first.1) so_far.records (placed ∷ [])

  read_more : ReadsTo (schema_shape parts) Start bytes names (place_behind placed.0 placed.1) rest
  read_more = reads_one_more (schema_shape parts) Start bytes so_far.records place left rest placed so_far.reads one

  after_more : (next : Moved) → Tells parts walk.position walk.registers placed.1 next → IsAfter parts (without_offsets names) (behind_items so_far.moved.items next)
  after_more next tells =
      subst (λ (records : List Record). IsAfter parts records (behind_items so_far.moved.items next)) (sym one_more_name)
      (IsAfter-more parts valid (without_offsets so_far.records) so_far.moved so_far.after placed.1 next
      (tells_there parts walk so_far.moved placed.1 next so_far.position so_far.registers tells))

  -- one record more
  pub one_replayed : (walk_now : WalkParts) (next : Moved) → Tells parts walk.position walk.registers placed.1 next → IsMoved took_more walk_now next
      → HasReplayed parts bytes (place_behind placed.0 placed.1) rest walk_now took_all
  one_replayed walk_now next tells moved = record {
    records = names;
    reads = read_more;
    moved = behind_items so_far.moved.items next;
    after = after_more next tells;
    position = moved.position;
    registers = moved.registers;
    given = join so_far.moved.items next.items so_far.given moved.given;
  }

  -- the taker failed at it
  pub broken_off : IsBrokenOff parts walk.position walk placed.1 took_more → BeginsItems parts bytes took_all
  broken_off broken =
      let items = so_far.moved.items in
      record {
        records = names;
        begins = begins (schema_shape parts) Start bytes names (place_behind placed.0 placed.1) rest read_more;
        items = items ++ broken.moved.items;
        items_of = IsAfter-items parts (without_offsets names) (behind_items items broken.moved) (after_more broken.moved broken.tells);
        count = length items + broken.front.0;
        front = subst took_all (sym (take-append-add items broken.moved.items broken.front.0)) (join items (take broken.front.0 broken.moved.items) so_far.given broken.front.2);
      }

  -- it is the first that isn't explained
  pub gone_astray : (walk_now : WalkParts) → IsAstray parts walk.position walk placed.1 walk_now → GoesAstray parts bytes placed.0 so_far.moved.items
  gone_astray walk_now astray = record {
    records = so_far.records;
    rec = placed.1;
    begins = begins (schema_shape parts) Start bytes names (place_behind placed.0 placed.1) rest read_more;
    items_of = IsAfter-items parts (without_offsets so_far.records) so_far.moved so_far.after;
    unexplained = λ more explained.
        let next = IsAfter-explained parts valid (without_offsets so_far.records) so_far.moved so_far.after placed.1 more explained in
        astray.none next.0 (tells_here parts walk so_far.moved placed.1 next.0 so_far.position so_far.registers next.1);
  }

-- reading stops
pub all_replayed : (parts : SchemaParts) (bytes : List ℕ) (place : Place) (left : List ℕ) (walk : WalkParts) (took : List Item → Type 0) (so_far : HasReplayed parts bytes place left walk took) (stop : Stop)
    → StopsWith (schema_shape parts) place left stop → AllExplained parts bytes stop so_far.moved.items
all_replayed parts bytes place left walk took so_far stop stops = record {
  records = so_far.records;
  reading = reads_all (schema_shape parts) Start bytes so_far.records place left stop so_far.reads stops;
  items_of = IsAfter-items parts (without_offsets so_far.records) so_far.moved so_far.after;
}
