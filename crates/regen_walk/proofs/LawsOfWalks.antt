-- Laws of walks that grow record by record. They have no code, and proofs of every crate may cite them.
use Rattle.std.proofs.Common.{◌≡◌, Bool, List, [], ◌∷◌, ◌++◌, append_assoc, Some, refl, sym, ap, subst, ◌∙◌, arith}
use Rattle.std.specs.Prelude.{IsSome, is_some}
use Rattle.rv_machine.specs.Start.{first_registers}
use Rattle.ev_format.specs.declared.record.Record.{Record}
use Rattle.schema_form.specs.SchemaParts.{SchemaParts}
use Rattle.schema_form.specs.Valid.{IsSchema}
use Rattle.regen_walk.specs.declared.position.Position.TheVariants.{Before}
use Rattle.regen_walk.specs.Labels.{Label, Quiet, Tell, moves_to, records_in}
use Rattle.regen_walk.specs.Laws.{quiet_before, up_to_last}
use Rattle.regen_walk.specs.Moves.{Moved}
use Rattle.regen_walk.specs.Promises.{Tells}
use Rattle.regen_walk.specs.Walks.{AreItemsOf, Explains, IsExplained, IsShortest, behind_items, walk_from, walk_of}
use Rattle.regen_walk.proofs.OneWalk.{front_made, parted, same_walk, up_to_both}
use Rattle.regen_walk.proofs.ShortestWalk.{ends_there, shortest_up}
use Rattle.regen_walk.proofs.Towards.{walk_both}

-- what comes of the shortest walk with these records
pub record IsAfter (parts : SchemaParts) (records : List Record) (moved : Moved) : Type 0 where
  pub labels : List Label
  pub shortest : IsShortest parts records labels
  pub made : walk_of parts labels ≡ Some moved

records_both : (one other : List Label) → records_in (one ++ other) ≡ records_in one ++ records_in other
records_both [] other = refl
records_both (Quiet taken ∷ one) other = records_both one other
records_both (Tell rec ∷ one) other = ap (λ (records : List Record). rec ∷ records) (records_both one other)

one_record : (ways : List Bool) (rec : Record) → records_in (moves_to ways rec) ≡ rec ∷ []
one_record [] rec = refl
one_record (taken ∷ ways) rec = one_record ways rec

quiet_stays : (taken : Bool) (labels : List Label) (ways : List Bool) (rec : Record) → quiet_before taken (labels ++ moves_to ways rec) ≡ Quiet taken ∷ (labels ++ moves_to ways rec)
quiet_stays taken [] [] rec = refl
quiet_stays taken [] (way ∷ ways) rec = refl
quiet_stays taken (label ∷ labels) ways rec = refl

whole : (ways : List Bool) (rec : Record) → up_to_last (moves_to ways rec) ≡ moves_to ways rec
whole [] rec = refl
whole (taken ∷ ways) rec = ap (quiet_before taken) (whole ways rec) ∙ quiet_stays taken [] ways rec

-- what ends with a record goes no further
up_to_end : (labels : List Label) (ways : List Bool) (rec : Record) → up_to_last (labels ++ moves_to ways rec) ≡ labels ++ moves_to ways rec
up_to_end [] ways rec = whole ways rec
up_to_end (Quiet taken ∷ labels) ways rec = ap (quiet_before taken) (up_to_end labels ways rec) ∙ quiet_stays taken labels ways rec
up_to_end (Tell first ∷ labels) ways rec = ap (λ (list : List Label). Tell first ∷ list) (up_to_end labels ways rec)

-- the front of a walk that has the first of its records, and ends with the last of these
record CutAt (labels : List Label) (records more : List Record) : Type 0 where
  pub front : List Label
  pub behind : List Label
  pub all : labels ≡ front ++ behind
  pub told : records_in front ≡ records
  pub left : records_in behind ≡ more
  pub ends : up_to_last front ≡ front

cut_at : (records more : List Record) (labels : List Label) → records_in labels ≡ records ++ more → CutAt labels records more
cut_at [] more labels is = record { front = []; behind = labels; all = refl; told = refl; left = is; ends = refl }
cut_at (rec ∷ records) more labels is =
    let p = parted labels rec (records ++ more) is in
    let c = cut_at records more p.rest p.told in
    record {
      front = moves_to p.ways rec ++ c.front;
      behind = c.behind;
      all = p.all ∙ ap (λ (rest : List Label). moves_to p.ways rec ++ rest) c.all ∙ sym (append_assoc (moves_to p.ways rec) c.front c.behind);
      told =
          records_both (moves_to p.ways rec) c.front
          ∙ ap (λ (first : List Record). first ++ records_in c.front) (one_record p.ways rec)
          ∙ ap (λ (rest : List Record). rec ∷ rest) c.told;
      left = c.left;
      ends = up_to_both p.ways rec c.front ∙ ap (λ (rest : List Label). moves_to p.ways rec ++ rest) c.ends;
    }

-- a walk with all of some records begins with one with the first of them
pub front_explained : (parts : SchemaParts) (records more : List Record) → IsExplained parts (records ++ more) → IsExplained parts records
front_explained parts records more explained =
    let c = cut_at records more explained.0 explained.1.told in
    let f = front_made parts c.front c.behind (Before parts.entry) first_registers (subst (λ (labels : List Label). IsSome (walk_of parts labels)) c.all explained.1.made) in
    (c.front, record { made = ap is_some f.1; told = c.told })

-- before any record
pub IsAfter-none : (parts : SchemaParts) → IsAfter parts [] (record { items = []; position = Before parts.entry; registers = first_registers })
IsAfter-none parts =
    record {
      labels = [];
      shortest = record { explains = record { made = refl; told = refl }; least = λ other explains. omega arith };
      made = refl;
    }

module _ (parts : SchemaParts) (valid : IsSchema parts) (records : List Record) (moved : Moved) (after : IsAfter parts records moved) (rec : Record) where
  -- moves that end with one more record
  pub IsAfter-more : (next : Moved) → Tells parts moved.position moved.registers rec next → IsAfter parts (records ++ rec ∷ []) (behind_items moved.items next)
  IsAfter-more next tells =
      let labels : List Label = after.labels ++ moves_to tells.ways rec in
      let made : walk_of parts labels ≡ Some (behind_items moved.items next) =
      walk_both parts (Before parts.entry) first_registers after.labels (moves_to tells.ways rec) moved next after.made tells.made
      in
      let explains : Explains parts (records ++ rec ∷ []) labels =
      record {
        made = ap is_some made;
        told =
            records_both after.labels (moves_to tells.ways rec)
            ∙ ap (λ (list : List Record). list ++ records_in (moves_to tells.ways rec)) after.shortest.explains.told
            ∙ ap (λ (list : List Record). records ++ list) (one_record tells.ways rec);
      }
      in
      record {
        labels = labels;
        shortest = subst (IsShortest parts (records ++ rec ∷ [])) (up_to_end after.labels tells.ways rec) (shortest_up parts valid (records ++ rec ∷ []) labels explains);
        made = made;
      }

  -- where some walk has one more record, moves from here end with it
  pub IsAfter-explained : (more : List Record) → IsExplained parts (records ++ rec ∷ more) → (next : Moved) × Tells parts moved.position moved.registers rec next
  IsAfter-explained more explained =
      let c = cut_at records (rec ∷ more) explained.0 explained.1.told in
      let f = front_made parts c.front c.behind (Before parts.entry) first_registers (subst (λ (labels : List Label). IsSome (walk_of parts labels)) c.all explained.1.made) in
      let front : c.front ≡ after.labels =
      sym c.ends ∙ same_walk parts valid records c.front after.labels (record { made = ap is_some f.1; told = c.told }) after.shortest.explains ∙ sym (ends_there parts records after.labels after.shortest)
      in
      let there : f.0 ≡ moved = (let both : Some f.0 ≡ Some moved = sym f.1 ∙ ap (walk_of parts) front ∙ after.made in cc) in
      let p = parted c.behind rec more c.left in
      let n =
      front_made parts (moves_to p.ways rec) p.rest moved.position moved.registers
      (subst (λ (m : Moved). IsSome (walk_from parts m.position m.registers (moves_to p.ways rec ++ p.rest))) there (subst (λ (labels : List Label). IsSome (walk_from parts f.0.position f.0.registers labels)) p.all f.2))
      in
      (n.0, record { ways = p.ways; made = n.1 })

-- the items of the records so far
pub IsAfter-items : (parts : SchemaParts) (records : List Record) (moved : Moved) → IsAfter parts records moved → AreItemsOf parts records moved.items
IsAfter-items parts records moved after = record { labels = after.labels; shortest = after.shortest; moved = moved; made = after.made; items_of = refl }
