-- The shortest walk with its records ends with the last of them.
use Rattle.std.proofs.Common.{◌≡◌, ◌≤◌, Bool, List, [], ◌∷◌, ◌++◌, length, Some, refl, sym, ap, subst, ◌∙◌, arith}
use Rattle.std.specs.Prelude.{IsSome, is_some}
use Rattle.std.proofs.lemmas.List.{append-nil, length-append}
use Rattle.rv_code.proofs.LawsOfTests.{some_there}
use Rattle.ae_nums.specs.declared.item.Item.{Item}
use Rattle.rv_machine.specs.Start.{first_registers}
use Rattle.ev_format.specs.declared.record.Record.{Record}
use Rattle.schema_form.specs.SchemaParts.{SchemaParts}
use Rattle.schema_form.specs.Valid.{IsSchema}
use Rattle.regen_walk.specs.declared.position.Position.TheVariants.{Before}
use Rattle.regen_walk.specs.Labels.{Label, Quiet, Tell, records_in}
use Rattle.regen_walk.specs.Laws.{ExplainedHaveItems, HaveItems, ShortestEndsWithRecord, quiet_before, up_to_last}
use Rattle.regen_walk.specs.Moves.{Moved}
use Rattle.regen_walk.specs.Walks.{AreItemsOf, Explains, IsExplained, IsShortest, walk_of}
use Rattle.regen_walk.proofs.OneWalk.{front_made, same_walk}

-- what is behind the last record
pub record Tailed (labels up : List Label) : Type 0 where
  pub tail : List Label
  pub all : labels ≡ up ++ tail

quiet_tail : (taken : Bool) (labels up : List Label) → Tailed labels up → Tailed (Quiet taken ∷ labels) (quiet_before taken up)
quiet_tail taken labels [] t = record { tail = Quiet taken ∷ t.tail; all = ap (λ (list : List Label). Quiet taken ∷ list) t.all }
quiet_tail taken labels (label ∷ up) t = record { tail = t.tail; all = ap (λ (list : List Label). Quiet taken ∷ list) t.all }

tailed : (labels : List Label) → Tailed labels (up_to_last labels)
tailed [] = record { tail = []; all = refl }
tailed (Quiet taken ∷ labels) = quiet_tail taken labels (up_to_last labels) (tailed labels)
tailed (Tell rec ∷ labels) = let t = tailed labels in record { tail = t.tail; all = ap (λ (list : List Label). Tell rec ∷ list) t.all }

quiet_records : (taken : Bool) (labels : List Label) → records_in (quiet_before taken labels) ≡ records_in labels
quiet_records taken [] = refl
quiet_records taken (label ∷ labels) = refl

same_records : (labels : List Label) → records_in (up_to_last labels) ≡ records_in labels
same_records [] = refl
same_records (Quiet taken ∷ labels) = quiet_records taken (up_to_last labels) ∙ same_records labels
same_records (Tell rec ∷ labels) = ap (λ (records : List Record). rec ∷ records) (same_records labels)

no_longer : (labels : List Label) → length (up_to_last labels) ≤ length labels
no_longer labels =
    let t = tailed labels in
    let long = ap length t.all in
    let both = length-append (up_to_last labels) t.tail in
    omega (arith, long, both)

explains_up : (parts : SchemaParts) (records : List Record) (labels : List Label) → Explains parts records labels → Explains parts records (up_to_last labels)
explains_up parts records labels explains =
    let t = tailed labels in
    let made : IsSome (walk_of parts (up_to_last labels ++ t.tail)) = subst (λ (list : List Label). IsSome (walk_of parts list)) t.all explains.made in
    record {
      made = ap is_some (front_made parts (up_to_last labels) t.tail (Before parts.entry) first_registers made).1;
      told = same_records labels ∙ explains.told;
    }

pub shortest_up : ShortestEndsWithRecord
shortest_up parts valid records labels explains =
    record {
      explains = explains_up parts records labels explains;
      least = λ other also.
          let same = ap length (same_walk parts valid records labels other explains also) in
          let few = no_longer other in
          omega (arith, same, few);
    }

no_tail : (tail : List Label) → length tail ≡ 0 → tail ≡ []
no_tail [] is = refl
no_tail (label ∷ tail) is = absurd (omega (arith, is))

-- a shortest walk goes no further than the last record
pub ends_there : (parts : SchemaParts) (records : List Record) (labels : List Label) → IsShortest parts records labels → labels ≡ up_to_last labels
ends_there parts records labels shortest =
    let t = tailed labels in
    let long = ap length t.all in
    let both = length-append (up_to_last labels) t.tail in
    let least = shortest.least (up_to_last labels) (explains_up parts records labels shortest.explains) in
    let none : length t.tail ≡ 0 = omega (arith, long, both, least) in
    t.all ∙ ap (λ (tail : List Label). up_to_last labels ++ tail) (no_tail t.tail none) ∙ append-nil (up_to_last labels)

module _ (parts : SchemaParts) (valid : IsSchema parts) (records : List Record) where
  pub one_items : (one other : List Item) → AreItemsOf parts records one → AreItemsOf parts records other → one ≡ other
  one_items one other are also =
      let labels : are.labels ≡ also.labels =
      ends_there parts records are.labels are.shortest ∙ same_walk parts valid records are.labels also.labels are.shortest.explains also.shortest.explains
      ∙ sym (ends_there parts records also.labels also.shortest)
      in
      let moved : are.moved ≡ also.moved = (let both : Some are.moved ≡ Some also.moved = sym are.made ∙ ap (walk_of parts) labels ∙ also.made in cc) in
      are.items_of ∙ ap (λ (m : Moved). m.items) moved ∙ sym also.items_of

  has_items : IsExplained parts records → HaveItems parts records
  has_items explained =
      let shortest = shortest_up parts valid records explained.0 explained.1 in
      let moved = some_there (walk_of parts (up_to_last explained.0)) shortest.explains.made in
      let are : AreItemsOf parts records moved.0.items = record { labels = up_to_last explained.0; shortest = shortest; moved = moved.0; made = moved.1; items_of = refl } in
      record { items = moved.0.items; are = are; only = λ other also. one_items other moved.0.items also are }

pub explained_items : ExplainedHaveItems
explained_items parts valid records explained = has_items parts valid records explained
