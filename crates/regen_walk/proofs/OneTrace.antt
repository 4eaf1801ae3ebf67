-- What the bytes of an event file give back is one list of items, and one reason why there are no more.
use Rattle.std.proofs.Common.{◌≡◌, ◌⊎◌, inl, inr, ℕ, List, [], ◌∷◌, ◌++◌, refl, sym, ap, ◌∙◌, subst}
use Rattle.std.proofs.lemmas.List.{append_assoc, map-append}
use Rattle.ae_nums.specs.declared.item.Item.{Item}
use Rattle.ev_format.specs.declared.place.Place.TheVariants.{Start}
use Rattle.ev_format.specs.declared.record.Record.{Record}
use Rattle.ev_format.proofs.LawsOfReadings.{one_reading, one_front, front_of_reading}
use Rattle.schema_form.specs.LookUps.{schema_shape}
use Rattle.schema_form.specs.SchemaParts.{SchemaParts}
use Rattle.schema_form.specs.Valid.{IsSchema}
use Rattle.schema_form.proofs.LawsOfSchemaWords.{schema_is_shape}
use Rattle.regen_walk.specs.declared.replaying.Halted.TheVariants.{Read, Astray}
use Rattle.regen_walk.specs.Laws.{OneIsRegenerated}
use Rattle.regen_walk.specs.Regenerated.{GoesAstray, without_offsets}
use Rattle.regen_walk.specs.Walks.{AreItemsOf, IsExplained}
use Rattle.regen_walk.proofs.ShortestWalk.{one_items}

-- records that have items are explained
explained_of : (parts : SchemaParts) (records : List Record) (items : List Item) → AreItemsOf parts records items → IsExplained parts records
explained_of parts records items are = (are.labels, are.shortest.explains)

-- a record that isn't explained with those before it isn't among explained ones behind them
never_among : (parts : SchemaParts) (bytes : List ℕ) (offset : ℕ) (items others : List Item) (astray : GoesAstray parts bytes offset items) (records more : List (ℕ × Record))
    → records ≡ (astray.records ++ (offset, astray.rec) ∷ []) ++ more → AreItemsOf parts (without_offsets records) others → ⊥
never_among parts bytes offset items others astray records more is are =
    let same : without_offsets records ≡ without_offsets astray.records ++ astray.rec ∷ without_offsets more =
    ap without_offsets (is ∙ append_assoc astray.records ((offset, astray.rec) ∷ []) more) ∙ map-append (λ (one : ℕ × Record). one.1) astray.records ((offset, astray.rec) ∷ more)
    in
    astray.unexplained (without_offsets more) (subst (IsExplained parts) same (explained_of parts (without_offsets records) others are))

-- a list with one element more begins another such list: they are the same, or it begins the other's front
last_of : {X : Type 0} (xs ys more : List X) (x y : X) → ys ++ y ∷ [] ≡ (xs ++ x ∷ []) ++ more → ((xs ≡ ys) × (x ≡ y)) ⊎ ((rest : List X) × (ys ≡ (xs ++ x ∷ []) ++ rest))
last_of [] [] more x y is = inl (refl, cc)
last_of [] (second ∷ ys) more x y is = inr (ys, cc)
last_of (first ∷ []) [] more x y is = absurd (cc is)
last_of (first ∷ next ∷ xs) [] more x y is = absurd (cc is)
last_of (first ∷ xs) (second ∷ ys) more x y is =
    let head : second ≡ first = cc is in
    let tail : ys ++ y ∷ [] ≡ (xs ++ x ∷ []) ++ more = cc is in
    elim (last_of xs ys more x y tail) [
      | inl same ↦ inl (cc (head, same.0), same.1)
      | inr behind ↦ inr (behind.0, cc (head, behind.1))
    ]

module _ (parts : SchemaParts) (valid : IsSchema parts) (bytes : List ℕ) where
  -- the items of the same records
  same_items : (records again : List (ℕ × Record)) (items others : List Item) → records ≡ again → AreItemsOf parts (without_offsets records) items → AreItemsOf parts (without_offsets again) others
      → items ≡ others
  same_items records again items others same are also =
      one_items parts valid (without_offsets records) items others are (subst (λ (l : List (ℕ × Record)). AreItemsOf parts (without_offsets l) others) (sym same) also)

  -- two records that are the first that isn't explained, where what is up to the one begins what is up to the other
  one_astray : (offset other : ℕ) (items others : List Item) (one : GoesAstray parts bytes offset items) (two : GoesAstray parts bytes other others) (more : List (ℕ × Record))
      → two.records ++ (other, two.rec) ∷ [] ≡ (one.records ++ (offset, one.rec) ∷ []) ++ more → (offset ≡ other) × (items ≡ others)
  one_astray offset other items others one two more is = elim (last_of one.records two.records more (offset, one.rec) (other, two.rec) is) [
    | inl same ↦ (ap (λ (placed : ℕ × Record). placed.0) same.1, same_items one.records two.records items others same.0 one.items_of two.items_of)
    | inr behind ↦ absurd (never_among parts bytes offset items others one two.records behind.0 behind.1 two.items_of)
  ]

pub one_trace : OneIsRegenerated
one_trace parts valid bytes (Read stop) (Read other) items others one two =
    let same = one_reading (schema_shape parts) (schema_is_shape parts) Start bytes one.records two.records stop other one.reading two.reading in
    (ap Read same.1, same_items parts valid bytes one.records two.records items others same.0 one.items_of two.items_of)
one_trace parts valid bytes (Read stop) (Astray offset) items others one two =
    let front = front_of_reading (schema_shape parts) (schema_is_shape parts) Start bytes one.records (two.records ++ (offset, two.rec) ∷ []) stop one.reading two.begins in
    absurd (never_among parts bytes offset others items two one.records front.0 front.1 one.items_of)
one_trace parts valid bytes (Astray offset) (Read stop) items others one two =
    let front = front_of_reading (schema_shape parts) (schema_is_shape parts) Start bytes two.records (one.records ++ (offset, one.rec) ∷ []) stop two.reading one.begins in
    absurd (never_among parts bytes offset items others one two.records front.0 front.1 two.items_of)
one_trace parts valid bytes (Astray offset) (Astray other) items others one two =
    elim (one_front (schema_shape parts) (schema_is_shape parts) Start bytes (one.records ++ (offset, one.rec) ∷ []) (two.records ++ (other, two.rec) ∷ []) one.begins two.begins) [
      | inl more ↦ let same = one_astray parts valid bytes offset other items others one two more.0 more.1 in (ap Astray same.0, same.1)
      | inr more ↦ let same = one_astray parts valid bytes other offset others items two one more.0 more.1 in (ap Astray (sym same.0), sym same.1)
    ]
