-- What is written is read back.
use Rattle.std.proofs.Common.{◌≡◌, ℕ, inr, List, [], ◌∷◌, ◌++◌, refl, sym, ap, ◌∙◌, subst, append_assoc}
use Rattle.std.specs.List.{AllByRecursion, flat_map}
use Rattle.ev_format.specs.declared.kind.RecordKind.{RecordKind}
use Rattle.ev_format.specs.declared.kind.RecordKind.TheVariants as kinds
use Rattle.ev_format.specs.declared.place.Place.{Place}
use Rattle.ev_format.specs.declared.place.Place.TheVariants.{Start, Within, Ended}
use Rattle.ev_format.specs.declared.record.Record.{Record}
use Rattle.ev_format.specs.declared.stop.Stop.{Stop}
use Rattle.ev_format.specs.declared.stop.Stop.TheVariants.{Finished}
use Rattle.ev_format.specs.Laws.{EndsOnce, with_offsets, file_of_records}
use Rattle.ev_format.specs.Reading.{offset_behind, place_by, place_behind, Reading}
use Rattle.ev_format.specs.Shapes.{ShapeView, shape_header, HasRecord}
use Rattle.ev_format.specs.Spelling.{kind_in, record_bytes}

place_by-end : (kind : RecordKind) (offset : ℕ) → kind ≡ kinds.End → place_by kind offset ≡ Ended offset
place_by-end kind offset is = ap (λ (k : RecordKind). place_by k offset) is

place_by-other : (kind : RecordKind) (offset : ℕ) → (kind ≡ kinds.End → ⊥) → place_by kind offset ≡ Within offset
place_by-other kinds.Fall offset is_not = refl
place_by-other kinds.Taken offset is_not = refl
place_by-other kinds.Value offset is_not = refl
place_by-other kinds.Landing offset is_not = refl
place_by-other kinds.End offset is_not = absurd (is_not refl)

records_read : (shape : ShapeView) (offset : ℕ) (records : List Record) → AllByRecursion (HasRecord shape) records → EndsOnce records
    → Reading shape (Within offset) (flat_map record_bytes records) (with_offsets offset records) Finished
records_read shape offset [] all ends = absurd ends
records_read shape offset (rec ∷ []) all ends =
    let there : Reading shape (place_behind offset rec) [] [] Finished =
    subst (λ (place : Place). Reading shape place [] [] Finished) (sym (place_by-end (kind_in rec) (offset_behind offset (record_bytes rec)) ends)) refl in
    ([], (refl, all.0), refl, there)
records_read shape offset (rec ∷ next ∷ records) all ends =
    let behind = offset_behind offset (record_bytes rec) in
    let bytes = flat_map record_bytes (next ∷ records) in
    let there : Reading shape (place_behind offset rec) bytes (with_offsets behind (next ∷ records)) Finished =
    subst (λ (place : Place). Reading shape place bytes (with_offsets behind (next ∷ records)) Finished) (sym (place_by-other (kind_in rec) behind ends.0)) (records_read shape behind (next ∷ records) all.1 ends.1) in
    (bytes, (refl, all.0), refl, there)

-- behind the header reading goes on at offset 16
behind_header : (shape : ShapeView) (bytes : List ℕ) (records : List (ℕ × Record)) (stop : Stop) → Reading shape (Within 16) bytes records stop → Reading shape Start (shape_header shape ++ bytes) records stop
behind_header shape bytes [] stop read = inr (bytes, refl, read)
behind_header shape bytes ((offset, rec) ∷ records) stop read =
    (read.0, read.1, ap (λ (l : List ℕ). shape_header shape ++ l) read.2 ∙ sym (append_assoc (shape_header shape) (record_bytes rec) read.0), read.3)

pub file_read : (shape : ShapeView) (records : List Record) → AllByRecursion (HasRecord shape) records → EndsOnce records
    → Reading shape Start (file_of_records shape records) (with_offsets 16 records) Finished
file_read shape records all ends = behind_header shape (flat_map record_bytes records) (with_offsets 16 records) Finished (records_read shape 16 records all ends)
