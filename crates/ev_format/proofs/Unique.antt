-- The bytes that are left at a place have one reading, which begins with each list of records at their front.
use Rattle.std.proofs.Common.{◌≡◌, ℕ, inl, inr, List, [], ◌∷◌, ◌++◌, length, take, refl, sym, ap, ◌∙◌, subst, arith, append_assoc, length-append}
use Rattle.std.proofs.lemmas.List.{append_cancel_left, take_at}
use Rattle.ev_format.specs.declared.place.Place.{Place}
use Rattle.ev_format.specs.declared.place.Place.TheVariants.{Start, Within, Ended}
use Rattle.ev_format.specs.declared.record.Record.{Record}
use Rattle.ev_format.specs.declared.stop.Stop.{Stop}
use Rattle.ev_format.specs.declared.stop.Stop.TheVariants.{Cut, Finished, OtherProgram, BadRecord}
use Rattle.ev_format.specs.Inner.Bodies.{further_bytes}
use Rattle.ev_format.specs.Reading.{header_before, place_behind, MayBeNext, IsBad, HeaderStops, RecordStops, EndStops, StopsWith, Reading, BeginsWith}
use Rattle.ev_format.specs.Shapes.{ShapeView, IsShape, shape_header, HasRecord}
use Rattle.ev_format.specs.Spelling.{first_word, kind_in, address_in, record_bytes}
use Rattle.ev_format.proofs.Spelled.{same_record}
use Rattle.ev_format.proofs.Words.{bytes_of-same}
use Rattle.ev_format.specs.Laws.{HaveOneFront, HasFronts}

-- a whole record doesn't begin with a bad word
record_or_bad : (shape : ShapeView) (bytes : List ℕ) (rec : Record) (rest : List ℕ) → HasRecord shape rec → bytes ≡ record_bytes rec ++ rest → IsBad shape bytes → ⊥
record_or_bad shape bytes rec rest has front bad =
    let read = bytes_of-same (first_word rec) bad.word (further_bytes rec ++ rest) bad.rest has.words.0 bad.in_range (sym front ∙ bad.front) in
    let none = bad.slotless (address_in rec) (kind_in rec) has.aligned read.0 in
    absurd (cc (none, has.slot))

-- where a record may begin, there is one or a stop
record_or_stop : (shape : ShapeView) (offset : ℕ) (bytes : List ℕ) (stop : Stop) (rec : Record) (rest : List ℕ) → HasRecord shape rec → bytes ≡ record_bytes rec ++ rest → RecordStops shape offset bytes stop → ⊥
record_or_stop shape offset bytes Cut rec rest has front stops = stops.no_record rec rest has front
record_or_stop shape offset bytes Finished rec rest has front stops = stops
record_or_stop shape offset bytes OtherProgram rec rest has front stops = stops
record_or_stop shape offset bytes (BadRecord bad) rec rest has front stops = record_or_bad shape bytes rec rest has front stops.1

-- a stop where a record may begin is the only one
one_record_stop : (shape : ShapeView) (offset : ℕ) (bytes : List ℕ) (one other : Stop) → RecordStops shape offset bytes one → RecordStops shape offset bytes other → one ≡ other
one_record_stop shape offset bytes Cut Cut stops others = refl
one_record_stop shape offset bytes Cut Finished stops others = absurd others
one_record_stop shape offset bytes Cut OtherProgram stops others = absurd others
one_record_stop shape offset bytes Cut (BadRecord bad) stops others = absurd (stops.not_bad others.1)
one_record_stop shape offset bytes Finished other stops others = absurd stops
one_record_stop shape offset bytes OtherProgram other stops others = absurd stops
one_record_stop shape offset bytes (BadRecord bad) Cut stops others = absurd (others.not_bad stops.1)
one_record_stop shape offset bytes (BadRecord bad) Finished stops others = absurd others
one_record_stop shape offset bytes (BadRecord bad) OtherProgram stops others = absurd others
one_record_stop shape offset bytes (BadRecord bad) (BadRecord worse) stops others = ap BadRecord (stops.0 ∙ sym others.0)

length-header : (shape : ShapeView) → length (shape_header shape) ≡ 16
length-header shape = refl

-- the header is the shape's, or reading stops at it
header_or_stop : (shape : ShapeView) (bytes rest : List ℕ) (stop : Stop) → bytes ≡ shape_header shape ++ rest → HeaderStops shape bytes stop → ⊥
header_or_stop shape bytes rest Cut front stops = omega (arith, stops, ap (λ (l : List ℕ). length l) front, length-append (shape_header shape) rest, length-header shape)
header_or_stop shape bytes rest Finished front stops = stops
header_or_stop shape bytes rest OtherProgram front stops =
    stops.1 (ap (take 16) front ∙ take_at (shape_header shape) rest 16 (length-header shape))
header_or_stop shape bytes rest (BadRecord bad) front stops = stops

one_header_stop : (shape : ShapeView) (bytes : List ℕ) (one other : Stop) → HeaderStops shape bytes one → HeaderStops shape bytes other → one ≡ other
one_header_stop shape bytes Cut Cut stops others = refl
one_header_stop shape bytes Cut OtherProgram stops others = absurd (omega (arith, stops, others.0))
one_header_stop shape bytes OtherProgram Cut stops others = absurd (omega (arith, stops.0, others))
one_header_stop shape bytes OtherProgram OtherProgram stops others = refl
one_header_stop shape bytes Cut Finished stops others = absurd others
one_header_stop shape bytes Cut (BadRecord bad) stops others = absurd others
one_header_stop shape bytes OtherProgram Finished stops others = absurd others
one_header_stop shape bytes OtherProgram (BadRecord bad) stops others = absurd others
one_header_stop shape bytes Finished other stops others = absurd stops
one_header_stop shape bytes (BadRecord bad) other stops others = absurd stops

one_end_stop : (offset : ℕ) (bytes : List ℕ) (one other : Stop) → EndStops offset bytes one → EndStops offset bytes other → one ≡ other
one_end_stop offset bytes Cut other stops others = absurd stops
one_end_stop offset bytes OtherProgram other stops others = absurd stops
one_end_stop offset bytes Finished Cut stops others = absurd others
one_end_stop offset bytes Finished Finished stops others = refl
one_end_stop offset bytes Finished OtherProgram stops others = absurd others
one_end_stop offset bytes Finished (BadRecord bad) stops others = absurd (others.1 stops)
one_end_stop offset bytes (BadRecord bad) Cut stops others = absurd others
one_end_stop offset bytes (BadRecord bad) Finished stops others = absurd (stops.1 others)
one_end_stop offset bytes (BadRecord bad) OtherProgram stops others = absurd others
one_end_stop offset bytes (BadRecord bad) (BadRecord worse) stops others = ap BadRecord (stops.0 ∙ sym others.0)

-- what stands behind the header is known by the bytes
same_rest : (shape : ShapeView) (bytes rest behind : List ℕ) → bytes ≡ shape_header shape ++ rest → bytes ≡ shape_header shape ++ behind → rest ≡ behind
same_rest shape bytes rest behind one other = append_cancel_left (shape_header shape) rest behind (sym one ∙ other)

one_stop : (shape : ShapeView) (place : Place) (bytes : List ℕ) (one other : Stop) → StopsWith shape place bytes one → StopsWith shape place bytes other → one ≡ other
one_stop shape Start bytes one other (inl stops) (inl others) = one_header_stop shape bytes one other stops others
one_stop shape Start bytes one other (inl stops) (inr others) = absurd (header_or_stop shape bytes others.0 one others.1 stops)
one_stop shape Start bytes one other (inr stops) (inl others) = absurd (header_or_stop shape bytes stops.0 other stops.1 others)
one_stop shape Start bytes one other (inr stops) (inr others) =
    let there : RecordStops shape 16 stops.0 other =
    subst (λ (l : List ℕ). RecordStops shape 16 l other) (sym (same_rest shape bytes stops.0 others.0 stops.1 others.1)) others.2 in
    one_record_stop shape 16 stops.0 one other stops.2 there
one_stop shape (Within offset) bytes one other stops others = one_record_stop shape offset bytes one other stops others
one_stop shape (Ended offset) bytes one other stops others = one_end_stop offset bytes one other stops others

-- a record is next, or reading stops
next_or_stop : (shape : ShapeView) (place : Place) (bytes : List ℕ) (stop : Stop) (offset : ℕ) (rec : Record) (rest : List ℕ) → MayBeNext shape place offset rec
    → bytes ≡ header_before shape place ++ record_bytes rec ++ rest → StopsWith shape place bytes stop → ⊥
next_or_stop shape Start bytes stop offset rec rest may front (inl stops) =
    header_or_stop shape bytes (record_bytes rec ++ rest) stop (front ∙ append_assoc (shape_header shape) (record_bytes rec) rest) stops
next_or_stop shape Start bytes stop offset rec rest may front (inr stops) =
    let there = same_rest shape bytes stops.0 (record_bytes rec ++ rest) stops.1 (front ∙ append_assoc (shape_header shape) (record_bytes rec) rest) in
    record_or_stop shape 16 stops.0 stop rec rest may.1 there stops.2
next_or_stop shape (Within start) bytes stop offset rec rest may front stops = record_or_stop shape start bytes stop rec rest may.1 front stops
next_or_stop shape (Ended start) bytes stop offset rec rest may front stops = absurd (cc (may.0))

-- what is next is known by the bytes
same_next : (shape : ShapeView) → IsShape shape → (place : Place) (bytes : List ℕ) (offset start : ℕ) (rec one : Record) (rest behind : List ℕ)
    → MayBeNext shape place offset rec → bytes ≡ header_before shape place ++ record_bytes rec ++ rest
    → MayBeNext shape place start one → bytes ≡ header_before shape place ++ record_bytes one ++ behind → (offset ≡ start) × (rec ≡ one) × (rest ≡ behind)
same_next shape is place bytes offset start rec one rest behind may front also ahead =
    let header = header_before shape place in
    let fronts : header ++ (record_bytes rec ++ rest) ≡ header ++ (record_bytes one ++ behind) =
    sym (append_assoc header (record_bytes rec) rest) ∙ (sym front ∙ (ahead ∙ append_assoc header (record_bytes one) behind)) in
    let same = same_record shape rec one rest behind is may.1 also.1 (append_cancel_left header (record_bytes rec ++ rest) (record_bytes one ++ behind) fronts) in
    (cc (may.0, also.0), same.0, same.1)

-- and what holds behind it holds behind the same
at_same : (P : Place → List ℕ → Type 0) (offset start : ℕ) (rec one : Record) (rest behind : List ℕ) → (offset ≡ start) × (rec ≡ one) × (rest ≡ behind)
    → P (place_behind start one) behind → P (place_behind offset rec) rest
at_same P offset start rec one rest behind same holds =
    subst (λ (l : List ℕ). P (place_behind offset rec) l) (sym same.2)
    (subst (λ (r : Record). P (place_behind offset r) behind) (sym same.1) (subst (λ (o : ℕ). P (place_behind o one) behind) (sym same.0) holds))

pub one_reading : (shape : ShapeView) → IsShape shape → (place : Place) (bytes : List ℕ) (records others : List (ℕ × Record)) (stop other : Stop)
    → Reading shape place bytes records stop → Reading shape place bytes others other → (records ≡ others) × (stop ≡ other)
one_reading shape is place bytes [] [] stop other read again = (refl, one_stop shape place bytes stop other read again)
one_reading shape is place bytes [] ((offset, rec) ∷ others) stop other read again = absurd (next_or_stop shape place bytes stop offset rec again.0 again.1 again.2 read)
one_reading shape is place bytes ((offset, rec) ∷ records) [] stop other read again = absurd (next_or_stop shape place bytes other offset rec read.0 read.1 read.2 again)
one_reading shape is place bytes ((offset, rec) ∷ records) ((start, one) ∷ others) stop other read again =
    let same = same_next shape is place bytes offset start rec one read.0 again.0 read.1 read.2 again.1 again.2 in
    let there = at_same (λ (p : Place) (l : List ℕ). Reading shape p l others other) offset start rec one read.0 again.0 same again.3 in
    let more = one_reading shape is (place_behind offset rec) read.0 records others stop other read.3 there in
    (cc (same.0, same.1, more.0), more.1)

pub one_front : (shape : ShapeView) → IsShape shape → HaveOneFront shape
one_front shape is place bytes [] others begins also = inl (others, refl)
one_front shape is place bytes (first ∷ records) [] begins also = inr (first ∷ records, refl)
one_front shape is place bytes ((offset, rec) ∷ records) ((start, one) ∷ others) begins also =
    let same = same_next shape is place bytes offset start rec one begins.0 also.0 begins.1 begins.2 also.1 also.2 in
    let there = at_same (λ (p : Place) (l : List ℕ). BeginsWith shape p l others) offset start rec one begins.0 also.0 same also.3 in
    elim (one_front shape is (place_behind offset rec) begins.0 records others begins.3 there) [
      | inl more ↦ inl (more.0, cc (same.0, same.1, more.1))
      | inr more ↦ inr (more.0, cc (same.0, same.1, more.1))
    ]

pub front_of_reading : (shape : ShapeView) → IsShape shape → HasFronts shape
front_of_reading shape is place bytes records [] stop read begins = (records, refl)
front_of_reading shape is place bytes [] ((start, one) ∷ others) stop read begins = absurd (next_or_stop shape place bytes stop start one begins.0 begins.1 begins.2 read)
front_of_reading shape is place bytes ((offset, rec) ∷ records) ((start, one) ∷ others) stop read begins =
    let same = same_next shape is place bytes offset start rec one read.0 begins.0 read.1 read.2 begins.1 begins.2 in
    let there = at_same (λ (p : Place) (l : List ℕ). BeginsWith shape p l others) offset start rec one read.0 begins.0 same begins.3 in
    let more = front_of_reading shape is (place_behind offset rec) read.0 records others stop read.3 there in
    (more.0, cc (same.0, same.1, more.1))
