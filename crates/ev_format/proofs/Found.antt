-- A record from its first word and what stands behind it, and why there is none.
use Rattle.std.proofs.Common.{◌≡◌, ℕ, ◌+◌, ◌-◌, ◌*◌, ◌%◌, ◌<◌, ◌≤◌, List, ◌++◌, length, true, false, refl, sym, ap, ◌∙◌, subst, arith, length-append}
use Rattle.std.specs.List.{flat_map}
use Rattle.rv_code.specs.Numbers.{IsWord, bytes_of}
use Rattle.rv_code.proofs.LawsOfBytes.{length-words}
use Rattle.ev_format.specs.declared.kind.RecordKind.{RecordKind}
use Rattle.ev_format.specs.declared.kind.RecordKind.TheVariants as kinds
use Rattle.ev_format.specs.declared.record.Record.{Record}
use Rattle.ev_format.specs.declared.record.Record.TheVariants.{Value, Landing, End}
use Rattle.ev_format.specs.declared.stop.Stop.{Stop}
use Rattle.ev_format.specs.declared.stop.Stop.TheVariants.{Cut, BadRecord}
use Rattle.ev_format.specs.Inner.Bodies.{further_bytes, IsOf, BodyStops, IsEnd}
use Rattle.ev_format.specs.Inner.Filling.{FallsShort}
use Rattle.ev_format.specs.Reading.{RecordStops}
use Rattle.ev_format.specs.Shapes.{ShapeView, IsShape, takes_kind, has_slot, value_count, HasRecord}
use Rattle.ev_format.specs.Spelling.{kind_in, address_in, kind_bits, first_word, record_bytes}
use Rattle.ev_format.proofs.Spelled.{kind_bits-small, same_address, same_bits, same_kind}
use Rattle.ev_format.proofs.Words.{bytes_of-same}

-- the address and the low bits of a first word
abbrev pub address_named : ℕ → ℕ
address_named word = word - word % 4

-- what is known of a word that names a slot
pub record Names (shape : ShapeView) (word : ℕ) (kind : RecordKind) : Type 0 where
  pub small : IsWord word
  pub bits : kind_bits kind ≡ word % 4
  pub slot : has_slot shape (address_named word) kind ≡ true

first_word_is : (shape : ShapeView) (word : ℕ) (kind : RecordKind) (rec : Record) → Names shape word kind → IsOf shape kind (address_named word) rec → first_word rec ≡ word
first_word_is shape word kind rec names is =
    let bits : kind_bits (kind_in rec) ≡ word % 4 = ap kind_bits is.kind_is ∙ names.bits in
    omega (arith, bits, is.address_is)

pub HasRecord-named : (shape : ShapeView) (word : ℕ) (kind : RecordKind) (rec : Record) → Names shape word kind → IsOf shape kind (address_named word) rec → HasRecord shape rec
HasRecord-named shape word kind rec names is =
    let slot_there = subst (λ (k : RecordKind). has_slot shape (address_named word) k ≡ true) (sym is.kind_is) names.slot in
    record {
      aligned = omega (arith, is.address_is);
      slot = subst (λ (at : ℕ). has_slot shape at (kind_in rec) ≡ true) (sym is.address_is) slot_there;
      values = is.values;
      words = (subst IsWord (sym (first_word_is shape word kind rec names is)) names.small, is.words);
    }

pub record_bytes-named : (shape : ShapeView) (word : ℕ) (kind : RecordKind) (rec : Record) → Names shape word kind → IsOf shape kind (address_named word) rec
    → bytes_of 4 word ++ further_bytes rec ≡ record_bytes rec
record_bytes-named shape word kind rec names is = ap (λ (n : ℕ). bytes_of 4 n ++ further_bytes rec) (sym (first_word_is shape word kind rec names is))

-- a word has more bytes than fewer than four
pub RecordStops-short : (shape : ShapeView) (offset : ℕ) (bytes : List ℕ) (stop : Stop) → FallsShort 4 bytes stop → RecordStops shape offset bytes stop
RecordStops-short shape offset bytes stop short =
    let cut : RecordStops shape offset bytes Cut = record {
      no_record = λ rec rest has front. absurd (omega (arith, short.1, ap (λ (l : List ℕ). length l) front));
      not_bad = λ bad. absurd (omega (arith, short.1, ap (λ (l : List ℕ). length l) bad.front));
    } in
    subst (RecordStops shape offset bytes) (sym short.0) cut

-- a record behind its first word is of the kind that the word names
is_of_named : (shape : ShapeView) (word : ℕ) (kind : RecordKind) (rec : Record) → IsShape shape → Names shape word kind → HasRecord shape rec → word ≡ first_word rec
    → IsOf shape kind (address_named word) rec
is_of_named shape word kind rec is names has same =
    let small = kind_bits-small (kind_in rec) in
    let parts : address_named word + word % 4 ≡ address_in rec + kind_bits (kind_in rec) = omega (arith, same) in
    let address = same_address (address_in rec) (address_named word) (kind_bits (kind_in rec)) (word % 4) has.aligned (omega arith) small (omega arith) (sym parts) in
    let bits = same_bits (address_in rec) (address_named word) (kind_bits (kind_in rec)) (word % 4) has.aligned (omega arith) small (omega arith) (sym parts) in
    let has_it = subst (λ (at : ℕ). has_slot shape at (kind_in rec) ≡ true) address has.slot in
    record {
      kind_is = same_kind (shape.slot (address_named word)) (address_named word) (kind_in rec) kind (is.apart (address_named word)) (bits ∙ sym names.bits) has_it names.slot;
      address_is = address;
      values = has.values;
      words = has.words.1;
    }

-- nothing whole stands behind a word that names a slot
pub RecordStops-body : (shape : ShapeView) (offset word : ℕ) (kind : RecordKind) (rest : List ℕ) (stop : Stop) → IsShape shape → Names shape word kind
    → BodyStops shape kind (address_named word) rest stop → RecordStops shape offset (bytes_of 4 word ++ rest) stop
RecordStops-body shape offset word kind rest stop is names body =
    let cut : RecordStops shape offset (bytes_of 4 word ++ rest) Cut = record {
      no_record = λ rec behind has front.
          let read = bytes_of-same word (first_word rec) rest (further_bytes rec ++ behind) names.small has.words.0 front in
          body.1 rec behind (is_of_named shape word kind rec is names has read.0) read.1;
      not_bad = λ bad.
          let read = bytes_of-same word bad.word rest bad.rest names.small bad.in_range bad.front in
          let none = bad.slotless (address_named word) kind (omega arith) (omega (arith, names.bits, read.0)) in
          absurd (cc (none, names.slot));
    } in
    subst (RecordStops shape offset (bytes_of 4 word ++ rest)) (sym body.0) cut

-- a word that names no slot
pub RecordStops-bad : (shape : ShapeView) (offset word : ℕ) (rest : List ℕ) → IsWord word
    → ((kind : RecordKind) → kind_bits kind ≡ word % 4 → takes_kind (shape.slot (address_named word)) (address_named word) kind ≡ false)
    → RecordStops shape offset (bytes_of 4 word ++ rest) (BadRecord offset)
RecordStops-bad shape offset word rest small none = (
  refl,
  record {
    word = word;
    rest = rest;
    in_range = small;
    front = refl;
    slotless = λ at kind aligned same.
        let bits = kind_bits-small kind in
        let address : address_named word ≡ at = omega (arith, aligned, same, bits) in
        subst (λ (a : ℕ). has_slot shape a kind ≡ false) address (none kind (omega (arith, aligned, same, bits)));
  },
)

pub IsOf-IsEnd : (shape : ShapeView) (at : ℕ) (rec : Record) → IsEnd at rec → IsOf shape kinds.End at rec
IsOf-IsEnd shape at rec is =
    let whole : IsOf shape kinds.End at (End at is.0 is.1) = record { kind_is = refl; address_is = refl; values = tt; words = (is.3, (is.4, tt)) } in
    subst (IsOf shape kinds.End at) (sym is.2) whole

-- how many bytes a record of each kind has behind its first word
length-value : (rec : Record) → kind_in rec ≡ kinds.Value → length (further_bytes rec) ≡ 4
length-value (Value at value) is = refl
length-value rec is = absurd (cc is)

length-end : (rec : Record) → kind_in rec ≡ kinds.End → length (further_bytes rec) ≡ 8
length-end (End at kind detail) is = refl
length-end rec is = absurd (cc is)

length-landing : (rec : Record) → kind_in rec ≡ kinds.Landing → 4 ≤ length (further_bytes rec)
length-landing (Landing at target values) is = omega arith
length-landing rec is = absurd (cc is)

pub BodyStops-value : (shape : ShapeView) (at : ℕ) (bytes : List ℕ) (stop : Stop) → FallsShort 4 bytes stop → BodyStops shape kinds.Value at bytes stop
BodyStops-value shape at bytes stop short = (
  short.0,
  λ rec rest is front.
      omega (arith, short.1, length-value rec is.kind_is, ap (λ (l : List ℕ). length l) front, length-append (further_bytes rec) rest),
)

pub BodyStops-end : (shape : ShapeView) (at : ℕ) (bytes : List ℕ) (stop : Stop) → FallsShort 8 bytes stop → BodyStops shape kinds.End at bytes stop
BodyStops-end shape at bytes stop short = (
  short.0,
  λ rec rest is front. omega (arith, short.1, length-end rec is.kind_is, ap (λ (l : List ℕ). length l) front, length-append (further_bytes rec) rest),
)

pub BodyStops-target : (shape : ShapeView) (at : ℕ) (bytes : List ℕ) (stop : Stop) → FallsShort 4 bytes stop → BodyStops shape kinds.Landing at bytes stop
BodyStops-target shape at bytes stop short = (
  short.0,
  λ rec rest is front.
      omega (arith, short.1, length-landing rec is.kind_is, ap (λ (l : List ℕ). length l) front, length-append (further_bytes rec) rest),
)

-- fewer values than the target needs
no_values : (shape : ShapeView) (at target : ℕ) (bytes : List ℕ) (rec : Record) (rest : List ℕ) → IsWord target → length bytes < 4 * value_count shape target
    → IsOf shape kinds.Landing at rec → bytes_of 4 target ++ bytes ≡ further_bytes rec ++ rest → ⊥
no_values shape at target bytes (Landing to aim values) rest small short is front =
    let read = bytes_of-same target aim bytes (flat_map (bytes_of 4) values ++ rest) small is.words.0 front in
    let count : length values ≡ value_count shape target = is.values ∙ ap (value_count shape) (sym read.0) in
    omega (arith, short, count, length-words values, length-append (flat_map (bytes_of 4) values) rest, ap (λ (l : List ℕ). length l) read.1)
no_values shape at target bytes rec rest small short is front = absurd (cc is.kind_is)

pub BodyStops-values : (shape : ShapeView) (at target : ℕ) (bytes : List ℕ) (stop : Stop) → IsWord target → FallsShort (4 * value_count shape target) bytes stop
    → BodyStops shape kinds.Landing at (bytes_of 4 target ++ bytes) stop
BodyStops-values shape at target bytes stop small short = (short.0, λ rec rest is front. no_values shape at target bytes rec rest small short.1 is front)
