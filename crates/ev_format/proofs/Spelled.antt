-- A record is known by its bytes.
use Rattle.std.proofs.Common.{◌≡◌, ℕ, ◌+◌, ◌%◌, ◌<◌, List, ◌++◌, length, true, false, refl, sym, subst, arith}
use Rattle.std.specs.List.{AllByRecursion, flat_map}
use Rattle.rv_code.specs.Numbers.{IsWord, bytes_of}
use Rattle.ev_format.specs.declared.kind.RecordKind.{RecordKind}
use Rattle.ev_format.specs.declared.kind.RecordKind.TheVariants as kinds
use Rattle.ev_format.specs.declared.record.Record.{Record}
use Rattle.ev_format.specs.declared.record.Record.TheVariants.{Fall, Taken, Value, Landing, End}
use Rattle.ev_format.specs.declared.slot.Slot.{Slot}
use Rattle.ev_format.specs.Inner.Bodies.{further_bytes}
use Rattle.ev_format.specs.Shapes.{ShapeView, IsShape, takes_kind, has_slot, HasValues, HasRecord}
use Rattle.ev_format.specs.Spelling.{kind_in, address_in, kind_bits, first_word, further_words, record_bytes}
use Rattle.ev_format.proofs.Words.{bytes_of-same, words_same}

pub kind_bits-small : (kind : RecordKind) → kind_bits kind < 4
kind_bits-small kinds.Fall = omega arith
kind_bits-small kinds.Taken = omega arith
kind_bits-small kinds.Value = omega arith
kind_bits-small kinds.Landing = omega arith
kind_bits-small kinds.End = omega arith

-- an address and what stands in the two low bits are known by their sum
pub same_address : (one other bits others : ℕ) → one % 4 ≡ 0 → other % 4 ≡ 0 → bits < 4 → others < 4 → one + bits ≡ other + others → one ≡ other
same_address one other bits others aligned_one aligned_other small smaller same = omega arith

pub same_bits : (one other bits others : ℕ) → one % 4 ≡ 0 → other % 4 ≡ 0 → bits < 4 → others < 4 → one + bits ≡ other + others → bits ≡ others
same_bits one other bits others aligned_one aligned_other small smaller same = omega arith

-- two kinds of records of one address with the same low bits are the same
pub same_kind : (slot : Slot) (at : ℕ) (one other : RecordKind) → (slot.value ≡ true → slot.landing ≡ false) → kind_bits one ≡ kind_bits other
    → takes_kind slot at one ≡ true → takes_kind slot at other ≡ true → one ≡ other
same_kind slot at kinds.Fall kinds.Fall apart bits has_one has_other = refl
same_kind slot at kinds.Taken kinds.Taken apart bits has_one has_other = refl
same_kind slot at kinds.Value kinds.Value apart bits has_one has_other = refl
same_kind slot at kinds.Landing kinds.Landing apart bits has_one has_other = refl
same_kind slot at kinds.End kinds.End apart bits has_one has_other = refl
same_kind slot at kinds.Value kinds.Landing apart bits has_one has_other = absurd (cc (apart has_one, has_other))
same_kind slot at kinds.Landing kinds.Value apart bits has_one has_other = absurd (cc (apart has_other, has_one))
same_kind slot at one other apart bits has_one has_other = absurd (omega (arith, bits))

-- records of one kind and address are known by the bytes behind their first word
pub same_body : (shape : ShapeView) (rec other : Record) (rest behind : List ℕ) → kind_in rec ≡ kind_in other → address_in rec ≡ address_in other
    → HasValues shape rec → HasValues shape other → AllByRecursion IsWord (further_words rec) → AllByRecursion IsWord (further_words other)
    → further_bytes rec ++ rest ≡ further_bytes other ++ behind → (rec ≡ other) × (rest ≡ behind)
same_body shape (Fall at) (Fall to) rest behind kind address values others words more same = (cc address, same)
same_body shape (Taken at) (Taken to) rest behind kind address values others words more same = (cc address, same)
same_body shape (Value at value) (Value to other) rest behind kind address values others words more same =
    let read = bytes_of-same value other rest behind words.0 more.0 same in
    (cc (address, read.0), read.1)
same_body shape (Landing at target list) (Landing to aim row) rest behind kind address values others words more same =
    let read = bytes_of-same target aim (flat_map (bytes_of 4) list ++ rest) (flat_map (bytes_of 4) row ++ behind) words.0 more.0 same in
    let count : length list ≡ length row = cc (values, others, read.0) in
    let lists = words_same list row rest behind count words.1 more.1 read.1 in
    (cc (address, read.0, lists.0), lists.1)
same_body shape (End at number detail) (End to code thing) rest behind kind address values others words more same =
    let read = bytes_of-same number code (bytes_of 4 detail ++ rest) (bytes_of 4 thing ++ behind) words.0 more.0 same in
    let last = bytes_of-same detail thing rest behind words.1.0 more.1.0 read.1 in
    (cc (address, read.0, last.0), last.1)
same_body shape rec other rest behind kind address values others words more same = absurd (cc kind)

pub same_record : (shape : ShapeView) (rec other : Record) (rest behind : List ℕ) → IsShape shape → HasRecord shape rec → HasRecord shape other
    → record_bytes rec ++ rest ≡ record_bytes other ++ behind → (rec ≡ other) × (rest ≡ behind)
same_record shape rec other rest behind is one two same =
    let first = bytes_of-same (first_word rec) (first_word other) (further_bytes rec ++ rest) (further_bytes other ++ behind) one.words.0 two.words.0 same in
    let small = kind_bits-small (kind_in rec) in
    let smaller = kind_bits-small (kind_in other) in
    let address = same_address (address_in rec) (address_in other) (kind_bits (kind_in rec)) (kind_bits (kind_in other)) one.aligned two.aligned small smaller first.0 in
    let bits = same_bits (address_in rec) (address_in other) (kind_bits (kind_in rec)) (kind_bits (kind_in other)) one.aligned two.aligned small smaller first.0 in
    let has_other = subst (λ (at : ℕ). has_slot shape at (kind_in other) ≡ true) (sym address) two.slot in
    let kind = same_kind (shape.slot (address_in rec)) (address_in rec) (kind_in rec) (kind_in other) (is.apart (address_in rec)) bits one.slot has_other in
    same_body shape rec other rest behind kind address one.values two.values one.words.1 two.words.1 first.1
