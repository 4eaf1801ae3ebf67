-- The entries of the instruction table are apart: a test that is computed over the whole table, and what it shows.
use Rattle.std.proofs.Common.{◌≡◌, ℕ, zero, suc, Bool, true, false, not, ◌&&◌, List, [], ◌∷◌, Some, sym, refl, ap, ◌∙◌, subst, inl, inr}
use Rattle.std.proofs.lemmas.Bool.{eqb-true, eq-eqb, and_parts, or_cases, false≢true, false_from_ne_true, not-true}
use Rattle.std.specs.List.{list_all, list_any, slice_get}
use Rattle.std.specs.Prelude.{◌==◌}
use Rattle.rv_code.specs.declared.instr.Instr.TheVariants.{Bad}
use Rattle.rv_code.specs.Table.{Field, Fixed, Entry, value_in, instruction_table, agrees, read_as, meaning_by, meaning_of, AreApart}
use Rattle.rv_code.specs.Table.Field.{Opcode, Rd, Funct3, Rs1, Rs2, Funct7}
use Rattle.rv_code.specs.Laws.{MeansItsEntry, AgreesWithNone}

abbrev number_of_field : Field → ℕ
number_of_field Opcode = 0
number_of_field Rd = 1
number_of_field Funct3 = 2
number_of_field Rs1 = 3
number_of_field Rs2 = 4
number_of_field Funct7 = 5

abbrev field_of_number : ℕ → Field
field_of_number zero = Opcode
field_of_number (suc zero) = Rd
field_of_number (suc (suc zero)) = Funct3
field_of_number (suc (suc (suc zero))) = Rs1
field_of_number (suc (suc (suc (suc zero)))) = Rs2
field_of_number (suc (suc (suc (suc (suc n))))) = Funct7

field_of_number-number_of_field : (field : Field) → field_of_number (number_of_field field) ≡ field
field_of_number-number_of_field Opcode = refl
field_of_number-number_of_field Rd = refl
field_of_number-number_of_field Funct3 = refl
field_of_number-number_of_field Rs1 = refl
field_of_number-number_of_field Rs2 = refl
field_of_number-number_of_field Funct7 = refl

-- both fix one field, and at two values
abbrev differ : Fixed → Fixed → Bool
differ one other = (number_of_field one.field == number_of_field other.field) && not (one.value == other.value)

abbrev some_differ : List Fixed → List Fixed → Bool
some_differ some others = list_any (λ one. list_any (λ other. differ one other) others) some

abbrev all_apart : List Entry → Bool
all_apart [] = true
all_apart (entry ∷ entries) = list_all (λ other. some_differ entry.fixed other.fixed) entries && all_apart entries

-- a word has a field as it is fixed
abbrev has : ℕ → Fixed → Bool
has word fixed = value_in word fixed.field == fixed.value

abbrev Never : Type 0
Never = false ≡ true

has-differ : (word : ℕ) (one other : Fixed) → differ one other ≡ true → has word one ≡ true → has word other ≡ true → Never
has-differ word one other d h k =
    let p = and_parts (number_of_field one.field == number_of_field other.field) (not (one.value == other.value)) d in
    let e = eqb-true (number_of_field one.field) (number_of_field other.field) p.0 in
    let f : one.field ≡ other.field =
    sym (field_of_number-number_of_field one.field) ∙ (ap field_of_number e ∙ field_of_number-number_of_field other.field) in
    let v : one.value ≡ other.value =
    sym (eqb-true (value_in word one.field) one.value h) ∙ (ap (value_in word) f ∙ eqb-true (value_in word other.field) other.value k) in
    sym (not-true (one.value == other.value) p.1) ∙ eq-eqb one.value other.value v

has-some_differ : (word : ℕ) (one : Fixed) (others : List Fixed)
    → list_any (λ other. differ one other) others ≡ true → has word one ≡ true
    → list_all (λ fixed. has word fixed) others ≡ true → Never
has-some_differ word one [] d h k = d
has-some_differ word one (other ∷ others) d h k =
    let p = and_parts (has word other) (list_all (λ fixed. has word fixed) others) k in
    elim (or_cases (differ one other) (list_any (λ x. differ one x) others) d) [
      | inl here ↦ has-differ word one other here h p.0
      | inr there ↦ has-some_differ word one others there h p.1
    ]

agrees-some_differ : (word : ℕ) (some others : List Fixed) → some_differ some others ≡ true
    → list_all (λ fixed. has word fixed) some ≡ true → list_all (λ fixed. has word fixed) others ≡ true → Never
agrees-some_differ word [] others d h k = d
agrees-some_differ word (one ∷ some) others d h k =
    let p = and_parts (has word one) (list_all (λ fixed. has word fixed) some) h in
    elim (or_cases (list_any (λ x. differ one x) others) (some_differ some others) d) [
      | inl here ↦ has-some_differ word one others here p.0 k
      | inr there ↦ agrees-some_differ word some others there p.1 k
    ]

list_all-slice_get : (test : Entry → Bool) (entries : List Entry) (place : ℕ) (entry : Entry)
    → list_all test entries ≡ true → slice_get entries place ≡ Some entry → test entry ≡ true
list_all-slice_get test [] place entry h e = cc
list_all-slice_get test (first ∷ entries) zero entry h e =
    let same : first ≡ entry = cc in
    subst (λ x. test x ≡ true) same (and_parts (test first) (list_all test entries) h).0
list_all-slice_get test (first ∷ entries) (suc place) entry h e =
    list_all-slice_get test entries place entry (and_parts (test first) (list_all test entries) h).1 e

-- the first entry and one further on
first-apart : (word : ℕ) (first : Entry) (entries : List Entry) (place : ℕ) (entry : Entry)
    → all_apart (first ∷ entries) ≡ true → slice_get entries place ≡ Some entry
    → agrees word first ≡ true → agrees word entry ≡ true → Never
first-apart word first entries place entry h e one other =
    let tests = λ (x : Entry). some_differ first.fixed x.fixed in
    let p = and_parts (list_all tests entries) (all_apart entries) h in
    agrees-some_differ word first.fixed entry.fixed (list_all-slice_get tests entries place entry p.0 e) one other

all_apart_rest : (first : Entry) (entries : List Entry) → all_apart (first ∷ entries) ≡ true → all_apart entries ≡ true
all_apart_rest first entries h =
    (and_parts (list_all (λ other. some_differ first.fixed other.fixed) entries) (all_apart entries) h).1

AreApart-all_apart : (table : List Entry) → all_apart table ≡ true → AreApart table
AreApart-all_apart [] h word i j one other e f a b = cc
AreApart-all_apart (first ∷ entries) h word zero zero one other e f a b = refl
AreApart-all_apart (first ∷ entries) h word zero (suc j) one other e f a b =
    let same : first ≡ one = cc in
    absurd (false≢true (first-apart word first entries j other h f (subst (λ x. agrees word x ≡ true) (sym same) a) b))
AreApart-all_apart (first ∷ entries) h word (suc i) zero one other e f a b =
    let same : first ≡ other = cc in
    absurd (false≢true (first-apart word first entries i one h e (subst (λ x. agrees word x ≡ true) (sym same) b) a))
AreApart-all_apart (first ∷ entries) h word (suc i) (suc j) one other e f a b =
    ap suc (AreApart-all_apart entries (all_apart_rest first entries h) word i j one other e f a b)

meaning_by-entry : (table : List Entry) → all_apart table ≡ true → (word place : ℕ) (entry : Entry)
    → slice_get table place ≡ Some entry → agrees word entry ≡ true → meaning_by table word ≡ read_as entry.form word
meaning_by-entry [] h word place entry e a = cc
meaning_by-entry (first ∷ entries) h word zero entry e a =
    let same : first ≡ entry = cc in
    subst (λ x. meaning_by (x ∷ entries) word ≡ read_as entry.form word) (sym same) (rw a refl)
meaning_by-entry (first ∷ entries) h word (suc place) entry e a =
    let other : agrees word first ≡ false =
    false_from_ne_true (agrees word first) (λ b. false≢true (first-apart word first entries place entry h e b a)) in
    rw other (meaning_by-entry entries (all_apart_rest first entries h) word place entry e a)

meaning_by-none : (table : List Entry) (word : ℕ)
    → ((place : ℕ) (entry : Entry) → slice_get table place ≡ Some entry → agrees word entry ≡ false)
    → meaning_by table word ≡ Bad word
meaning_by-none [] word h = refl
meaning_by-none (first ∷ entries) word h =
    rw (h zero first refl) (meaning_by-none entries word (λ place entry e. h (suc place) entry e))

pub instruction_table_apart : AreApart instruction_table
instruction_table_apart = AreApart-all_apart instruction_table refl

pub each_means_its_entry : (word : ℕ) → MeansItsEntry word
unfolding meaning_of
each_means_its_entry word = meaning_by-entry instruction_table refl word

pub none_means_bad : (word : ℕ) → AgreesWithNone word → meaning_of word ≡ Bad word
unfolding meaning_of
none_means_bad word h = meaning_by-none instruction_table word h
