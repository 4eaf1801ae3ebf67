-- What marking one more address changes.
use Rattle.std.proofs.Common.{◌≡◌, ℕ, zero, suc, ◌+◌, ◌<◌, ◌≤◌, Bool, true, false, ◌||◌, eqb, List, [], ◌∷◌, ◌++◌, length, map, set, Some, None, refl, sym, ap, ◌∙◌, arith}
use Rattle.std.specs.Prelude.{is_some, slice_get, replicate}
use Rattle.std.specs.List.{Contains}
use Rattle.std.proofs.lemmas.Bool.{eq-eqb, ne_eqb}
use Rattle.std.proofs.lemmas.List.Folds.{list_any-append}
use Rattle.rv_code.specs.declared.image.Range.{Range}
use Rattle.rv_code.specs.Code.{extents_of, is_code}
use Rattle.rv_code.specs.Image.{word_count}
use Rattle.rv_code.specs.Places.{code_addresses, place_of, AreCodeExtents}
use Rattle.rv_code.proofs.LawsOfLists.{Rises, Rises-from_IsStrictlyIncreasing, Rises-slice_get}
use Rattle.rv_code.proofs.LawsOfLookUps.{address_of-place_of, is_some-place_of}
use Rattle.rv_code.proofs.LawsOfPlaces.{Contains-is_code, code_addresses-IsStrictlyIncreasing, length-code_addresses_of_ranges}
use Rattle.flow_graph.specs.Marks.{is_one_of, marks_of}

or_nothing : (b : Bool) → (b || (false || false)) ≡ b
or_nothing true = refl
or_nothing false = refl

or_true : (b : Bool) → (b || (true || false)) ≡ true
or_true true = refl
or_true false = refl

among_other : (addresses : List ℕ) (address word : ℕ) → (address ≡ word → ⊥) → is_one_of (addresses ++ address ∷ []) word ≡ is_one_of addresses word
among_other addresses address word other =
    list_any-append (λ one. eqb one word) addresses (address ∷ [])
    ∙ (ap (λ b. is_one_of addresses word || (b || false)) (ne_eqb address word other) ∙ or_nothing (is_one_of addresses word))

among_same : (addresses : List ℕ) (address word : ℕ) → address ≡ word → is_one_of (addresses ++ address ∷ []) word ≡ true
among_same addresses address word same =
    list_any-append (λ one. eqb one word) addresses (address ∷ [])
    ∙ (ap (λ b. is_one_of addresses word || (b || false)) (eq-eqb address word same) ∙ or_true (is_one_of addresses word))

-- words behind the address keep their marks
above_same : (addresses : List ℕ) (address low : ℕ) (words : List ℕ) → address < low → Rises low words → map (is_one_of (addresses ++ address ∷ [])) words ≡ map (is_one_of addresses) words
above_same addresses address low [] less rises = refl
above_same addresses address low (word ∷ words) less rises =
    let other : address ≡ word → ⊥ = λ same. absurd (omega (arith, rises.0)) in
    let first = among_other addresses address word other in
    let rest = above_same addresses address (word + 1) words (omega (arith, rises.0)) rises.1 in
    cc

-- words that aren't the address keep their marks
elsewhere_same : (addresses : List ℕ) (address : ℕ) (words : List ℕ) → (Contains words address → ⊥) → map (is_one_of (addresses ++ address ∷ [])) words ≡ map (is_one_of addresses) words
elsewhere_same addresses address [] none = refl
elsewhere_same addresses address (word ∷ words) none =
    let first = among_other addresses address word (λ same. none (zero, omega arith, sym same)) in
    let rest = elsewhere_same addresses address words (λ within. none (suc within.0, omega (arith, within.1), within.2)) in
    cc

set_mark : (addresses : List ℕ) (address low place : ℕ) (words : List ℕ) → Rises low words → slice_get words place ≡ Some address
    → set (map (is_one_of addresses) words) place true ≡ map (is_one_of (addresses ++ address ∷ [])) words
set_mark addresses address low place [] rises is = absurd (cc is)
set_mark addresses address low zero (word ∷ words) rises is =
    let same : word ≡ address = cc is in
    let first = among_same addresses address word (sym same) in
    let rest = above_same addresses address (word + 1) words (omega arith) rises.1 in
    cc
set_mark addresses address low (suc place) (word ∷ words) rises is =
    let above : word + 1 ≤ address = Rises-slice_get (word + 1) place address words rises.1 is in
    let first = among_other addresses address word (λ same. absurd (omega arith)) in
    let rest = set_mark addresses address (word + 1) place words rises.1 is in
    cc

pub words_rise : (ranges : List Range) → AreCodeExtents (extents_of ranges) → Rises 0 (code_addresses (extents_of ranges))
words_rise ranges order =
    Rises-from_IsStrictlyIncreasing 0 (code_addresses (extents_of ranges)) (λ _. omega arith) (code_addresses-IsStrictlyIncreasing (extents_of ranges) order.rise)

-- a code word that is marked
pub marked_here : (ranges : List Range) (addresses : List ℕ) (address place : ℕ) → AreCodeExtents (extents_of ranges) → place_of (extents_of ranges) address ≡ Some place
    → set (marks_of ranges addresses) place true ≡ marks_of ranges (addresses ++ address ∷ [])
marked_here ranges addresses address place order is =
    set_mark addresses address 0 place (code_addresses (extents_of ranges)) (words_rise ranges order) (address_of-place_of (extents_of ranges) place address is)

-- an address of no code word
pub marked_nowhere : (ranges : List Range) (addresses : List ℕ) (address : ℕ) → AreCodeExtents (extents_of ranges) → place_of (extents_of ranges) address ≡ None
    → marks_of ranges addresses ≡ marks_of ranges (addresses ++ address ∷ [])
marked_nowhere ranges addresses address order is =
    let none : is_code (extents_of ranges) address ≡ false = sym (is_some-place_of (extents_of ranges) address order.each) ∙ ap is_some is in
    sym (elsewhere_same addresses address (code_addresses (extents_of ranges)) (λ within. absurd (cc (sym none ∙ Contains-is_code (extents_of ranges) address order within))))

-- where nothing is marked
none_of : (words : List ℕ) → replicate (length words) false ≡ map (is_one_of []) words
none_of [] = refl
none_of (word ∷ words) = ap (λ marks. false ∷ marks) (none_of words)

pub no_marks : (ranges : List Range) (count : ℕ) → count ≡ word_count ranges → replicate count false ≡ marks_of ranges []
no_marks ranges count is =
    ap (λ (n : ℕ). replicate n false) (is ∙ sym (length-code_addresses_of_ranges ranges)) ∙ none_of (code_addresses (extents_of ranges))
