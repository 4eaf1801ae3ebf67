-- One name more among names that are each there once.
use Rattle.std.proofs.Common.{◌≡◌, ℕ, ◌+◌, ◌≤◌, Bool, true, false, cond, ◌||◌, not, List, [], ◌∷◌, ◌++◌, refl, sym, ap, ◌∙◌, inl, inr, append-nil, arith}
use Rattle.std.specs.Prelude.{count_by, filter, is_some}
use Rattle.std.specs.Map.{lookup}
use Rattle.std.specs.Str.{bytes_eq}
use Rattle.std.specs.Cmp.Lexicographic.{bytes_decides}
use Rattle.std.proofs.lemmas.Bool.{cases_Bool, or_parts}
use Rattle.std.proofs.lemmas.List.{map-append}
use Rattle.std.proofs.lemmas.List.Elements.{filter-append}
use Rattle.std.proofs.lemmas.List.Sums.{sum_by-cons}
use Rattle.indexmap.specs.IndexMap.{insert_entry}
use Rattle.rv_code.specs.declared.image.Name.{Name}
use Rattle.flow_graph.specs.CodeParts.{routine_named, first_seen}
use Rattle.flow_graph.specs.RoutineNames.{has_name, name_by, names_by, with_name}

-- a table's look-up is that among the names
pub found_named : {K : Type 0} (text_of : K → List ℕ) (text : List ℕ) (entries : List (K × ℕ))
    → lookup (λ (key : K). bytes_eq text (text_of key)) entries ≡ routine_named (names_by text_of entries) text
found_named text_of text [] = refl
found_named {K} text_of text (entry ∷ entries) = elim (cases_Bool (bytes_eq text (text_of entry.0))) [
  | inl same ↦ rw same refl
  | inr other ↦ rw other (found_named {K = K} text_of text entries)
]

is_found : (names : List Name) (text : List ℕ) → is_some (routine_named names text) ≡ has_name names text
is_found [] text = refl
is_found (name ∷ names) text = elim (cases_Bool (bytes_eq text name.text)) [
  | inl same ↦ rw same refl
  | inr other ↦ rw other (is_found names text)
]

pub has_from_found : {K : Type 0} (text_of : K → List ℕ) (text : List ℕ) (entries : List (K × ℕ))
    → is_some (lookup (λ (key : K). bytes_eq text (text_of key)) entries) ≡ has_name (names_by text_of entries) text
has_from_found {K} text_of text entries = ap is_some (found_named {K = K} text_of text entries) ∙ is_found (names_by text_of entries) text

-- the name is there
pub name_stays : (names : List Name) (name : Name) → has_name names name.text ≡ true → names ≡ with_name names name
name_stays names name is = rw is (sym (append-nil names))

pub name_goes_last : {K : Type 0} (text_of : K → List ℕ) (entries more : List (K × ℕ)) (key : K) (name : Name) → more ≡ entries ++ (key, name.address) ∷ [] → text_of key ≡ name.text
    → has_name (names_by text_of entries) name.text ≡ false → names_by text_of more ≡ with_name (names_by text_of entries) name
name_goes_last {K} text_of entries more key name more_is key_is is =
    let one : name_by text_of (key, name.address) ≡ name = ap (λ (text : List ℕ). record { address = name.address; text = text }) key_is in
    ap (names_by text_of) more_is ∙ (map-append (name_by text_of) entries ((key, name.address) ∷ [])
    ∙ (ap (λ (last : Name). names_by text_of entries ++ last ∷ []) one ∙ rw is refl))

-- a key that isn't there goes last
pub entry_goes_last : {K : Type 0} (text_of : K → List ℕ) (entries : List (K × ℕ)) (key : K) (address : ℕ) → has_name (names_by text_of entries) (text_of key) ≡ false
    → insert_entry (λ (one other : K). bytes_eq (text_of one) (text_of other)) entries key address ≡ entries ++ (key, address) ∷ []
entry_goes_last text_of [] key address none = refl
entry_goes_last {K} text_of (entry ∷ entries) key address none =
    let both = or_parts (bytes_eq (text_of key) (text_of entry.0)) (has_name (names_by text_of entries) (text_of key)) none in
    rw both.0 (ap (λ (more : List (K × ℕ)). entry ∷ more) (entry_goes_last {K = K} text_of entries key address both.1))

abbrev other_than : Name → Name → Bool
other_than name other = not (bytes_eq other.text name.text)

-- names other than one, looked at for a text that isn't that one's
has_among_others : (names : List Name) (name : Name) (text : List ℕ) → bytes_eq text name.text ≡ false → has_name (filter (other_than name) names) text ≡ has_name names text
has_among_others [] name text differs = refl
has_among_others (first ∷ names) name text differs = elim (cases_Bool (bytes_eq first.text name.text)) [
  | inl same ↦
      let none : bytes_eq text first.text ≡ false = ap (bytes_eq text) ((bytes_decides first.text name.text).0 same) ∙ differs in
      rw (same, none) (has_among_others names name text differs)
  | inr other ↦ rw other (ap (λ (b : Bool). bytes_eq text first.text || b) (has_among_others names name text differs))
]

one_other : (name last : Name) → bytes_eq last.text name.text ≡ false → filter (other_than name) (last ∷ []) ≡ last ∷ []
one_other name last differs = rw differs refl

none_other : (name last : Name) (b : Bool) → bytes_eq last.text name.text ≡ true → filter (other_than name) (cond b [] (last ∷ [])) ≡ []
none_other name last true same = refl
none_other name last false same = rw same refl

others_of : (name last : Name) (b : Bool) → bytes_eq last.text name.text ≡ false → filter (other_than name) (cond b [] (last ∷ [])) ≡ cond b [] (last ∷ [])
others_of name last true differs = refl
others_of name last false differs = one_other name last differs

-- one more symbol: its name goes last, unless it is there
pub first_seen_more : (names : List Name) (last : Name) → first_seen (names ++ last ∷ []) ≡ with_name (first_seen names) last
first_seen_more [] last = refl
first_seen_more (name ∷ names) last =
    let rest : filter (other_than name) (first_seen (names ++ last ∷ [])) ≡ filter (other_than name) (first_seen names) ++ filter (other_than name) (cond (has_name (first_seen names) last.text) [] (last ∷ [])) =
    ap (filter (other_than name)) (first_seen_more names last) ∙ filter-append (other_than name) (first_seen names) (cond (has_name (first_seen names) last.text) [] (last ∷ []))
    in
    elim (cases_Bool (bytes_eq last.text name.text)) [
      | inl same ↦
          let left : first_seen (name ∷ names ++ last ∷ []) ≡ name ∷ filter (other_than name) (first_seen names) =
          ap (λ (more : List Name). name ∷ more) (rest ∙ ap (λ (more : List Name). filter (other_than name) (first_seen names) ++ more) (none_other name last (has_name (first_seen names) last.text) same) ∙ append-nil (filter (other_than name) (first_seen names)))
          in
          left ∙ name_stays (first_seen (name ∷ names)) last (rw same refl)
      | inr differs ↦
          ap (λ (more : List Name). name ∷ more) (rest ∙ ap (λ (more : List Name). filter (other_than name) (first_seen names) ++ more) (others_of name last (has_name (first_seen names) last.text) differs))
          ∙ rw (differs, has_among_others (first_seen names) name last.text differs) refl
    ]

found_among_others : (names : List Name) (name : Name) (text : List ℕ) → bytes_eq text name.text ≡ false → routine_named (filter (other_than name) names) text ≡ routine_named names text
found_among_others [] name text differs = refl
found_among_others (first ∷ names) name text differs = elim (cases_Bool (bytes_eq first.text name.text)) [
  | inl same ↦
      let none : bytes_eq text first.text ≡ false = ap (bytes_eq text) ((bytes_decides first.text name.text).0 same) ∙ differs in
      rw (same, none) (found_among_others names name text differs)
  | inr other ↦ elim (cases_Bool (bytes_eq text first.text)) [
    | inl here ↦ rw (other, here) refl
    | inr there ↦ rw (other, there) (found_among_others names name text differs)
  ]
]

pub first_keeps : (names : List Name) (text : List ℕ) → routine_named (first_seen names) text ≡ routine_named names text
first_keeps [] text = refl
first_keeps (name ∷ names) text = elim (cases_Bool (bytes_eq text name.text)) [
  | inl same ↦ rw same refl
  | inr differs ↦ rw differs (found_among_others (first_seen names) name text differs ∙ first_keeps names text)
]

abbrev how_often : (text : List ℕ) → List Name → ℕ
how_often text names = count_by (λ (name : Name). bytes_eq text name.text) names

abbrev once : (text : List ℕ) → Name → ℕ
once text name = cond (bytes_eq text name.text) 1 0

how_often-cons : (text : List ℕ) (name : Name) (names : List Name) → how_often text (name ∷ names) ≡ once text name + how_often text names
how_often-cons text name names = sum_by-cons (λ (name : Name). cond (bytes_eq text name.text) 1 0) name names

none_among_others : (names : List Name) (name : Name) (text : List ℕ) → bytes_eq text name.text ≡ true → how_often text (filter (other_than name) names) ≡ 0
none_among_others [] name text same = refl
none_among_others (first ∷ names) name text same = elim (cases_Bool (bytes_eq first.text name.text)) [
  | inl one ↦ rw one (none_among_others names name text same)
  | inr other ↦ elim (cases_Bool (bytes_eq text first.text)) [
    | inl here ↦
        let both : bytes_eq first.text name.text ≡ true = (bytes_decides first.text name.text).1 (sym ((bytes_decides text first.text).0 here) ∙ (bytes_decides text name.text).0 same) in
        absurd (cc)
    | inr there ↦
        let none : once text first ≡ 0 = rw there refl in
        let rest = none_among_others names name text same in
        rw other (how_often-cons text first (filter (other_than name) names) ∙ (ap (λ (n : ℕ). n + how_often text (filter (other_than name) names)) none ∙ ap (λ (n : ℕ). 0 + n) rest))
  ]
]

fewer_among_others : (names : List Name) (name : Name) (text : List ℕ) → how_often text (filter (other_than name) names) ≤ how_often text names
fewer_among_others [] name text = omega arith
fewer_among_others (first ∷ names) name text = elim (cases_Bool (bytes_eq first.text name.text)) [
  | inl one ↦ rw one (omega (arith, fewer_among_others names name text, how_often-cons text first names))
  | inr other ↦ rw other (omega (arith, fewer_among_others names name text, how_often-cons text first names, how_often-cons text first (filter (other_than name) names)))
]

pub names_are_apart : (names : List Name) (text : List ℕ) → how_often text (first_seen names) ≤ 1
names_are_apart [] text = omega arith
names_are_apart (name ∷ names) text =
    let all : how_often text (first_seen (name ∷ names)) ≡ once text name + how_often text (filter (other_than name) (first_seen names)) =
    how_often-cons text name (filter (other_than name) (first_seen names))
    in
    elim (cases_Bool (bytes_eq text name.text)) [
      | inl same ↦
          let one : once text name ≡ 1 = rw same refl in
          omega (arith, all, one, none_among_others (first_seen names) name text same)
      | inr differs ↦
          let none : once text name ≡ 0 = rw differs refl in
          omega (arith, all, none, fewer_among_others (first_seen names) name text, names_are_apart names text)
    ]
