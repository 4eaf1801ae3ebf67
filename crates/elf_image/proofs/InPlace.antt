-- Program headers that are loaded, in the order of their addresses: each ends at or before the start of the next.
use Rattle.std.proofs.Common.{◌≡◌, ℕ, suc, ◌<◌, ◌≤◌, Bool, true, false, cond, leb, List, [], ◌∷◌, get_or, map, refl, sym, ap, ◌∙◌, inl, inr, subst, arith}
use Rattle.std.specs.Prelude.{◌⊎◌, ◌≢◌, ⊤, ◌==◌, not, nat_lt}
use Rattle.std.specs.List.{All, AllPairs}
use Rattle.std.proofs.lemmas.Bool.{cases_Bool, and_parts, and_cases, ltb-false, leb-true, leb-false}
use Rattle.std.proofs.lemmas.Bool.Decides.{nat_tests}
use Rattle.std.proofs.lemmas.List.Elements.{All-head, All-tail, All-weaker}
use Rattle.std.proofs.lemmas.List.Sorted.{All-permutation}
use Rattle.elf_raw.specs.declared.segment.RawSegment.{RawSegment}
use Rattle.rv_code.specs.Ordered.{put_in, ordered}
use Rattle.rv_code.proofs.LawsOfLists.{ordered-IsPermutation}
use Rattle.elf_image.specs.Loads.{is_load, load_end, shares_byte}
use Rattle.elf_image.proofs.GoodLoads.{IsGoodLoad, IsGoodLoads}

-- ordering what is made of the elements
pub ordered-map : {X Y : Type 0} (key : Y → ℕ) (f : X → Y) (xs : List X) → ordered key (map f xs) ≡ map f (ordered (λ x. key (f x)) xs)
ordered-map key f [] = refl
ordered-map key f (x ∷ xs) = ap (put_in key (f x)) (ordered-map key f xs) ∙ put_in-map key f x (ordered (λ x. key (f x)) xs)
  where
    put_in-map : {X Y : Type 0} (key : Y → ℕ) (f : X → Y) (x : X) (ys : List X) → put_in key (f x) (map f ys) ≡ map f (put_in (λ x. key (f x)) x ys)
    put_in-map key f x [] = refl
    put_in-map key f x (y ∷ ys) = elim (cases_Bool (leb (key (f x)) (key (f y)))) [
      | inl front ↦ rw front
      | inr behind ↦ rw behind (ap (λ zs. f y ∷ zs) (put_in-map key f x ys))
    ]

-- the first begins at `low` or behind it, and each other one at the end of the one before or behind it
abbrev pub StandFrom : ℕ → List RawSegment → Type 0
StandFrom low [] = ⊤
StandFrom low (segment ∷ segments) = (low ≤ segment.vaddr) × StandFrom (load_end segment) segments

pub load_some : (segment : RawSegment) → is_load segment ≡ true → 0 < segment.memsz
load_some segment load = some segment.memsz (and_parts _ _ load).1
  where
    some : (n : ℕ) → not (n == 0) ≡ true → 0 < n
    some n is = grind (arith, nat_tests)

-- two that have bytes and share none
pub apart_cases : (one other : RawSegment) → shares_byte one other ≡ false → (load_end other ≤ one.vaddr) ⊎ (load_end one ≤ other.vaddr)
apart_cases one other apart = elim (and_cases (nat_lt one.vaddr (load_end other)) (nat_lt other.vaddr (load_end one)) apart) [
  | inl behind ↦ inl (ltb-false one.vaddr (load_end other) behind)
  | inr before ↦ inr (ltb-false other.vaddr (load_end one) before)
]

-- it has bytes, and none in common with another
pub record IsApart (one other : RawSegment) : Type 0 where
  pub some : 0 < other.memsz
  pub none : shares_byte other one ≡ false

put_in-StandFrom : (low : ℕ) (one : RawSegment) (others : List RawSegment) → low ≤ one.vaddr → 0 < one.memsz → All (IsApart one) others → StandFrom low others
    → StandFrom low (put_in (λ (s : RawSegment). s.vaddr) one others)
put_in-StandFrom low one [] above some apart stand = (above, tt)
put_in-StandFrom low one (other ∷ others) above some apart stand =
    let first : IsApart one other = All-head (IsApart one) other others apart in
    let has : 0 < other.memsz = first.some in
    elim (cases_Bool (leb one.vaddr other.vaddr)) [
      | inl front ↦
          let order : one.vaddr ≤ other.vaddr = leb-true one.vaddr other.vaddr front in
          let ends : load_end one ≤ other.vaddr = elim (apart_cases other one first.none) [ inl other_behind ↦ other_behind | inr one_behind ↦ omega arith ] in
          subst (λ b. StandFrom low (cond b (one ∷ other ∷ others) (other ∷ put_in (λ (s : RawSegment). s.vaddr) one others))) (sym front) (above, (ends, stand.1))
      | inr behind ↦
          let order : other.vaddr < one.vaddr = leb-false one.vaddr other.vaddr behind in
          let ends : load_end other ≤ one.vaddr = elim (apart_cases other one first.none) [ inl other_behind ↦ omega arith | inr one_behind ↦ one_behind ] in
          let rest = put_in-StandFrom (load_end other) one others ends some (All-tail (IsApart one) other others apart) stand.1 in
          subst (λ b. StandFrom low (cond b (one ∷ other ∷ others) (other ∷ put_in (λ (s : RawSegment). s.vaddr) one others))) (sym behind) (stand.0, rest)
    ]

ordered-StandFrom : (loads : List RawSegment) → All (λ s. 0 < s.memsz) loads → AllPairs (λ earlier later. shares_byte later earlier ≡ false) loads
    → StandFrom 0 (ordered (λ (s : RawSegment). s.vaddr) loads)
ordered-StandFrom [] some apart = tt
ordered-StandFrom (one ∷ loads) some apart =
    let each : All (IsApart one) loads = λ k d within. record {
      some = some (suc k) d (omega arith);
      none = apart 0 (suc k) d (omega arith) (omega arith);
    }
    in
    let moved : All (IsApart one) (ordered (λ (s : RawSegment). s.vaddr) loads) =
    All-permutation (IsApart one) loads (ordered (λ (s : RawSegment). s.vaddr) loads) (ordered-IsPermutation (λ (s : RawSegment). s.vaddr) loads) each
    in
    put_in-StandFrom 0 one (ordered (λ (s : RawSegment). s.vaddr) loads) (omega arith) (some 0 one (omega arith)) moved
    (ordered-StandFrom loads (All-tail (λ s. 0 < s.memsz) one loads some) (λ i j d less within. apart (suc i) (suc j) d (omega arith) (omega arith)))

-- loads of which none offends stand one behind the other
pub good-StandFrom : (noted : Bool) (loads : List RawSegment) → IsGoodLoads noted loads → StandFrom 0 (ordered (λ (s : RawSegment). s.vaddr) loads)
good-StandFrom noted loads good =
    ordered-StandFrom loads (All-weaker (IsGoodLoad noted) (λ s. 0 < s.memsz) (λ s fine. load_some s fine.load) loads good.each) good.apart

-- and no two of them begin at one address
pub apart_starts : (noted : Bool) (loads : List RawSegment) → IsGoodLoads noted loads → AllPairs (λ one other. one.vaddr ≢ other.vaddr) loads
apart_starts noted loads good i j d less within same =
    let first : 0 < (get_or loads i d).memsz = load_some (get_or loads i d) (good.each i d (omega arith)).load in
    let second : 0 < (get_or loads j d).memsz = load_some (get_or loads j d) (good.each j d within).load in
    elim (apart_cases (get_or loads j d) (get_or loads i d) (good.apart i j d less within)) [ inl one_behind ↦ omega arith | inr other_behind ↦ omega arith ]
