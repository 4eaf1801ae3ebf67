-- Parts that are joined one after the other.
use Rattle.std.proofs.Common.{◌≡◌, ℕ, suc, ◌+◌, ◌-◌, ◌<◌, ◌≤◌, List, [], ◌∷◌, ◌++◌, length, get_or, take, drop, sym, ap, ◌∙◌, subst, arith}
use Rattle.std.specs.List.{All}
use Rattle.std.specs.List.Sorted.{IsNonDecreasingBy}
use Rattle.std.proofs.lemmas.List.{drop_more, get_or_default, drop_all}
use Rattle.std.proofs.lemmas.List.Elements.{All-head, All-tail}
use Rattle.rv_code.specs.declared.extent.Extent.{Extent}
use Rattle.elf_image.specs.Inner.Parts.{IsPart, joined_from, joined_of}
use Rattle.elf_image.proofs.Joined.{first_and_rest}

abbrev start_of : Extent → ℕ
start_of extent = extent.start

-- so many of the parts behind the first are joined
pub record IsJoining (parts rest extents : List Extent) (extent : Extent) (index : ℕ) : Type 0 where
  pub joined : extents ++ joined_from extent (drop index rest) ≡ joined_of parts
  pub part : IsPart extent
  pub order : (k : ℕ) (d : Extent) → index ≤ k → k < length rest → extent.start ≤ (get_or rest k d).start
  pub each : All IsPart rest
  pub sorted : IsNonDecreasingBy (λ (part : Extent). part.start) rest

at_first : (first : Extent) (rest extents : List Extent) → All IsPart (first ∷ rest) → IsNonDecreasingBy (λ (part : Extent). part.start) (first ∷ rest) → extents ≡ []
    → IsJoining (first ∷ rest) rest extents first 0
at_first first rest extents each order none =
    record {
      joined = ap (λ xs. xs ++ joined_from first rest) none;
      part = All-head IsPart first rest each;
      order = λ k d above inside. order 0 (suc k) d (omega arith) (omega arith);
      each = All-tail IsPart first rest each;
      sorted = λ i j d less inside. order (suc i) (suc j) d (omega arith) (omega arith);
    }

pub joining_starts : (parts extents : List Extent) (d : Extent) → 0 < length parts → All IsPart parts → IsNonDecreasingBy (λ (part : Extent). part.start) parts → extents ≡ []
    → IsJoining parts (take (length parts - 1) (drop 1 parts)) extents (get_or parts 0 d) 0
joining_starts parts extents d some each order none =
    let first : Extent = get_or parts 0 d in
    let rest : List Extent = take (length parts - 1) (drop 1 parts) in
    let whole : first ∷ rest ≡ parts = first_and_rest parts d some in
    subst (λ all. IsJoining all rest extents first 0) whole
    (at_first first rest extents
    (subst (λ all. All IsPart all) (sym whole) each)
    (subst (λ all. IsNonDecreasingBy (λ (part : Extent). part.start) all) (sym whole) order)
    none)

pub joining_goes_on : (parts rest extents more : List Extent) (extent next : Extent) (index : ℕ) (d : Extent) → index < length rest
    → IsJoining parts rest extents extent index
    → ((behind : List Extent) → more ++ joined_from next behind ≡ extents ++ joined_from extent (get_or rest index d ∷ behind))
    → IsPart next → next.start ≤ (get_or rest index d).start
    → IsJoining parts rest more next (index + 1)
joining_goes_on parts rest extents more extent next index d inside joining added is below =
    record {
      joined = added (drop (index + 1) rest)
          ∙ ap (λ xs. extents ++ joined_from extent xs) (sym (drop_more rest index d inside))
          ∙ joining.joined;
      part = is;
      order = λ k e above within.
          let same : get_or rest index d ≡ get_or rest index e = get_or_default rest index d e inside in
          let starts : (get_or rest index d).start ≡ (get_or rest index e).start = ap start_of same in
          omega (arith, joining.sorted index k e (omega arith) within);
      each = joining.each;
      sorted = joining.sorted;
    }

pub joining_ends : (parts rest extents : List Extent) (extent : Extent) (index : ℕ) → length rest ≤ index → IsJoining parts rest extents extent index
    → extents ++ extent ∷ [] ≡ joined_of parts
joining_ends parts rest extents extent index all joining =
    sym (ap (λ xs. extents ++ joined_from extent xs) (drop_all index rest all)) ∙ joining.joined
