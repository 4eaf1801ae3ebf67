-- What is needed behind a word, passed back to it.
use Rattle.std.proofs.Common.{◌≡◌, ℕ, zero, suc, ◌<◌, Bool, true, false, List, [], ◌∷◌, length, get_or, set, Option, Some, Result, Ok, Err, OnOk, refl, sym, ap, subst, ◌∙◌, inl, inr, arith, get_or-set_other, get_or-set_same}
use Rattle.std.specs.Prelude.{◌⊎◌, bit_or}
use Rattle.std.specs.Int.{bit_at}
use Rattle.std.specs.List.{Contains}
use Rattle.std.specs.Option.{option_and_then, option_map, option_map_or}
use Rattle.std.proofs.lemmas.Bool.{cases_eq}
use Rattle.rv_code.specs.declared.image.Range.{Range}
use Rattle.rv_code.specs.declared.instr.Instr.{Instr}
use Rattle.rv_code.specs.Code.{extents_of}
use Rattle.rv_code.specs.Parts.{class_of, base_of, mask_of, sources_of, written_by}
use Rattle.rv_code.specs.Places.{address_of}
use Rattle.flow_graph.specs.CodeParts.{instr_in}
use Rattle.need_sets.specs.declared.search.Search.{Search}
use Rattle.need_sets.specs.Inner.Before.{GivesNeeded, NeedsBefore}
use Rattle.need_sets.specs.Inner.Search.{mask_in, used_in, IsPassed, IsBacked, AllNeeded, HasBase, AsksFor}
use Rattle.need_sets.specs.Inner.Sources.{led_to}
use Rattle.need_sets.specs.Needed.{NeededFor, IsUsedFor}
use Rattle.need_sets.specs.Needed.NeededFor.{base, feeds, through}
use Rattle.need_sets.specs.Words.{base_at, successors_at}
use Rattle.need_sets.proofs.Backwards.{IsNeededBefore}
use Rattle.need_sets.proofs.Bits.{mask_has, has_mask}
use Rattle.need_sets.proofs.Followed.{led_leads}
use Rattle.need_sets.proofs.Spread.{or_adds, or_has}

pub on_ok_both : {T E P Q R : Type 0} (r : Result T E) → OnOk r P → OnOk r Q → (P → Q → R) → OnOk r R
on_ok_both (Ok x) p q f = f p q
on_ok_both (Err e) p q f = tt

pub on_ok_three : {T E P Q R S : Type 0} (r : Result T E) → OnOk r P → OnOk r Q → OnOk r R → (P → Q → R → S) → OnOk r S
on_ok_three (Ok x) p q r f = f p q r
on_ok_three (Err e) p q r f = tt

-- one mask that has more
more_at : (old new : Search) (place mask : ℕ) → place < length old.masks.items → new.masks.items ≡ set old.masks.items place (bit_or (mask_in old place) mask)
    → mask_in new place ≡ bit_or (mask_in old place) mask
more_at old new place mask inside is = ap (λ masks. get_or masks place 0) is ∙ get_or-set_same old.masks.items place (bit_or (mask_in old place) mask) 0 inside

same_at : (old new : Search) (place mask other : ℕ) → new.masks.items ≡ set old.masks.items place (bit_or (mask_in old place) mask) → (other ≡ place → ⊥)
    → mask_in new other ≡ mask_in old other
same_at old new place mask other is apart =
    ap (λ masks. get_or masks other 0) is ∙ get_or-set_other old.masks.items place other (bit_or (mask_in old place) mask) 0 apart

-- two facts of one word
same_instr : (code : List Range) (place address address' : ℕ) (instr instr' : Instr)
    → address_of (extents_of code) place ≡ Some address → address_of (extents_of code) place ≡ Some address'
    → instr_in code address ≡ Some instr → instr_in code address' ≡ Some instr' → instr ≡ instr'
same_instr code place address address' instr instr' at at' is is' =
    let addresses : address ≡ address' = (let both = sym at ∙ at' in cc) in
    let both : Some instr ≡ Some instr' = sym is ∙ (ap (instr_in code) addresses ∙ is') in
    cc

-- what the word then has
pub passed_here : (code : List Range) (place behind address mask : ℕ) (instr : Instr) (mid new : Search)
    → address_of (extents_of code) place ≡ Some address → instr_in code address ≡ Some instr → IsNeededBefore instr behind mask
    → (GivesNeeded instr behind → used_in mid place ≡ true) → place < length mid.masks.items
    → new.masks.items ≡ set mid.masks.items place (bit_or (mask_in mid place) mask) → new.used.items ≡ mid.used.items → IsPassed code new place behind
passed_here code place behind address mask instr mid new at is needed marked inside masks_are used_are = record {
  masks = λ address' register instr' at' is' needs.
      let same = same_instr code place address address' instr instr' at at' is is' in
      let has : bit_at mask register ≡ 1 = (needed register).1 (subst (λ i. NeedsBefore i behind register) (sym same) needs) in
      ap (λ n. bit_at n register) (more_at mid new place mask inside masks_are) ∙ or_adds (mask_in mid place) mask register has;
  used = λ address' register instr' at' is' writes needs.
      let same = same_instr code place address address' instr instr' at at' is is' in
      ap (λ used. get_or used place false) used_are
      ∙ marked (record { register = register; writes = ap written_by same ∙ writes; needs = needs });
}

-- and that what is known then is so
rule_of : (code : List Range) (bases : ℕ → Option ℕ) (behind address next register : ℕ) (instr : Instr) → instr_in code address ≡ Some instr
    → Contains (successors_at code address) next → ((k : ℕ) → bit_at behind k ≡ 1 → NeededFor code bases next k) → NeedsBefore instr behind register
    → NeededFor code bases address register
rule_of code bases behind address next register instr is follows all needs = elim needs [
  | inl f ↦
      feeds address register f.written next (ap (option_map class_of) is ∙ ap Some f.class) f.real
      (subst (λ (o : Option Instr). Contains (option_map_or sources_of o []) register) (sym is) f.reads) (ap (option_and_then written_by) is ∙ f.writes) follows
      (all f.written f.needs)
  | inr l ↦
      through address register next (λ writes. l.other (sym (ap (option_and_then written_by) is) ∙ writes)) follows (all register l.needs)
]

pub sound_here : (code : List Range) (bases : ℕ → Option ℕ) (taken : Bool) (place goal behind address mask : ℕ) (instr : Instr) (old mid new : Search)
    → address_of (extents_of code) place ≡ Some address → instr_in code address ≡ Some instr → IsNeededBefore instr behind mask
    → led_to code taken place ≡ Some goal → AllNeeded code bases goal behind → place < length mid.masks.items
    → mid.masks.items ≡ old.masks.items
    → ((other : ℕ) → used_in mid other ≡ true → (used_in old other ≡ true) ⊎ ((other ≡ place) × GivesNeeded instr behind))
    → new.masks.items ≡ set mid.masks.items place (bit_or (mask_in mid place) mask) → new.used.items ≡ mid.used.items
    → IsBacked code bases old → IsBacked code bases new
sound_here code bases taken place goal behind address mask instr old mid new at is needed led all inside kept others masks_are used_are sound =
    let leads = led_leads code taken place goal led in
    let from : leads.from ≡ address = (let both = sym leads.at ∙ at in cc) in
    let follows : Contains (successors_at code address) leads.to = subst (λ a. Contains (successors_at code a) leads.to) from leads.follows in
    let behind_all : (k : ℕ) → bit_at behind k ≡ 1 → NeededFor code bases leads.to k = λ k set. all leads.to k leads.there set in
    let before : (other : ℕ) → mask_in mid other ≡ mask_in old other = λ other. ap (λ masks. get_or masks other 0) kept in
    record {
      masks = λ other address' register at' set. elim (cases_eq other place) [
        | inl same ↦
            let here : address ≡ address' = (let both = sym at ∙ (ap (address_of (extents_of code)) (sym same) ∙ at') in cc) in
            let more : bit_at (bit_or (mask_in mid place) mask) register ≡ 1 =
            ap (λ n. bit_at n register) (sym (ap (mask_in new) same ∙ more_at mid new place mask inside masks_are)) ∙ set
            in
            elim (or_has (mask_in mid place) mask register more) [
              | inl known ↦ sound.masks other address' register at' (ap (λ n. bit_at n register) (sym (before other) ∙ ap (mask_in mid) same) ∙ known)
              | inr added ↦
                  subst (λ a. NeededFor code bases a register) here
                  (rule_of code bases behind address leads.to register instr is follows behind_all ((needed register).0 added))
            ]
        | inr apart ↦
            sound.masks other address' register at' (ap (λ n. bit_at n register) (sym (same_at mid new place mask other masks_are apart ∙ before other)) ∙ set)
      ];
      used = λ other address' at' set. elim (others other (sym (ap (λ used. get_or used other false) used_are) ∙ set)) [
        | inl known ↦ sound.used other address' at' known
        | inr gives ↦
            let here : address ≡ address' = (let both = sym at ∙ (ap (address_of (extents_of code)) (sym gives.0) ∙ at') in cc) in
            subst (λ a. IsUsedFor code bases a) here
            (record {
              register = gives.1.register;
              next = leads.to;
              writes = ap (option_and_then written_by) is ∙ gives.1.writes;
              follows = follows;
              needs = behind_all gives.1.register gives.1.needs;
            })
      ];
    }

-- a base that is asked for
pub has_base_here : (code : List Range) (place address register : ℕ) (instr : Instr) (old new : Search) → 0 < register
    → address_of (extents_of code) place ≡ Some address → instr_in code address ≡ Some instr → base_of instr ≡ Some register → place < length old.masks.items
    → new.masks.items ≡ set old.masks.items place (bit_or (mask_in old place) (mask_of (register ∷ []))) → HasBase code new place
has_base_here code place address register instr old new real at is base_is inside masks_are address' register' at' base_is' =
    let addresses : address ≡ address' = (let both = sym at ∙ at' in cc) in
    let here : base_at code address' ≡ Some register = ap (base_at code) (sym addresses) ∙ (ap (option_and_then base_of) is ∙ base_is) in
    let same : register ≡ register' = (let both = sym here ∙ base_is' in cc) in
    ap (λ n. bit_at n register') (more_at old new place (mask_of (register ∷ [])) inside masks_are)
    ∙ or_adds (mask_in old place) (mask_of (register ∷ [])) register'
    (subst (λ n. bit_at (mask_of (register ∷ [])) n ≡ 1) same (mask_has (register ∷ []) register real (0, omega arith, refl)))

pub sound_base_here : (code : List Range) (bases : ℕ → Option ℕ) (place address register : ℕ) (instr : Instr) (old new : Search)
    → address_of (extents_of code) place ≡ Some address → instr_in code address ≡ Some instr → base_of instr ≡ Some register → place < length old.masks.items
    → new.masks.items ≡ set old.masks.items place (bit_or (mask_in old place) (mask_of (register ∷ []))) → new.used.items ≡ old.used.items
    → AsksFor code bases place → IsBacked code bases old → IsBacked code bases new
sound_base_here code bases place address register instr old new at is base_is inside masks_are used_are asks sound = record {
  masks = λ other address' register' at' set. elim (cases_eq other place) [
    | inl same ↦
        let here : address ≡ address' = (let both = sym at ∙ (ap (address_of (extents_of code)) (sym same) ∙ at') in cc) in
        let more : bit_at (bit_or (mask_in old place) (mask_of (register ∷ []))) register' ≡ 1 =
        ap (λ n. bit_at n register') (sym (ap (mask_in new) same ∙ more_at old new place (mask_of (register ∷ [])) inside masks_are)) ∙ set
        in
        elim (or_has (mask_in old place) (mask_of (register ∷ [])) register' more) [
          | inl known ↦ sound.masks other address' register' at' (ap (λ n. bit_at n register') (ap (mask_in old) same) ∙ known)
          | inr added ↦
              let one : register ≡ register' = only register register' (has_mask (register ∷ []) register' added).1 in
              base address' register'
              (subst (λ a. bases a ≡ Some register') here
              (asks address register' at (ap (option_and_then base_of) is ∙ (base_is ∙ ap Some one))))
        ]
    | inr apart ↦
        sound.masks other address' register' at' (ap (λ n. bit_at n register') (sym (same_at old new place (mask_of (register ∷ [])) other masks_are apart)) ∙ set)
  ];
  used = λ other address' at' set. sound.used other address' at' (sym (ap (λ used. get_or used other false) used_are) ∙ set);
}
  where
    only : (one other : ℕ) → Contains (one ∷ []) other → one ≡ other
    only one other (zero, inside, is) = is
    only one other (suc place, inside, is) = absurd (omega arith)
