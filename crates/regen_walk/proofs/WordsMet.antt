-- What a valid schema says of a word.
use Rattle.std.proofs.Common.{◌≡◌, ℕ, ◌<◌, ◌%◌, Bool, true, false, cond, eqb, List, length, get_or, Option, Some, None, refl, sym, ap, subst, ◌∙◌, arith}
use Rattle.std.specs.Prelude.{◌&&◌, ◌||◌, ◌==◌, not, nat_le, is_some, slice_get, IsSome}
use Rattle.std.specs.Option.{option_and_then, option_map_or}
use Rattle.std.proofs.lemmas.Bool.{and_parts, eqb-true, or_parts, not-false}
use Rattle.std.proofs.lemmas.List.Sums.{sum-map}
use Rattle.std.proofs.lemmas.Option.{slice_get-get_or}
use Rattle.rv_code.specs.declared.class.Class.{Class}
use Rattle.rv_code.specs.declared.class.Class.TheVariants.{Plain, Load, Store, Branch, Jump, Indirect, Call, Stop}
use Rattle.rv_code.specs.declared.extent.Extent.{Extent}
use Rattle.rv_code.specs.declared.instr.Instr.{Instr}
use Rattle.rv_code.specs.declared.instr.Instr.TheVariants as instrs
use Rattle.rv_code.specs.Code.{is_code}
use Rattle.rv_code.specs.Parts.{class_of, written_by}
use Rattle.rv_code.specs.Table.{meaning_of}
use Rattle.rv_code.proofs.LawsOfLookUps.{address_of-place_of, place_of-below}
use Rattle.rv_code.proofs.LawsOfPlaces.{length-code_addresses}
use Rattle.schema_form.specs.declared.flags.TheConstants.{CLASSES, FALL_WITNESS, TAKEN_WITNESS, KEPT}
use Rattle.schema_form.specs.declared.word.SchemaWord.{SchemaWord}
use Rattle.schema_form.specs.Flags.{class_in, class_number, is_set, may_be_kept}
use Rattle.schema_form.specs.Rules.{raw_fits, witness_mark, way_of, edge_misfits, misfits_as}
use Rattle.schema_form.specs.SchemaParts.{SchemaParts}
use Rattle.schema_form.specs.Valid.{IsSchema}
use Rattle.regen_walk.specs.declared.met.Met.{Met}
use Rattle.regen_walk.specs.declared.met.Spot.{Spot}
use Rattle.regen_walk.specs.Inner.Met.{IsMet, IsSpot}
use Rattle.regen_walk.specs.Moves.{is_kept}

plain_number : (class : Class) → eqb (class_number class) 0 ≡ true → class ≡ Plain
plain_number Plain is = refl
plain_number Load is = absurd (cc is)
plain_number Store is = absurd (cc is)
plain_number Branch is = absurd (cc is)
plain_number Jump is = absurd (cc is)
plain_number Indirect is = absurd (cc is)
plain_number Call is = absurd (cc is)
plain_number Stop is = absurd (cc is)

-- the raw word of a kept Plain word
raw_plain : (class : Class) (kept : Bool) (raw : ℕ) → class ≡ Plain → kept ≡ true → raw_fits class kept raw ≡ true → class_of (meaning_of raw) ≡ Plain
raw_plain class kept raw is_plain is_kept fits =
    let here : raw_fits Plain true raw ≡ true = ap (λ (c : Class). raw_fits c true raw) (sym is_plain) ∙ ap (λ (k : Bool). raw_fits class k raw) (sym is_kept) ∙ fits in
    plain_number (class_of (meaning_of raw)) (and_parts (eqb (class_number (class_of (meaning_of raw))) 0) (is_some (written_by (meaning_of raw))) here).0

-- one that isn't kept is left out
raw_left_out : (class : Class) (kept : Bool) (raw : ℕ) → class ≡ Plain → kept ≡ false → raw_fits class kept raw ≡ true → raw ≡ 0
raw_left_out class kept raw is_plain is_kept fits =
    let here : raw_fits Plain false raw ≡ true = ap (λ (c : Class). raw_fits c false raw) (sym is_plain) ∙ ap (λ (k : Bool). raw_fits class k raw) (sym is_kept) ∙ fits in
    eqb-true raw 0 here

numbered : (class : Class) → slice_get CLASSES (class_number class) ≡ Some class
numbered Plain = refl
numbered Load = refl
numbered Store = refl
numbered Branch = refl
numbered Jump = refl
numbered Indirect = refl
numbered Call = refl
numbered Stop = refl

-- classes with one number are one
one_class : (one other : Class) → eqb (class_number one) (class_number other) ≡ true → one ≡ other
one_class one other is =
    let both : Some one ≡ Some other = sym (numbered one) ∙ ap (slice_get CLASSES) (eqb-true (class_number one) (class_number other) is) ∙ numbered other in
    cc

not_plain : (class : Class) → (class ≡ Plain → ⊥) → eqb (class_number class) 0 ≡ false
not_plain Plain other = absurd (other refl)
not_plain Load other = refl
not_plain Store other = refl
not_plain Branch other = refl
not_plain Jump other = refl
not_plain Indirect other = refl
not_plain Call other = refl
not_plain Stop other = refl

-- the raw word of another class
raw_other : (class : Class) (kept : Bool) (raw : ℕ) → (class ≡ Plain → ⊥) → raw_fits class kept raw ≡ true → class_of (meaning_of raw) ≡ class
raw_other class kept raw other fits =
    let here : (eqb (class_number (class_of (meaning_of raw))) (class_number class) && (not kept || is_some (written_by (meaning_of raw)))) ≡ true =
    ap (λ b. cond (b && not kept) (raw == 0) (eqb (class_number (class_of (meaning_of raw))) (class_number class) && (not kept || is_some (written_by (meaning_of raw))))) (sym (not_plain class other)) ∙ fits
    in
    one_class (class_of (meaning_of raw)) class (and_parts (eqb (class_number (class_of (meaning_of raw))) (class_number class)) (not kept || is_some (written_by (meaning_of raw))) here).0

call_number : (instr : Instr) → eqb (class_number (class_of instr)) 6 ≡ true → instr ≡ instrs.Ecall
call_number (instrs.Lui rd imm) is = absurd (cc is)
call_number (instrs.Auipc rd imm) is = absurd (cc is)
call_number (instrs.Jal rd imm) is = absurd (cc is)
call_number (instrs.Jalr rd rs1 imm) is = absurd (cc is)
call_number (instrs.Branch op rs1 rs2 imm) is = absurd (cc is)
call_number (instrs.Load op rd rs1 imm) is = absurd (cc is)
call_number (instrs.Store op rs1 rs2 imm) is = absurd (cc is)
call_number (instrs.OpImm op rd rs1 imm) is = absurd (cc is)
call_number (instrs.Op op rd rs1 rs2) is = absurd (cc is)
call_number (instrs.Fence word) is = absurd (cc is)
call_number instrs.Ecall is = refl
call_number instrs.Ebreak is = absurd (cc is)
call_number (instrs.Bad word) is = absurd (cc is)

-- the raw word of a call
raw_call : (class : Class) (kept : Bool) (raw : ℕ) → class ≡ Call → raw_fits class kept raw ≡ true → meaning_of raw ≡ instrs.Ecall
raw_call class kept raw is_call fits =
    let here : raw_fits Call kept raw ≡ true = ap (λ (c : Class). raw_fits c kept raw) (sym is_call) ∙ fits in
    call_number (meaning_of raw) (and_parts (eqb (class_number (class_of (meaning_of raw))) 6) (not kept || is_some (written_by (meaning_of raw))) here).0

-- an edge that fits, and isn't marked, leads to a code word
inner_edge : (stretches : List Extent) (way : Option ℕ) (marked : Bool) (to : ℕ) → edge_misfits stretches way marked ≡ false → way ≡ Some to → marked ≡ false → is_code stretches to ≡ true
inner_edge stretches way marked to fits there free =
    not-false (is_code stretches to)
    (ap (λ (m : Bool). edge_misfits stretches (Some to) m) (sym free) ∙ ap (λ (w : Option ℕ). edge_misfits stretches w marked) (sym there) ∙ fits)

-- one that is marked is there
marked_edge : (stretches : List Extent) (way : Option ℕ) (marked : Bool) → edge_misfits stretches way marked ≡ false → marked ≡ true → IsSome way
marked_edge stretches None marked fits is = absurd (let clash : true ≡ false = sym is ∙ fits in cc)
marked_edge stretches (Some to) marked fits is = refl

-- the parts of what fits
pub record Fits (stretches : List Extent) (address : ℕ) (word : SchemaWord) (class : Class) : Type 0 where
  pub raw : raw_fits class (is_set KEPT word.flags) word.raw ≡ true
  pub edges : (taken : Bool) → edge_misfits stretches (way_of taken class word.raw address) (is_set (witness_mark taken) word.flags) ≡ false

pub fits_from : (stretches : List Extent) (address : ℕ) (word : SchemaWord) (class : Class) → misfits_as stretches address word class ≡ false → Fits stretches address word class
fits_from stretches address word class is =
    let kept = or_parts _ (is_set KEPT word.flags && not (may_be_kept class)) is in
    let last = or_parts _ (edge_misfits stretches (way_of true class word.raw address) (is_set TAKEN_WITNESS word.flags)) kept.0 in
    let first = or_parts _ (edge_misfits stretches (way_of false class word.raw address) (is_set FALL_WITNESS word.flags)) last.0 in
    let mask = or_parts _ (word.mask % 2 == 1) first.0 in
    let raw = or_parts (nat_le 256 word.flags) (not (raw_fits class (is_set KEPT word.flags) word.raw)) mask.0 in
    record {
      raw = not-false (raw_fits class (is_set KEPT word.flags) word.raw) raw.1;
      edges = λ taken. elim taken as (λ t. edge_misfits stretches (way_of t class word.raw address) (is_set (witness_mark t) word.flags) ≡ false) [ true ↦ last.1 | false ↦ first.1 ];
    }

-- a word that fits has a class
pub record Classed (stretches : List Extent) (address : ℕ) (word : SchemaWord) : Type 0 where
  pub class : Class
  pub named : class_in word.flags ≡ Some class
  pub fits : Fits stretches address word class

classed_by : (stretches : List Extent) (address : ℕ) (word : SchemaWord) (class : Option Class) → class_in word.flags ≡ class → option_map_or (misfits_as stretches address word) class true ≡ false
    → Classed stretches address word
classed_by stretches address word None named is = absurd (cc is)
classed_by stretches address word (Some class) named is = record { class = class; named = named; fits = fits_from stretches address word class is }

module _ (parts : SchemaParts) (is : IsSchema parts) where
  pub place_within : (spot : Spot) → IsSpot parts spot → spot.place < length parts.words
  place_within spot there =
      let below = place_of-below parts.stretches spot.place spot.address there in
      let count = length-code_addresses parts.stretches ∙ sum-map (λ (stretch : Extent). stretch.count) parts.stretches in
      omega (arith, below, count, is.words.count)

  pub classed : (spot : Spot) → IsSpot parts spot → (word : SchemaWord) → slice_get parts.words spot.place ≡ Some word → Classed parts.stretches spot.address word
  classed spot there word at =
      classed_by parts.stretches spot.address word (class_in word.flags) refl
      (is.words.each spot.place spot.address word (address_of-place_of parts.stretches spot.place spot.address there) at)

  pub is_met : (spot : Spot) → IsSpot parts spot → (word : SchemaWord) (class : Class) → slice_get parts.words spot.place ≡ Some word → class_in word.flags ≡ Some class
      → IsMet parts spot.address (record { word = word; class = class })
  is_met spot there word class at named =
      let c = classed spot there word at in
      let same : c.class ≡ class = let both : Some c.class ≡ Some class = sym c.named ∙ named in cc in
      let fits : Fits parts.stretches spot.address word class = subst (Fits parts.stretches spot.address word) same c.fits in
      record {
        valid = is;
        there = ap (option_and_then (slice_get parts.words)) there ∙ at;
        named = named;
        plain = λ plain kept. raw_plain class (is_set KEPT word.flags) word.raw plain kept fits.raw;
        left_out = λ plain kept. raw_left_out class (is_set KEPT word.flags) word.raw plain kept fits.raw;
        other = λ other. raw_other class (is_set KEPT word.flags) word.raw other fits.raw;
        call = λ call. raw_call class (is_set KEPT word.flags) word.raw call fits.raw;
        inner = λ taken to way free. inner_edge parts.stretches (way_of taken class word.raw spot.address) (is_set (witness_mark taken) word.flags) to (fits.edges taken) way free;
        marked = λ taken marked. marked_edge parts.stretches (way_of taken class word.raw spot.address) (is_set (witness_mark taken) word.flags) (fits.edges taken) marked;
      }

  -- what is met at a spot
  pub met_of : (spot : Spot) → IsSpot parts spot → (met : Met) × IsMet parts spot.address met
  met_of spot there =
      let none : SchemaWord = record { flags = 0; raw = 0; mask = 0 } in
      let word = get_or parts.words spot.place none in
      let at = slice_get-get_or parts.words spot.place none (place_within spot there) in
      let c = classed spot there word at in
      (record { word = word; class = c.class }, is_met spot there word c.class at c.named)
