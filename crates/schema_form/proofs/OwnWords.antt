-- What a schema has for the code words of an image is allowed.
use Rattle.std.proofs.Common.{◌≡◌, inl, inr, ℕ, zero, suc, ◌+◌, ◌*◌, ◌/◌, ◌%◌, ◌<◌, ◌≤◌, ◌^◌, Bool, true, false, cond, List, Option, Some, None, is_some, refl, sym, ap, ◌∙◌, arith}
use Rattle.std.specs.Prelude.{◌↔◌, IsTrue, position, ◌&&◌, ◌||◌, ◌==◌, not, nat_le, slice_get}
use Rattle.std.specs.Option.{option_map, option_map_or, option_and_then}
use Rattle.std.proofs.lemmas.Bool.{cases_Bool, cases_eq, eq-eqb, eqb-true, ne_eqb, lt-leb, and_parts, and_from, or_from}
use Rattle.std.proofs.lemmas.Nat.Bits.{bit_at_lowest}
use Rattle.rv_code.specs.declared.class.Class.{Class}
use Rattle.rv_code.specs.declared.class.Class.TheVariants.{Plain, Load, Store, Branch, Jump, Indirect, Call, Stop}
use Rattle.rv_code.specs.declared.instr.Instr.{Instr}
use Rattle.rv_code.specs.declared.image.Range.{Range}
use Rattle.rv_code.specs.Code.{extents_of}
use Rattle.rv_code.specs.Parts.{class_of, target_of, base_of, written_by, but_zero}
use Rattle.rv_code.specs.Table.{meaning_of}
use Rattle.rv_code.specs.Ways.{way_to}
use Rattle.flow_graph.specs.declared.block.Block.{Block}
use Rattle.flow_graph.specs.declared.edge.Edge.{Edge}
use Rattle.flow_graph.specs.CodeParts.{CodeParts, has_code, instr_in}
use Rattle.flow_graph.specs.Blocks.{blocks_of, block_at, holds}
use Rattle.flow_graph.specs.Edges.{edges_of, kind_by, is_taken_kind, way_among}
use Rattle.flow_graph.specs.Leaders.{is_leader}
use Rattle.flow_graph.specs.Laws.{BlocksAreRuns, WordsAreInOneBlock, IsEdge}
use Rattle.flow_graph.proofs.LawsOfEdges.{edges_join, taken_again}
use Rattle.flow_tree.specs.WitnessEdges.{ends_of, CutsCycles}
use Rattle.need_sets.specs.Needed.{base, feeds, through, IsNeeded, IsUsed}
use Rattle.need_sets.specs.Words.{class_at}
use Rattle.schema_form.specs.declared.flags.TheConstants.{FALL_WITNESS, TAKEN_WITNESS, KEPT}
use Rattle.schema_form.specs.declared.word.SchemaWord.{SchemaWord}
use Rattle.schema_form.specs.Flags.{class_number, class_in, is_set, may_be_kept}
use Rattle.schema_form.specs.declared.flags.TheConstants.{CLASSES}
use Rattle.schema_form.specs.OfImage.{IsRecorded, GivesKept, IsSchemaWordOf, flags_of, mark_if}
use Rattle.schema_form.specs.Rules.{raw_fits, witness_mark, way_of, edge_misfits, misfits_as, word_misfits}
use Rattle.schema_form.proofs.Rows.{all_at}
use Rattle.schema_form.proofs.WordBlocks.{edge_for, leaving_ends}

-- flags have the class and the marks that they were made of
abbrev bit : Bool → ℕ
bit b = cond b 1 0

bit_small : (b : Bool) → bit b ≤ 1
bit_small true = omega arith
bit_small false = omega arith

mark_bit : (mark : ℕ) (b : Bool) → mark_if mark b ≡ mark * bit b
mark_bit mark true = omega arith
mark_bit mark false = omega arith

class_small : (class : Class) → class_number class < 8
class_small Plain = omega arith
class_small Load = omega arith
class_small Store = omega arith
class_small Branch = omega arith
class_small Jump = omega arith
class_small Indirect = omega arith
class_small Call = omega arith
class_small Stop = omega arith

test_of : (n : ℕ) (b : Bool) → n ≡ bit b → (n == 1) ≡ b
test_of n true is = eq-eqb n 1 is
test_of n false is = ne_eqb n 1 (λ same. absurd (omega (arith, is, same)))

class_again : (class : Class) (n : ℕ) → n ≡ class_number class → (n < 8) × (class_in n ≡ Some class)
class_again Plain n is = (omega (arith, is), ap class_in is)
class_again Load n is = (omega (arith, is), ap class_in is)
class_again Store n is = (omega (arith, is), ap class_in is)
class_again Branch n is = (omega (arith, is), ap class_in is)
class_again Jump n is = (omega (arith, is), ap class_in is)
class_again Indirect n is = (omega (arith, is), ap class_in is)
class_again Call n is = (omega (arith, is), ap class_in is)
class_again Stop n is = (omega (arith, is), ap class_in is)

module _ (class : Class) (leader fall taken kept : Bool) where
  abbrev made : ℕ
  made = flags_of class leader fall taken kept

  sum_is : made ≡ class_number class + 16 * bit leader + 32 * bit fall + 64 * bit taken + 128 * bit kept
  sum_is = λ i. class_number class + mark_bit 16 leader i + mark_bit 32 fall i + mark_bit 64 taken i + mark_bit 128 kept i

  pub made_small : made < 256
  made_small = omega (arith, sum_is, class_small class, bit_small leader, bit_small fall, bit_small taken, bit_small kept)

  pub made_class : class_in made ≡ Some class
  made_class =
      let low : made % 16 ≡ class_number class = omega (arith, sum_is, class_small class, bit_small leader, bit_small fall, bit_small taken, bit_small kept) in
      let small = class_again class (made % 16) low in
      let same : made % 16 % 16 ≡ made % 16 = omega (arith, small.0) in
      sym (ap (slice_get CLASSES) same) ∙ small.1

  pub made_fall : is_set FALL_WITNESS made ≡ fall
  made_fall = test_of (made / 32 % 2) fall (omega (arith, sum_is, class_small class, bit_small leader, bit_small fall, bit_small taken, bit_small kept))

  pub made_taken : is_set TAKEN_WITNESS made ≡ taken
  made_taken = test_of (made / 64 % 2) taken (omega (arith, sum_is, class_small class, bit_small leader, bit_small fall, bit_small taken, bit_small kept))

  pub made_kept : is_set KEPT made ≡ kept
  made_kept = test_of (made / 128 % 2) kept (omega (arith, sum_is, class_small class, bit_small leader, bit_small fall, bit_small taken, bit_small kept))

-- x0 is never needed
but_zero_some : (register : ℕ) → but_zero register ≡ Some 0 → ⊥
but_zero_some zero is = cc is
but_zero_some (suc register) is = cc is

base_some : (instr : Instr) → base_of instr ≡ Some 0 → ⊥
base_some (Instr.Lui rd imm) is = cc is
base_some (Instr.Auipc rd imm) is = cc is
base_some (Instr.Jal rd imm) is = cc is
base_some (Instr.Jalr rd rs1 imm) is = cc is
base_some (Instr.Branch op rs1 rs2 imm) is = cc is
base_some (Instr.Load op rd rs1 imm) is = but_zero_some rs1 is
base_some (Instr.Store op rs1 rs2 imm) is = but_zero_some rs1 is
base_some (Instr.OpImm op rd rs1 imm) is = cc is
base_some (Instr.Op op rd rs1 rs2) is = cc is
base_some (Instr.Fence word) is = cc is
base_some Instr.Ecall is = cc is
base_some Instr.Ebreak is = cc is
base_some (Instr.Bad word) is = cc is

base_in : (instr : Option Instr) → option_and_then base_of instr ≡ Some 0 → ⊥
base_in None is = cc is
base_in (Some instr) is = base_some instr is

pub never_x0 : (code : List Range) (address register : ℕ) → IsNeeded code address register → register ≡ 0 → ⊥
never_x0 code _ _ (base address register is) same = base_in (instr_in code address) (is ∙ ap (λ (r : ℕ). Some r) same)
never_x0 code _ _ (feeds address register written next class real reads writes follows needs) same = absurd (omega (arith, real, same))
never_x0 code _ _ (through address register next other follows needs) same = never_x0 code next register needs same

-- a Plain word has no direct target
plain_stays : (instr : Instr) (address : ℕ) → class_number (class_of instr) ≡ 0 → target_of instr address ≡ None
plain_stays (Instr.Lui rd imm) address is = refl
plain_stays (Instr.Auipc rd imm) address is = refl
plain_stays (Instr.Jal rd imm) address is = absurd (omega (arith, is))
plain_stays (Instr.Jalr rd rs1 imm) address is = refl
plain_stays (Instr.Branch op rs1 rs2 imm) address is = absurd (omega (arith, is))
plain_stays (Instr.Load op rd rs1 imm) address is = refl
plain_stays (Instr.Store op rs1 rs2 imm) address is = refl
plain_stays (Instr.OpImm op rd rs1 imm) address is = refl
plain_stays (Instr.Op op rd rs1 rs2) address is = refl
plain_stays (Instr.Fence word) address is = refl
plain_stays Instr.Ecall address is = refl
plain_stays Instr.Ebreak address is = refl
plain_stays (Instr.Bad word) address is = refl

zero_stays : (address : ℕ) → target_of (meaning_of 0) address ≡ None
unfolding meaning_of
zero_stays address = refl

-- what is kept is used
kept_used : (code : List Range) (address : ℕ) → GivesKept code address → IsUsed code address
kept_used code address (inl kept) = kept.1
kept_used code address (inr (load, inl used)) = used.1
kept_used code address (inr (load, inr (inl call))) = let clash : ◌≡◌ {A = Option Class} (Some Load) (Some Call) = sym load ∙ call in absurd (cc clash)
kept_used code address (inr (load, inr (inr jump))) = let clash : ◌≡◌ {A = Option Class} (Some Load) (Some Indirect) = sym load ∙ jump in absurd (cc clash)

may_keep : (code : List Range) (address : ℕ) (class : Class) → class_at code address ≡ Some class → GivesKept code address → may_be_kept class ≡ true
may_keep code address class is (inl kept) = let same : Plain ≡ class = one_class (sym kept.0 ∙ is) in ap may_be_kept (sym same)
  where
    one_class : ◌≡◌ {A = Option Class} (Some Plain) (Some class) → Plain ≡ class
    one_class both = cc both
may_keep code address class is (inr load) = let same : Load ≡ class = one_class (sym load.0 ∙ is) in ap may_be_kept (sym same)
  where
    one_class : ◌≡◌ {A = Option Class} (Some Load) (Some class) → Load ≡ class
    one_class both = cc both

module _ (parts : CodeParts) (marks : List Bool) (runs : BlocksAreRuns parts) (once : WordsAreInOneBlock parts) (cuts : CutsCycles (edges_of parts) marks) where
  -- a way that leads out of the code is recorded
  pub out_recorded : (taken : Bool) (address target : ℕ) → address + 4 < 2 ^ 32 → has_code parts address ≡ true → way_among parts.code taken address ≡ Some target → has_code parts target ≡ false
      → IsRecorded parts marks taken address
  out_recorded taken address target small code way none =
      let edge = edge_for parts runs once taken address target code (leaving_ends parts address target taken small way none) way in
      let nowhere : block_at parts target ≡ None = ap (λ t. cond t (position (λ (block : Block). holds block target) (blocks_of parts)) None) none in
      let made : ends_of (edges_of parts) edge.number ≡ Some (edge.source, None) =
      ap (option_map (λ (e : Edge). (e.source, e.to))) edge.there ∙ ap (λ (to : Option ℕ). Some (edge.source, to)) nowhere in
      record {
        number = edge.number;
        edge = record { from = address; kind = kind_by taken; source = edge.source; to = block_at parts target; target = target };
        there = edge.there;
        from = refl;
        kind = refl;
        marked = cuts.leaving edge.number (record { from = edge.source; ends = made });
      }

  -- a recorded way is one that the word has
  pub recorded_way : (taken : Bool) (address : ℕ) → IsRecorded parts marks taken address → way_among parts.code taken address ≡ None → ⊥
  recorded_way taken address recorded none =
      let is : IsEdge parts recorded.edge = all_at (IsEdge parts) (edges_of parts) recorded.number recorded.edge (edges_join parts) recorded.there in
      let there : way_among parts.code taken address ≡ Some recorded.edge.target =
      sym (λ i. way_among parts.code (way i) (recorded.from i)) ∙ is.way in
      let clash : ◌≡◌ {A = Option ℕ} None (Some recorded.edge.target) = sym none ∙ there in
      cc clash
    where
      way : is_taken_kind recorded.edge.kind ≡ taken
      way = ap is_taken_kind recorded.kind ∙ taken_again taken

  module _ (address : ℕ) (word : SchemaWord) (small : address + 4 < 2 ^ 32) (code : has_code parts address ≡ true) (is : IsSchemaWordOf parts marks address word) where
    abbrev pub instr : Instr
    instr = meaning_of is.value

    abbrev pub class : Class
    class = class_of instr

    instr_is : instr_in parts.code address ≡ Some instr
    instr_is = ap (option_map meaning_of) is.there

    class_is : class_at parts.code address ≡ Some class
    class_is = ap (option_map class_of) instr_is

    pub class_found : class_in word.flags ≡ Some class
    class_found = ap class_in is.flags ∙ made_class class _ is.fall is.taken is.kept

    abbrev pub mark_of : Bool → Bool
    mark_of taken = cond taken is.taken is.fall

    pub mark_found : (taken : Bool) → is_set (witness_mark taken) word.flags ≡ mark_of taken
    mark_found true = ap (is_set TAKEN_WITNESS) is.flags ∙ made_taken class _ is.fall is.taken is.kept
    mark_found false = ap (is_set FALL_WITNESS) is.flags ∙ made_fall class _ is.fall is.taken is.kept

    pub mark_tells : (taken : Bool) → IsTrue (mark_of taken) ↔ IsRecorded parts marks taken address
    mark_tells true = is.is_taken
    mark_tells false = is.is_fall

    kept_found : is_set KEPT word.flags ≡ is.kept
    kept_found = ap (is_set KEPT) is.flags ∙ made_kept class _ is.fall is.taken is.kept

    target_by : (left : Bool) → ((class_number class == 0) && not is.kept) ≡ left → word.raw ≡ cond left 0 is.value → target_of (meaning_of word.raw) address ≡ target_of instr address
    target_by true when raw =
        let plain = eqb-true (class_number class) 0 (and_parts (class_number class == 0) (not is.kept) when).0 in
        ap (λ (n : ℕ). target_of (meaning_of n) address) raw ∙ zero_stays address ∙ sym (plain_stays instr address plain)
    target_by false when raw = ap (λ (n : ℕ). target_of (meaning_of n) address) raw

    pub way_found : (taken : Bool) → way_of taken class word.raw address ≡ way_among parts.code taken address
    way_found true =
        target_by ((class_number class == 0) && not is.kept) refl is.raw ∙ sym (ap (option_and_then (λ (i : Instr). way_to true i address)) instr_is)
    way_found false = sym (ap (option_and_then (λ (i : Instr). way_to false i address)) instr_is)

    by_way : (taken marked : Bool) (way : Option ℕ) → (IsTrue marked ↔ IsRecorded parts marks taken address) → way_among parts.code taken address ≡ way
        → edge_misfits (extents_of parts.code) way marked ≡ false
    by_way taken true None tells found = absurd (recorded_way taken address (tells.0 refl) found)
    by_way taken false None tells found = refl
    by_way taken true (Some target) tells found = refl
    by_way taken false (Some target) tells found = elim (cases_Bool (has_code parts target)) [
      | inl inside ↦ ap not inside
      | inr outside ↦
          let clash : false ≡ true = tells.1 (out_recorded taken address target small code found outside) in absurd (cc clash)
    ]

    edge_fits : (taken : Bool) → edge_misfits (extents_of parts.code) (way_of taken class word.raw address) (is_set (witness_mark taken) word.flags) ≡ false
    edge_fits taken =
        (λ i. edge_misfits (extents_of parts.code) (way_found taken i) (mark_found taken i)) ∙ by_way taken (mark_of taken) (way_among parts.code taken address) (mark_tells taken) refl

    writes_kept : (kept : Bool) → (IsTrue kept → GivesKept parts.code address) → (not kept || is_some (written_by instr)) ≡ true
    writes_kept false tells = refl
    writes_kept true tells =
        let used = kept_used parts.code address (tells refl) in
        let written : written_by instr ≡ Some used.register = sym (ap (option_and_then written_by) instr_is) ∙ used.writes in
        ap is_some written

    raw_by : (left : Bool) → word.raw ≡ cond left 0 is.value
        → cond left (word.raw == 0) ((class_number (class_of (meaning_of word.raw)) == class_number class) && (not is.kept || is_some (written_by (meaning_of word.raw)))) ≡ true
    raw_by true raw = eq-eqb word.raw 0 raw
    raw_by false raw =
        ap (λ (n : ℕ). (class_number (class_of (meaning_of n)) == class_number class) && (not is.kept || is_some (written_by (meaning_of n)))) raw
        ∙ and_from _ _ (eq-eqb (class_number class) (class_number class) refl) (writes_kept is.kept is.is_kept.0)

    raw_allowed : raw_fits class (is_set KEPT word.flags) word.raw ≡ true
    raw_allowed = ap (λ (kept : Bool). raw_fits class kept word.raw) kept_found ∙ raw_by ((class_number class == 0) && not is.kept) is.raw

    mask_even : (word.mask % 2 == 1) ≡ false
    mask_even = elim (cases_eq (word.mask % 2) 1) [
      | inl odd ↦ absurd (never_x0 parts.code address 0 ((is.needs 0).0 (bit_at_lowest word.mask ∙ odd)) refl)
      | inr even ↦ ne_eqb (word.mask % 2) 1 even
    ]

    keeps_rightly : (kept : Bool) → (IsTrue kept → GivesKept parts.code address) → (kept && not (may_be_kept class)) ≡ false
    keeps_rightly false tells = refl
    keeps_rightly true tells = ap not (may_keep parts.code address class class_is (tells refl))

    few_marks : nat_le 256 word.flags ≡ false
    few_marks = lt-leb 256 word.flags (let made = is.flags in omega (arith, made, made_small class (is_leader parts address) is.fall is.taken is.kept))

    pub word_fits : word_misfits (extents_of parts.code) address word ≡ false
    word_fits =
        ap (λ (c : Option Class). option_map_or (misfits_as (extents_of parts.code) address word) c true) class_found
        ∙ or_from _ _ (or_from _ _ (or_from _ _ (or_from _ _ (or_from _ _ few_marks (ap not raw_allowed)) mask_even) (edge_fits false)) (edge_fits true))
        (ap (λ (kept : Bool). kept && not (may_be_kept class)) kept_found ∙ keeps_rightly is.kept is.is_kept.0)
