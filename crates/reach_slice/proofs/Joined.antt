-- Slices and what is needed for the base of one access say the same.
use Rattle.std.proofs.Common.{◌≡◌, ℕ, zero, suc, ◌<◌, true, false, cond, List, Option, Some, None, refl, sym, ap, subst, ◌∙◌, inl, inr, arith}
use Rattle.std.specs.Prelude.{◌≢◌}
use Rattle.std.specs.List.{Contains}
use Rattle.std.specs.Option.{option_and_then, option_map, option_map_or}
use Rattle.std.proofs.lemmas.Bool.{cases_eq, eq-eqb, ne_eqb}
use Rattle.rv_code.specs.declared.image.Range.{Range}
use Rattle.rv_code.specs.declared.instr.Instr.{Instr}
use Rattle.rv_code.specs.declared.instr.Instr.TheVariants as of
use Rattle.rv_code.specs.Parts.{but_zero, base_of, class_of, written_by}
use Rattle.flow_graph.specs.CodeParts.{instr_in}
use Rattle.need_sets.specs.Masks.{base_alone}
use Rattle.need_sets.specs.Needed.{NeededFor, IsUsedFor}
use Rattle.need_sets.specs.Needed.NeededFor.{base, feeds, through}
use Rattle.need_sets.specs.Words.{base_at, written_at, successors_at}
use Rattle.reach_slice.specs.Laws.{IsInSomeSlice}
use Rattle.reach_slice.specs.Slices.{accesses, is_access, ReachesUse, IsInSlice}
use Rattle.reach_slice.specs.Slices.ReachesUse.{at_once, further}
use Rattle.reach_slice.specs.Slices.IsInSlice.{gives_base, gives_source}

-- the base of one access, at it and elsewhere
pub alone_here : (code : List Range) (access : ℕ) → base_alone code access access ≡ base_at code access
alone_here code access = ap (λ b. cond b (base_at code access) None) (eq-eqb access access refl)

pub alone_is : (code : List Range) (access address register : ℕ) → base_alone code access address ≡ Some register → (address ≡ access) × (base_at code access ≡ Some register)
alone_is code access address register is = elim (cases_eq address access) [
  | inl same ↦ (same, ap (base_at code) (sym same) ∙ (sym (ap (λ b. cond b (base_at code address) None) (eq-eqb address access same)) ∙ is))
  | inr apart ↦ absurd (cc (sym (ap (λ b. cond b (base_at code address) None) (ne_eqb address access apart)) ∙ is))
]

-- one step more behind a walk
reaches_on : (code : List Range) (register from to next : ℕ) → ReachesUse code register from to → written_at code to ≢ Some register → Contains (successors_at code to) next
    → ReachesUse code register from next
reaches_on code register from to next (at_once from' to' follows) other leads = further from to next follows other (at_once to next leads)
reaches_on code register from to next (further from' mid to' follows free walk) other leads = further from mid next follows free (reaches_on code register mid to next walk other leads)

-- what is needed for the base of an access is given by words of its slice
needed_in_slice : (code : List Range) (access address register : ℕ) → NeededFor code (base_alone code access) address register
    → (word : ℕ) → written_at code word ≡ Some register → ReachesUse code register word address → IsInSlice code access word
needed_in_slice code access address register (base a r is) word writes walk =
    let (same, based) = alone_is code access address register is in
    gives_base word register based writes (subst (λ n. ReachesUse code register word n) same walk)
needed_in_slice code access address register (feeds a r written next class real reads gives follows needs) word writes walk =
    let user = needed_in_slice code access next written needs address gives (at_once address next follows) in
    gives_source word register address user class reads writes walk
needed_in_slice code access address register (through a r next other follows needs) word writes walk =
    needed_in_slice code access next register needs word writes (reaches_on code register word address next walk other follows)

pub used_in_slice : (code : List Range) (access word : ℕ) → IsUsedFor code (base_alone code access) word → IsInSlice code access word
used_in_slice code access word used =
    needed_in_slice code access used.next used.register used.needs word used.writes (at_once word used.next used.follows)

-- a register that is needed where a word that writes it reaches is needed right behind that word
needed_behind : (code : List Range) (bases : ℕ → Option ℕ) (register from to : ℕ) → ReachesUse code register from to → NeededFor code bases to register
    → (next : ℕ) × Contains (successors_at code from) next × NeededFor code bases next register
needed_behind code bases register from to (at_once from' to' follows) needs = (to, follows, needs)
needed_behind code bases register from to (further from' mid to' follows free walk) needs =
    let (next, leads, needs_next) = needed_behind code bases register mid to walk needs in
    (mid, follows, through mid register next free leads needs_next)

used_by : (code : List Range) (bases : ℕ → Option ℕ) (word register to : ℕ) → written_at code word ≡ Some register → ReachesUse code register word to → NeededFor code bases to register
    → IsUsedFor code bases word
used_by code bases word register to writes walk needs =
    let (next, follows, needs_next) = needed_behind code bases register word to walk needs in
    record { register = register; next = next; writes = writes; follows = follows; needs = needs_next }

-- what is written is no x0
but_zero-some : (rd register : ℕ) → but_zero rd ≡ Some register → 0 < register
but_zero-some zero register is = absurd (cc is)
but_zero-some (suc rd) register is = let same : suc rd ≡ register = cc is in omega arith

written_some : (instr : Instr) (register : ℕ) → written_by instr ≡ Some register → 0 < register
written_some (of.Lui rd imm) register is = but_zero-some rd register is
written_some (of.Auipc rd imm) register is = but_zero-some rd register is
written_some (of.Jal rd imm) register is = but_zero-some rd register is
written_some (of.Jalr rd rs1 imm) register is = but_zero-some rd register is
written_some (of.Branch op rs1 rs2 imm) register is = absurd (cc is)
written_some (of.Load op rd rs1 imm) register is = but_zero-some rd register is
written_some (of.Store op rs1 rs2 imm) register is = absurd (cc is)
written_some (of.OpImm op rd rs1 imm) register is = but_zero-some rd register is
written_some (of.Op op rd rs1 rs2) register is = but_zero-some rd register is
written_some (of.Fence word) register is = absurd (cc is)
written_some of.Ecall register is = let same : 10 ≡ register = cc is in omega arith
written_some of.Ebreak register is = absurd (cc is)
written_some (of.Bad word) register is = absurd (cc is)

some_written : (o : Option Instr) (register : ℕ) → option_and_then written_by o ≡ Some register → 0 < register
some_written None register is = absurd (cc is)
some_written (Some instr) register is = written_some instr register is

pub slice_is_used : (code : List Range) (access word : ℕ) → IsInSlice code access word → IsUsedFor code (base_alone code access) word
slice_is_used code access word (gives_base word' register based writes walk) =
    used_by code (base_alone code access) word register access writes walk (base access register (alone_here code access ∙ based))
slice_is_used code access word (gives_source word' register user within class reads writes walk) =
    let used = slice_is_used code access user within in
    used_by code (base_alone code access) word register user writes walk
    (feeds user register used.register used.next class (some_written (instr_in code word) register writes) reads used.writes used.follows used.needs)

-- what is needed for one base is needed, and what is needed is needed for one
alone_needed : (code : List Range) (access address register : ℕ) → NeededFor code (base_alone code access) address register → NeededFor code (base_at code) address register
alone_needed code access address register (base a r is) =
    let (same, based) = alone_is code access address register is in base address register (ap (base_at code) same ∙ based)
alone_needed code access address register (feeds a r written next class real reads gives follows needs) =
    feeds address register written next class real reads gives follows (alone_needed code access next written needs)
alone_needed code access address register (through a r next other follows needs) = through address register next other follows (alone_needed code access next register needs)

has_base : (instr : Instr) (register : ℕ) → base_of instr ≡ Some register → accesses (class_of instr) ≡ true
has_base (of.Lui rd imm) register is = absurd (cc is)
has_base (of.Auipc rd imm) register is = absurd (cc is)
has_base (of.Jal rd imm) register is = absurd (cc is)
has_base (of.Jalr rd rs1 imm) register is = absurd (cc is)
has_base (of.Branch op rs1 rs2 imm) register is = absurd (cc is)
has_base (of.Load op rd rs1 imm) register is = refl
has_base (of.Store op rs1 rs2 imm) register is = refl
has_base (of.OpImm op rd rs1 imm) register is = absurd (cc is)
has_base (of.Op op rd rs1 rs2) register is = absurd (cc is)
has_base (of.Fence word) register is = absurd (cc is)
has_base of.Ecall register is = absurd (cc is)
has_base of.Ebreak register is = absurd (cc is)
has_base (of.Bad word) register is = absurd (cc is)

some_base : (o : Option Instr) (register : ℕ) → option_and_then base_of o ≡ Some register → option_map_or accesses (option_map class_of o) false ≡ true
some_base None register is = absurd (cc is)
some_base (Some instr) register is = has_base instr register is

one_access : (code : List Range) (address register : ℕ) → NeededFor code (base_at code) address register
    → (access : ℕ) × (is_access code access ≡ true) × NeededFor code (base_alone code access) address register
one_access code address register (base a r is) =
    (address, some_base (instr_in code address) register is, base address register (alone_here code address ∙ is))
one_access code address register (feeds a r written next class real reads gives follows needs) =
    let (access, is, alone) = one_access code next written needs in (access, is, feeds address register written next class real reads gives follows alone)
one_access code address register (through a r next other follows needs) =
    let (access, is, alone) = one_access code next register needs in (access, is, through address register next other follows alone)

-- the words that are used are those of slices
pub used_in_some_slice : (code : List Range) (word : ℕ) → IsUsedFor code (base_at code) word → IsInSomeSlice code word
used_in_some_slice code word used =
    let (access, is, alone) = one_access code used.next used.register used.needs in
    record {
      access = access;
      is = is;
      within = used_in_slice code access word (record { register = used.register; next = used.next; writes = used.writes; follows = used.follows; needs = alone });
    }

pub some_slice_is_used : (code : List Range) (word : ℕ) → IsInSomeSlice code word → IsUsedFor code (base_at code) word
some_slice_is_used code word slice =
    let used = slice_is_used code slice.access word slice.within in
    record {
      register = used.register;
      next = used.next;
      writes = used.writes;
      follows = used.follows;
      needs = alone_needed code slice.access used.next used.register used.needs;
    }
