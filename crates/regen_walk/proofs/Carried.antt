-- A word that goes on without a record is carried out by its instruction alone.
use Rattle.std.proofs.Common.{◌≡◌, ℕ, ◌+◌, Bool, true, false, cond, List, Option, Some, None, refl, sym, ap, subst, ◌∙◌}
use Rattle.ae_nums.specs.declared.item.Item.{Item}
use Rattle.rv_code.specs.declared.class.Class.{Class}
use Rattle.rv_code.specs.declared.class.Class.TheVariants as classes
use Rattle.rv_code.specs.declared.instr.Instr.{Instr}
use Rattle.rv_code.specs.declared.instr.Instr.TheVariants.{Lui, Auipc, Jal, Jalr, Branch, Load, Store, OpImm, Op, Fence, Ecall, Ebreak, Bad}
use Rattle.rv_code.specs.Parts.{class_of}
use Rattle.rv_code.specs.Table.{meaning_of}
use Rattle.schema_form.specs.SchemaParts.{SchemaParts}
use Rattle.regen_walk.specs.declared.met.Met.{Met}
use Rattle.regen_walk.specs.Accesses.{access_by, carried_out_plain, with_written}
use Rattle.regen_walk.specs.FreeArcs.{goes_quietly}
use Rattle.regen_walk.specs.Inner.Going.{IsCarriedOut, registers_behind}
use Rattle.regen_walk.specs.Inner.Met.{IsMet}
use Rattle.regen_walk.specs.Labels.{Quiet}
use Rattle.regen_walk.specs.Moves.{goes_on, is_kept, move_by_class}

-- what an instruction touches and leaves
pub record Does (instr : Instr) (access : Option Item) (now : List ℕ) (at : ℕ) (before : List ℕ) : Type 0 where
  pub touched : access_by instr before ≡ access
  pub left : registers_behind instr at before ≡ now

module _ (at : ℕ) (before : List ℕ) where
  abbrev access_as : Class → Instr → Option Item
  access_as classes.Load instr = access_by instr before
  access_as classes.Store instr = access_by instr before
  access_as classes.Plain instr = None
  access_as classes.Branch instr = None
  access_as classes.Jump instr = None
  access_as classes.Indirect instr = None
  access_as classes.Call instr = None
  access_as classes.Stop instr = None

  abbrev registers_as : Class → Instr → List ℕ
  registers_as classes.Plain instr = carried_out_plain instr at before
  registers_as classes.Jump instr = with_written instr before (at + 4)
  registers_as classes.Load instr = before
  registers_as classes.Store instr = before
  registers_as classes.Branch instr = before
  registers_as classes.Indirect instr = before
  registers_as classes.Call instr = before
  registers_as classes.Stop instr = before

  does : (instr : Instr) → Does instr (access_as (class_of instr) instr) (registers_as (class_of instr) instr) at before
  does (Lui rd imm) = record { touched = refl; left = refl }
  does (Auipc rd imm) = record { touched = refl; left = refl }
  does (OpImm op rd rs1 imm) = record { touched = refl; left = refl }
  does (Op op rd rs1 rs2) = record { touched = refl; left = refl }
  does (Fence word) = record { touched = refl; left = refl }
  does (Jal rd imm) = record { touched = refl; left = refl }
  does (Jalr rd rs1 imm) = record { touched = refl; left = refl }
  does (Branch op rs1 rs2 imm) = record { touched = refl; left = refl }
  does (Load op rd rs1 imm) = record { touched = refl; left = refl }
  does (Store op rs1 rs2 imm) = record { touched = refl; left = refl }
  does Ecall = record { touched = refl; left = refl }
  does Ebreak = record { touched = refl; left = refl }
  does (Bad word) = record { touched = refl; left = refl }

  does_as : (instr : Instr) (class : Class) → class_of instr ≡ class → Does instr (access_as class instr) (registers_as class instr) at before
  does_as instr class is = subst (λ (c : Class). Does instr (access_as c instr) (registers_as c instr) at before) is (does instr)

  -- the word 0 is illegal
  zero_access : access_by (meaning_of 0) before ≡ None
  unfolding meaning_of
  zero_access = refl

  zero_registers : registers_behind (meaning_of 0) at before ≡ before
  unfolding meaning_of
  zero_registers = refl

  module _ (parts : SchemaParts) (met : Met) (is : IsMet parts at met) where
    plain_does : (kept : Bool) → met.class ≡ classes.Plain → is_kept met.word ≡ kept → Does (meaning_of met.word.raw) None (cond kept (carried_out_plain (meaning_of met.word.raw) at before) before) at before
    plain_does true plain kept = does_as (meaning_of met.word.raw) classes.Plain (is.plain plain kept)
    plain_does false plain kept =
        let none = is.left_out plain kept in
        record {
          touched = ap (λ (raw : ℕ). access_by (meaning_of raw) before) none ∙ zero_access;
          left = ap (λ (raw : ℕ). registers_behind (meaning_of raw) at before) none ∙ zero_registers;
        }

    as_it_stands : (class : Class) → met.class ≡ class → (class ≡ classes.Plain → ⊥) → class_of (meaning_of met.word.raw) ≡ class
    as_it_stands class named other = is.other (λ plain. other (sym named ∙ plain)) ∙ named

    went : (access : Option Item) (taken : Bool) (now : List ℕ) → Does (meaning_of met.word.raw) access now at before
        → Some (goes_on at access taken now) ≡ Some (goes_on at (access_by (meaning_of met.word.raw) before) taken (registers_behind (meaning_of met.word.raw) at before))
    went access taken now d =
        ap (λ (a : Option Item). Some (goes_on at a taken now)) (sym d.touched)
        ∙ ap (λ (r : List ℕ). Some (goes_on at (access_by (meaning_of met.word.raw) before) taken r)) (sym d.left)

    by_class : (others : SchemaParts) (class : Class) (taken : Bool) → met.class ≡ class → goes_quietly (is_kept met.word) taken class ≡ true
        → move_by_class others at met.word before class (Quiet taken) ≡ Some (goes_on at (access_by (meaning_of met.word.raw) before) taken (registers_behind (meaning_of met.word.raw) at before))
    by_class others classes.Plain false named quiet = went None false (cond (is_kept met.word) (carried_out_plain (meaning_of met.word.raw) at before) before) (plain_does (is_kept met.word) named refl)
    by_class others classes.Plain true named quiet = absurd (cc quiet)
    by_class others classes.Load false named quiet =
        let free : is_kept met.word ≡ false = not_kept (is_kept met.word) quiet in
        ap (λ (k : Bool). cond k None (Some (goes_on at (access_by (meaning_of met.word.raw) before) false before))) free
        ∙ went (access_by (meaning_of met.word.raw) before) false before (does_as (meaning_of met.word.raw) classes.Load (as_it_stands classes.Load named (λ plain. cc plain)))
      where
        not_kept : (kept : Bool) → cond kept false true ≡ true → kept ≡ false
        not_kept true q = absurd (cc q)
        not_kept false q = refl
    by_class others classes.Load true named quiet = absurd (loaded (is_kept met.word) quiet)
      where
        loaded : (kept : Bool) → cond kept false false ≡ true → ⊥
        loaded true q = cc q
        loaded false q = cc q
    by_class others classes.Store false named quiet =
        went (access_by (meaning_of met.word.raw) before) false before (does_as (meaning_of met.word.raw) classes.Store (as_it_stands classes.Store named (λ plain. cc plain)))
    by_class others classes.Store true named quiet = absurd (cc quiet)
    by_class others classes.Branch taken named quiet =
        went None taken before (does_as (meaning_of met.word.raw) classes.Branch (as_it_stands classes.Branch named (λ plain. cc plain)))
    by_class others classes.Jump true named quiet =
        went None true (with_written (meaning_of met.word.raw) before (at + 4))
        (does_as (meaning_of met.word.raw) classes.Jump (as_it_stands classes.Jump named (λ plain. cc plain)))
    by_class others classes.Jump false named quiet = absurd (cc quiet)
    by_class others classes.Indirect taken named quiet = absurd (cc quiet)
    by_class others classes.Call taken named quiet = absurd (cc quiet)
    by_class others classes.Stop taken named quiet = absurd (cc quiet)

-- what carrying out the instruction gives is what the word does
pub carried : (parts : SchemaParts) (at : ℕ) (met : Met) → IsMet parts at met → (instr : Instr) → instr ≡ meaning_of met.word.raw → (before now : List ℕ) (access : Option Item)
    → access ≡ access_by instr before → now ≡ registers_behind instr at before → IsCarriedOut at met before access now
carried parts at met is instr means before now access access_is now_is = λ others taken quiet.
    by_class at before parts met is others met.class taken refl quiet
    ∙ ap (λ (a : Option Item). Some (goes_on at a taken (registers_behind (meaning_of met.word.raw) at before))) (sym (access_is ∙ ap (λ (i : Instr). access_by i before) means))
    ∙ ap (λ (r : List ℕ). Some (goes_on at access taken r)) (sym (now_is ∙ ap (λ (i : Instr). registers_behind i at before) means))
