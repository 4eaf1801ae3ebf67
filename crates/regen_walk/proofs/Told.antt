-- Which word may give which record.
use Rattle.std.proofs.Common.{◌≡◌, inl, inr, ℕ, zero, suc, ◌%◌, Bool, true, false, cond, List, [], ◌∷◌, Option, Some, None, refl, sym, ap, ◌∙◌}
use Rattle.std.specs.Prelude.{◌&&◌, ◌==◌, is_some, length, IsSome}
use Rattle.std.specs.Option.{option_and_then, option_map}
use Rattle.std.proofs.lemmas.Bool.{cases_Bool, eq-eqb}
use Rattle.rv_code.specs.declared.instr.Instr.{Instr}
use Rattle.rv_code.specs.declared.instr.Instr.TheVariants.{Lui, Auipc, Jal, Jalr, Branch, Load, Store, OpImm, Op, Fence, Ecall, Ebreak, Bad}
use Rattle.rv_code.specs.Parts.{base_of}
use Rattle.rv_code.specs.Table.{meaning_of}
use Rattle.rv_code.proofs.LawsOfTests.{none_there}
use Rattle.ev_format.specs.declared.record.Record.{Record}
use Rattle.ev_format.specs.declared.record.Record.TheVariants as records
use Rattle.ev_format.specs.Shapes.{value_count}
use Rattle.ev_format.specs.Spelling.{address_in}
use Rattle.schema_form.specs.Flags.{is_set}
use Rattle.schema_form.specs.LookUps.{gives_value, is_indirect, schema_shape}
use Rattle.schema_form.specs.Rules.{way_of, witness_mark}
use Rattle.schema_form.specs.SchemaParts.{SchemaParts}
use Rattle.regen_walk.specs.declared.met.Met.{Met}
use Rattle.regen_walk.specs.declared.position.Position.{Position}
use Rattle.regen_walk.specs.declared.position.Position.TheVariants.{Before, After}
use Rattle.regen_walk.specs.Accesses.{may_end}
use Rattle.regen_walk.specs.FreeArcs.{goes_quietly}
use Rattle.regen_walk.specs.Inner.Met.{IsMet}
use Rattle.regen_walk.specs.Inner.Telling.{edge_record, may_stop, may_tell}
use Rattle.regen_walk.specs.Labels.{Label, Quiet, Tell}
use Rattle.regen_walk.specs.Moves.{Moved, is_kept, move_of, names_edge, placed_at}
use Rattle.regen_walk.specs.Walks.{behind_items, walk_from}
use Rattle.regen_walk.proofs.Steps.{move_before, move_after, may_one, value_by, end_by, landing_by, quiet_some, quiet_none}

module _ (parts : SchemaParts) (at : ℕ) (met : Met) (is : IsMet parts at met) (registers : List ℕ) where
  pub tells_value : (from value : ℕ) → at ≡ from → may_tell parts at registers (records.Value from value) ≡ gives_value (is_kept met.word) met.class
  tells_value from value same =
      may_one parts at met registers (Tell (records.Value from value)) is ∙ value_by parts at from met.word registers (eq-eqb from at (sym same)) value met.class

  pub tells_end : (from kind detail : ℕ) → at ≡ from
      → may_tell parts at registers (records.End from kind detail) ≡ (may_stop met.class && may_end (meaning_of met.word.raw) registers kind detail)
  tells_end from kind detail same =
      may_one parts at met registers (Tell (records.End from kind detail)) is ∙ end_by parts at from met.word registers (eq-eqb from at (sym same)) kind detail met.class

  pub tells_landing : (from target : ℕ) (values : List ℕ) → at ≡ from → may_tell parts at registers (records.Landing from target values)
      ≡ (is_indirect met.class && ((target % 2 == 0) && (length values == value_count (schema_shape parts) target)))
  tells_landing from target values same =
      may_one parts at met registers (Tell (records.Landing from target values)) is ∙ landing_by parts at from met.word registers (eq-eqb from at (sym same)) target values met.class

  -- the record of an edge
  edge_named : (from : ℕ) → at ≡ from → (taken marked : Bool) → names_edge at taken marked (Tell (edge_record taken from)) ≡ marked
  edge_named from same true true = eq-eqb from at (sym same)
  edge_named from same true false = refl
  edge_named from same false true = eq-eqb from at (sym same)
  edge_named from same false false = refl

  over_some : (marked : Bool) (f : ℕ → Moved) (way : Option ℕ) → (marked ≡ true → IsSome way) → is_some (cond marked (option_map f way) None) ≡ marked
  over_some false f way some = refl
  over_some true f None some = some refl
  over_some true f (Some to) some = refl

  over_edge : (from : ℕ) → at ≡ from → (taken : Bool) (there : List ℕ) → is_some (move_of parts (After at taken) there (Tell (edge_record taken from))) ≡ is_set (witness_mark taken) met.word.flags
  over_edge from same taken there =
      ap is_some (move_after parts at met taken there (Tell (edge_record taken from)) is)
      ∙ ap (λ b. is_some {T = Moved} (cond b (option_map (λ target. record { items = []; position = placed_at parts target; registers = there }) (way_of taken met.class met.word.raw at)) None))
      (edge_named from same taken (is_set (witness_mark taken) met.word.flags))
      ∙ over_some (is_set (witness_mark taken) met.word.flags) (λ target. record { items = []; position = placed_at parts target; registers = there }) (way_of taken met.class met.word.raw at) (is.marked taken)

  -- two moves, the first of which is there
  two_some : (o : Option Moved) (moved : Moved) (label : Label) → o ≡ Some moved
      → is_some (option_and_then (λ (first : Moved). option_map (behind_items first.items) (walk_from parts first.position first.registers (label ∷ []))) o) ≡ is_some (move_of parts moved.position moved.registers label)
  two_some o moved label o_is =
      ap (λ p. is_some (option_and_then (λ (first : Moved). option_map (behind_items first.items) (walk_from parts first.position first.registers (label ∷ []))) p)) o_is
      ∙ twice (move_of parts moved.position moved.registers label)
    where
      twice : (p : Option Moved) → is_some (option_map (behind_items moved.items) (option_and_then (λ (first : Moved). option_map (behind_items first.items) (Some (record { items = []; position = first.position; registers = first.registers }))) p)) ≡ is_some p
      twice None = refl
      twice (Some second) = refl

  two_none : (o : Option Moved) (labels : List Label) → o ≡ None → is_some (option_and_then (λ (first : Moved). option_map (behind_items first.items) (walk_from parts first.position first.registers labels)) o) ≡ false
  two_none o labels o_is = ap (λ p. is_some (option_and_then (λ (first : Moved). option_map (behind_items first.items) (walk_from parts first.position first.registers labels)) p)) o_is

  pub tells_edge : (from : ℕ) → at ≡ from → (taken : Bool) → goes_quietly (is_kept met.word) taken met.class ≡ true
      → is_some (walk_from parts (Before at) registers (Quiet taken ∷ Tell (edge_record taken from) ∷ [])) ≡ is_set (witness_mark taken) met.word.flags
  tells_edge from same taken quiet =
      let q = quiet_some parts at met.word registers met.class taken quiet in
      two_some (move_of parts (Before at) registers (Quiet taken)) q.moved (Tell (edge_record taken from)) (move_before parts at met registers (Quiet taken) is ∙ q.is)
      ∙ ap (λ (position : Position). is_some (move_of parts position q.moved.registers (Tell (edge_record taken from)))) q.position
      ∙ over_edge from same taken q.moved.registers

  pub tells_no_edge : (from : ℕ) (taken : Bool) → goes_quietly (is_kept met.word) taken met.class ≡ false
      → is_some (walk_from parts (Before at) registers (Quiet taken ∷ Tell (edge_record taken from) ∷ [])) ≡ false
  tells_no_edge from taken quiet =
      two_none (move_of parts (Before at) registers (Quiet taken)) (Tell (edge_record taken from) ∷ [])
      (move_before parts at met registers (Quiet taken) is ∙ quiet_none parts at met.word registers met.class taken quiet)

-- without a base, the end of an instruction doesn't hang on the registers
pub end_alone : (instr : Instr) (kind detail : ℕ) (one other : List ℕ) → base_of instr ≡ None → may_end instr one kind detail ≡ may_end instr other kind detail
end_alone (Lui rd imm) kind detail one other is = refl
end_alone (Auipc rd imm) kind detail one other is = refl
end_alone (Jal rd imm) kind detail one other is = refl
end_alone (Jalr rd rs1 imm) kind detail one other is = refl
end_alone (Branch op rs1 rs2 imm) kind detail one other is = refl
end_alone (Load op rd zero imm) kind detail one other is = refl
end_alone (Load op rd (suc rs1) imm) kind detail one other is = absurd (cc is)
end_alone (Store op zero rs2 imm) kind detail one other is = refl
end_alone (Store op (suc rs1) rs2 imm) kind detail one other is = absurd (cc is)
end_alone (OpImm op rd rs1 imm) kind detail one other is = refl
end_alone (Op op rd rs1 rs2) kind detail one other is = refl
end_alone (Fence word) kind detail one other is = refl
end_alone Ecall kind detail one other is = refl
end_alone Ebreak kind detail one other is = refl
end_alone (Bad word) kind detail one other is = refl

module _ (parts : SchemaParts) (at : ℕ) (met : Met) (is : IsMet parts at met) (one other : List ℕ) where
  edge_alone : (from : ℕ) → at ≡ from → (taken : Bool)
      → is_some (walk_from parts (Before at) one (Quiet taken ∷ Tell (edge_record taken from) ∷ [])) ≡ is_some (walk_from parts (Before at) other (Quiet taken ∷ Tell (edge_record taken from) ∷ []))
  edge_alone from same taken = elim (cases_Bool (goes_quietly (is_kept met.word) taken met.class)) [
    | inl quiet ↦ tells_edge parts at met is one from same taken quiet ∙ sym (tells_edge parts at met is other from same taken quiet)
    | inr loud ↦ tells_no_edge parts at met is one from taken loud ∙ sym (tells_no_edge parts at met is other from taken loud)
  ]

  -- whether the word gives the record doesn't hang on the registers, but for an end of an access with a base
  pub tells_alone : (rec : Record) → at ≡ address_in rec → ((from kind detail : ℕ) → rec ≡ records.End from kind detail → is_some (base_of (meaning_of met.word.raw)) ≡ false)
      → may_tell parts at one rec ≡ may_tell parts at other rec
  tells_alone (records.Fall from) same base = edge_alone from same false
  tells_alone (records.Taken from) same base = edge_alone from same true
  tells_alone (records.Value from value) same base = tells_value parts at met is one from value same ∙ sym (tells_value parts at met is other from value same)
  tells_alone (records.Landing from target values) same base = tells_landing parts at met is one from target values same ∙ sym (tells_landing parts at met is other from target values same)
  tells_alone (records.End from kind detail) same base =
      tells_end parts at met is one from kind detail same
      ∙ ap (λ b. may_stop met.class && b) (end_alone (meaning_of met.word.raw) kind detail one other (none_there (base_of (meaning_of met.word.raw)) (base from kind detail refl)))
      ∙ sym (tells_end parts at met is other from kind detail same)
