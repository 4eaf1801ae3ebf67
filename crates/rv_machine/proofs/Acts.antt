-- From what the machine's code does, instruction by instruction, to what a step is.
use Rattle.std.proofs.Common.{◌≡◌, ◌≢◌, ℕ, zero, suc, ◌+◌, ◌/◌, ◌%◌, ◌*◌, slice_set, ℤ, true, false, cond, List, [], ◌∷◌, Option, None, Some, Ok, Err, is_some, FitsSigned, w32, to_z, of_z, refl, sym, ap, ◌∙◌, subst, arith}
use Rattle.std.proofs.lemmas.Bool.{eq-eqb, ne_eqb}
use Rattle.std.proofs.lemmas.Int.{to_z-of_z}
use Rattle.ae_nums.specs.declared.item.Item.{Item}
use Rattle.ae_nums.specs.declared.item.Item.TheVariants.{Read, Write}
use Rattle.rv_code.specs.declared.ending.Ending.{Ending}
use Rattle.rv_code.specs.declared.ending.Ending.TheVariants.{Illegal, Breakpoint, LoadFault, StoreFault, JumpMisaligned}
use Rattle.rv_code.specs.declared.instr.Instr.{Instr}
use Rattle.rv_code.specs.declared.instr.Instr.TheVariants.{Lui, Auipc, Jal, Jalr, Branch, Load, Store, OpImm, Op, Fence, Ebreak, Bad}
use Rattle.rv_code.specs.declared.instr.BranchOp.{BranchOp}
use Rattle.rv_code.specs.declared.instr.ImmOp.{ImmOp}
use Rattle.rv_code.specs.declared.instr.LoadOp.{LoadOp}
use Rattle.rv_code.specs.declared.instr.RegOp.{RegOp}
use Rattle.rv_code.specs.declared.instr.StoreOp.{StoreOp}
use Rattle.rv_code.specs.Numbers.{wrap, unsigned, bytes_of, number_of}
use Rattle.rv_code.specs.Results.{is_taken, op_result, on_registers}
use Rattle.rv_memory.specs.Answers.{hole_or, read_at}
use Rattle.rv_memory.specs.Stretches.{Mapping, memory_of}
use Rattle.rv_memory.specs.Outline.{outline}
use Rattle.rv_memory.specs.Memory.{Cell, span, bytes_at, first_hole, first_shut, written}
use Rattle.rv_memory.specs.declared.hole.Hole.{Hole}
use Rattle.rv_machine.specs.declared.acted.Acted.{Acted}
use Rattle.rv_machine.specs.declared.acted.Alone.{Alone}
use Rattle.rv_machine.specs.declared.acted.Gone.{Gone}
use Rattle.rv_machine.specs.State.{register_of, with_register}
use Rattle.rv_machine.specs.Effect.{Effect, Passes, Sets, Stores, Jumps, Ends, load_size, loaded, load_at, store_size, store_at, jump_to, indirect_target}
use Rattle.rv_machine.specs.Calls.{effect_of}
use Rattle.rv_machine.specs.Step.{Went, EndedWith}
use Rattle.rv_machine.specs.Held.{Held, Outside, state_of}
use Rattle.rv_machine.specs.Ports.{Told}
use Rattle.rv_machine.specs.Inner.Advance.{at, made_of, made_by, made_at, with_register_set, load_in, store_in, WentAlone, EndsAlone, GoesOn, ActsAlone, ActsUnlessCall, Settles, Acts}
use Rattle.rv_machine.proofs.Passing.{nothing, nothing_passed, nothing_follows}

-- the bits of an immediate, as a cast has them
pub bits_of : (imm : ℤ) → FitsSigned w32 imm → of_z w32 (to_z w32 (of_z w32 imm)) ≡ unsigned imm
bits_of imm fits = ap (of_z w32) (to_z-of_z w32 imm fits)

-- what a memory answered
no_hole : {A : Type 0} (hole : Option ℕ) (value got : A) → Ok got ≡ hole_or hole value → (hole ≡ None) × (got ≡ value)
no_hole None value got e = (refl, cc)
no_hole (Some address) value got e = absurd (cc e)

some_hole : {A : Type 0} (hole : Option ℕ) (value : A) (at : Hole) → Err at ≡ hole_or hole value → hole ≡ Some at.address
some_hole None value at e = absurd (cc e)
some_hole (Some address) value at e = let same : at ≡ record { address = address } = cc in ap (λ (h : Hole). Some h.address) (sym same)

-- an instruction at an address, and the machine before and after it
module _ (pc : ℕ) (before now : Held) where
  -- its effect
  abbrev effect : Instr → Effect
  effect instr = effect_of (is_some before.note) instr pc before.registers (memory_of before.memory)

  -- on to the next word, after this access
  abbrev onward : Option Item → Gone
  onward access = record { next = wrap (pc + 4); access = access }

  by_effect : (instr : Instr) (e : Effect) (alone : Alone) → effect instr ≡ e → ActsAlone (made_of e (at pc before)) pc before alone now → ActsAlone (made_at instr pc before) pc before alone now
  by_effect instr e alone is h = subst (λ (f : Effect). ActsAlone (made_of f (at pc before)) pc before alone now) (sym is) h

  goes_by : (instr : Instr) (e : Effect) (gone : Gone) → effect instr ≡ e → GoesOn (made_of e (at pc before)) pc before gone now → GoesOn (made_at instr pc before) pc before gone now
  goes_by instr e gone is h = by_effect instr e (Alone.Went gone) is h

  passes : (gone : Gone) → gone ≡ onward None → now ≡ before → GoesOn (made_of Passes (at pc before)) pc before gone now
  passes gone to is =
      subst (λ (g : Gone). GoesOn (made_of Passes (at pc before)) pc before g now) (sym to)
      (subst (λ (n : Held). GoesOn (made_of Passes (at pc before)) pc before (onward None) n) (sym is)
      (record { step = λ outside. refl; stays = record { program = refl; note = refl; outline = refl; kept = refl } }))

  sets : (register value : ℕ) (access : Option Item) (gone : Gone) → gone ≡ onward access → now ≡ with_register_set before register value
      → GoesOn (made_of (Sets register value access) (at pc before)) pc before gone now
  sets register value access gone to is =
      subst (λ (g : Gone). GoesOn (made_of (Sets register value access) (at pc before)) pc before g now) (sym to)
      (subst (λ (n : Held). GoesOn (made_of (Sets register value access) (at pc before)) pc before (onward access) n) (sym is)
      (record { step = λ outside. refl; stays = record { program = refl; note = refl; outline = refl; kept = refl } }))

  stores : (addresses bytes : List ℕ) (access : Item) (mapping : Mapping) (gone : Gone) → memory_of mapping ≡ written (memory_of before.memory) addresses bytes
      → outline mapping.stretches ≡ outline before.memory.stretches
      → gone ≡ onward (Some access) → now ≡ record before { memory = mapping } → GoesOn (made_of (Stores addresses bytes access) (at pc before)) pc before gone now
  stores addresses bytes access mapping gone put lined to is =
      subst (λ (g : Gone). GoesOn (made_of (Stores addresses bytes access) (at pc before)) pc before g now) (sym to)
      (subst (λ (n : Held). GoesOn (made_of (Stores addresses bytes access) (at pc before)) pc before (onward (Some access)) n) (sym is)
      (record {
        step = λ outside. λ i. Went (record (state_of before outside) { pc = wrap (pc + 4); memory = sym put i }) (access ∷ []);
        stays = record { program = refl; note = refl; outline = lined; kept = refl };
      }))

  ends : (ending : Ending) → now ≡ before → EndsAlone (made_of (Ends ending) (at pc before)) before ending now
  ends ending is = record { step = λ outside. refl; same = is }

  pub fence : (word : ℕ) (gone : Gone) → gone ≡ onward None → now ≡ before → GoesOn (made_at (Fence word) pc before) pc before gone now
  unfolding effect_of
  fence word gone to is = passes gone to is

  pub lui : (rd imm : ℕ) (gone : Gone) → gone ≡ onward None → now ≡ with_register_set before rd imm → GoesOn (made_at (Lui rd imm) pc before) pc before gone now
  unfolding effect_of
  lui rd imm gone to is = sets rd imm None gone to is

  pub auipc : (rd imm : ℕ) (gone : Gone) → gone ≡ onward None → now ≡ with_register_set before rd (wrap (pc + imm)) → GoesOn (made_at (Auipc rd imm) pc before) pc before gone now
  unfolding effect_of
  auipc rd imm gone to is = sets rd (wrap (pc + imm)) None gone to is

  pub op : (o : RegOp) (rd rs1 rs2 a b value : ℕ) (gone : Gone) → value ≡ op_result o a b → a ≡ register_of before.registers rs1 → b ≡ register_of before.registers rs2
      → gone ≡ onward None → now ≡ with_register_set before rd value → GoesOn (made_at (Op o rd rs1 rs2) pc before) pc before gone now
  unfolding effect_of
  op o rd rs1 rs2 a b value gone computes first second to is =
      sets rd (op_result o (register_of before.registers rs1) (register_of before.registers rs2)) None gone to
      (is ∙ ap (with_register_set before rd) (computes ∙ (λ i. op_result o (first i) (second i))))

  pub op_imm : (o : ImmOp) (r : RegOp) (rd rs1 : ℕ) (imm : ℤ) (a b value : ℕ) (gone : Gone) → r ≡ on_registers o → value ≡ op_result r a b → a ≡ register_of before.registers rs1 → b ≡ unsigned imm
      → gone ≡ onward None → now ≡ with_register_set before rd value → GoesOn (made_at (OpImm o rd rs1 imm) pc before) pc before gone now
  unfolding effect_of
  op_imm o r rd rs1 imm a b value gone names computes first second to is =
      sets rd (op_result (on_registers o) (register_of before.registers rs1) (unsigned imm)) None gone to
      (is ∙ ap (with_register_set before rd) (computes ∙ (λ i. op_result (names i) (first i) (second i))))

  -- a jump
  jumps_to : (link target : ℕ) → now ≡ with_register_set before link (wrap (pc + 4))
      → GoesOn (made_of (Jumps link target) (at pc before)) pc before (record { next = target; access = None }) now
  jumps_to link target is =
      subst (λ (n : Held). GoesOn (made_of (Jumps link target) (at pc before)) pc before (record { next = target; access = None }) n) (sym is)
      (record { step = λ outside. same outside; stays = record { program = refl; note = refl; outline = refl; kept = refl } })
    where
      wrapped : wrap (wrap (pc + 4)) ≡ wrap (pc + 4)
      wrapped = omega arith

      linked : (register : ℕ) → with_register before.registers register (pc + 4) ≡ with_register before.registers register (wrap (pc + 4))
      linked zero = refl
      linked (suc number) = ap (λ n. slice_set before.registers (suc number) n) (sym wrapped)

      same : (outside : Outside) → made_of (Jumps link target) (at pc before) outside ≡ Went (state_of (at target (with_register_set before link (wrap (pc + 4)))) outside) []
      same outside = λ i. Went (record (state_of before outside) { pc = target; registers = linked link i }) []

  pub jumps : (link target : ℕ) → target % 4 ≡ 0 → now ≡ with_register_set before link (wrap (pc + 4))
      → GoesOn (made_of (jump_to link target) (at pc before)) pc before (record { next = target; access = None }) now
  jumps link target aligned is =
      subst (λ (e : Effect). GoesOn (made_of e (at pc before)) pc before (record { next = target; access = None }) now)
      (sym (ap (λ t. cond t (Jumps link target) (Ends (JumpMisaligned target))) (eq-eqb (target % 4) 0 aligned)))
      (jumps_to link target is)

  pub jump_ends : (link target : ℕ) → target % 4 ≢ 0 → now ≡ before → EndsAlone (made_of (jump_to link target) (at pc before)) before (JumpMisaligned target) now
  jump_ends link target crooked is =
      subst (λ (e : Effect). EndsAlone (made_of e (at pc before)) before (JumpMisaligned target) now)
      (sym (ap (λ t. cond t (Jumps link target) (Ends (JumpMisaligned target))) (ne_eqb (target % 4) 0 crooked)))
      (ends (JumpMisaligned target) is)

  -- instructions, from what the code computed
  module _ (alone : Alone) where
    pub jal : (rd : ℕ) (imm : ℤ) (bits : ℕ) → bits ≡ unsigned imm
        → ActsAlone (made_of (jump_to rd (wrap (pc + bits))) (at pc before)) pc before alone now → ActsAlone (made_at (Jal rd imm) pc before) pc before alone now
    unfolding effect_of
    jal rd imm bits is h = by_effect (Jal rd imm) (jump_to rd (wrap (pc + bits))) alone (λ i. jump_to rd (wrap (pc + sym is i))) h

    pub jalr : (rd rs1 : ℕ) (imm : ℤ) (sum bits : ℕ) → sum ≡ wrap (register_of before.registers rs1 + bits) → bits ≡ unsigned imm
        → ActsAlone (made_of (jump_to rd (sum / 2 * 2)) (at pc before)) pc before alone now → ActsAlone (made_at (Jalr rd rs1 imm) pc before) pc before alone now
    unfolding effect_of
    jalr rd rs1 imm sum bits adds is h =
        by_effect (Jalr rd rs1 imm) (jump_to rd (sum / 2 * 2)) alone
        (sym (ap (λ s. jump_to rd (s / 2 * 2)) adds ∙ ap (λ b. jump_to rd (indirect_target (register_of before.registers rs1 + b))) is)) h

    pub branch_taken : (o : BranchOp) (rs1 rs2 : ℕ) (imm : ℤ) (a b bits : ℕ) → is_taken o a b ≡ true → a ≡ register_of before.registers rs1 → b ≡ register_of before.registers rs2
        → bits ≡ unsigned imm
        → ActsAlone (made_of (jump_to 0 (wrap (pc + bits))) (at pc before)) pc before alone now → ActsAlone (made_at (Branch o rs1 rs2 imm) pc before) pc before alone now
    unfolding effect_of
    branch_taken o rs1 rs2 imm a b bits taken first second is h =
        by_effect (Branch o rs1 rs2 imm) (jump_to 0 (wrap (pc + bits))) alone
        (ap (λ t. cond t (jump_to 0 (wrap (pc + unsigned imm))) Passes) ((λ i. is_taken o (sym first i) (sym second i)) ∙ taken)
        ∙ (λ i. jump_to 0 (wrap (pc + sym is i)))) h

    -- of an access, whose address the code computed, and whose operation it knows by its form
    pub loads_as : (op form : LoadOp) (rd rs1 : ℕ) (imm : ℤ) (address bits : ℕ) → op ≡ form → address ≡ wrap (register_of before.registers rs1 + bits) → bits ≡ unsigned imm
        → ActsAlone (made_of (load_in form rd address before) (at pc before)) pc before alone now → ActsAlone (made_at (Load op rd rs1 imm) pc before) pc before alone now
    unfolding effect_of
    loads_as op form rd rs1 imm address bits same adds is h =
        by_effect (Load op rd rs1 imm) (load_in form rd address before) alone
        (ap (λ n. load_in op rd n before) (sym (adds ∙ ap (λ b. wrap (register_of before.registers rs1 + b)) is)) ∙ ap (λ o. load_in o rd address before) same) h

    pub stores_as : (op form : StoreOp) (rs1 rs2 : ℕ) (imm : ℤ) (address bits value : ℕ) → op ≡ form → address ≡ wrap (register_of before.registers rs1 + bits) → bits ≡ unsigned imm
        → value ≡ register_of before.registers rs2
        → ActsAlone (made_of (store_in form value address before) (at pc before)) pc before alone now → ActsAlone (made_at (Store op rs1 rs2 imm) pc before) pc before alone now
    unfolding effect_of
    stores_as op form rs1 rs2 imm address bits value same adds is second h =
        by_effect (Store op rs1 rs2 imm) (store_in form value address before) alone
        (ap (λ v. store_in op v (wrap (register_of before.registers rs1 + unsigned imm)) before) (sym second)
        ∙ (ap (λ n. store_in op value n before) (sym (adds ∙ ap (λ b. wrap (register_of before.registers rs1 + b)) is))
        ∙ ap (λ o. store_in o value address before) same)) h

  pub branch_passed : (o : BranchOp) (rs1 rs2 : ℕ) (imm : ℤ) (a b : ℕ) (gone : Gone) → is_taken o a b ≡ false → a ≡ register_of before.registers rs1 → b ≡ register_of before.registers rs2
      → gone ≡ onward None → now ≡ before → GoesOn (made_at (Branch o rs1 rs2 imm) pc before) pc before gone now
  unfolding effect_of
  branch_passed o rs1 rs2 imm a b gone taken first second to is =
      goes_by (Branch o rs1 rs2 imm) Passes gone
      (ap (λ t. cond t (jump_to 0 (wrap (pc + unsigned imm))) Passes) ((λ i. is_taken o (sym first i) (sym second i)) ∙ taken)) (passes gone to is)

  -- accesses of memory, whose mapping and size the code has by other names
  module _ (mapping : Mapping) (address size : ℕ) (here : mapping ≡ before.memory) where
    pub loads : (o : LoadOp) (rd number value : ℕ) (gone : Gone) → size ≡ load_size o
        → Ok number ≡ read_at (memory_of mapping) address size
        → ((bytes : List ℕ) → number_of bytes ≡ number → value ≡ loaded o bytes)
        → gone ≡ onward (Some (Read address size)) → now ≡ with_register_set before rd value
        → GoesOn (made_of (load_in o rd address before) (at pc before)) pc before gone now
    loads o rd number value gone sized answers extends to same =
        let memory : List Cell = memory_of mapping in
        let found = no_hole (first_hole memory (span address size)) (number_of (bytes_at memory (span address size))) number answers in
        let gives : loaded o (bytes_at memory (span address (load_size o))) ≡ value =
        sym (extends (bytes_at memory (span address size)) (sym found.1) ∙ ap (λ n. loaded o (bytes_at memory (span address n))) sized) in
        let is : load_in o rd address before ≡ Sets rd value (Some (Read address size)) =
        ap (λ (m : Mapping). load_at o rd address (memory_of m) (first_hole (memory_of m) (span address (load_size o)))) (sym here)
        ∙ (ap (λ n. load_at o rd address memory (first_hole memory (span address n))) (sym sized)
        ∙ (ap (load_at o rd address memory) found.0 ∙ (λ i. Sets rd (gives i) (Some (Read address (sym sized i)))))) in
        subst (λ (e : Effect). GoesOn (made_of e (at pc before)) pc before gone now) (sym is) (sets rd value (Some (Read address size)) gone to same)

    pub load_ends : (o : LoadOp) (rd : ℕ) (hole : Hole) → size ≡ load_size o
        → Err hole ≡ read_at (memory_of mapping) address size
        → now ≡ before
        → EndsAlone (made_of (load_in o rd address before) (at pc before)) before (LoadFault hole.address) now
    load_ends o rd hole sized answers same =
        let memory : List Cell = memory_of mapping in
        let is : load_in o rd address before ≡ Ends (LoadFault hole.address) =
        ap (λ (m : Mapping). load_at o rd address (memory_of m) (first_hole (memory_of m) (span address (load_size o)))) (sym here)
        ∙ (ap (λ n. load_at o rd address memory (first_hole memory (span address n))) (sym sized)
        ∙ ap (load_at o rd address memory) (some_hole (first_hole memory (span address size)) (number_of (bytes_at memory (span address size))) hole answers)) in
        subst (λ (e : Effect). EndsAlone (made_of e (at pc before)) before (LoadFault hole.address) now) (sym is) (ends (LoadFault hole.address) same)

    pub stores_to : (o : StoreOp) (value : ℕ) (done : Unit {0}) (after : Mapping) (gone : Gone) → size ≡ store_size o
        → Ok done ≡ hole_or (first_shut (memory_of mapping) (span address size)) (tt {0})
        → memory_of after ≡ written (memory_of mapping) (span address size) (bytes_of size value)
        → outline after.stretches ≡ outline mapping.stretches
        → gone ≡ onward (Some (Write address size)) → now ≡ record before { memory = after }
        → GoesOn (made_of (store_in o value address before) (at pc before)) pc before gone now
    stores_to o value done after gone sized answers put lined to same =
        let memory : List Cell = memory_of mapping in
        let found = no_hole (first_shut memory (span address size)) (tt {0}) done answers in
        let is : store_in o value address before ≡ Stores (span address size) (bytes_of size value) (Write address size) =
        ap (λ (m : Mapping). store_at o value address (first_shut (memory_of m) (span address (store_size o)))) (sym here)
        ∙ (ap (λ n. store_at o value address (first_shut memory (span address n))) (sym sized)
        ∙ (ap (store_at o value address) found.0
        ∙ (λ i. Stores (span address (sym sized i)) (bytes_of (sym sized i) value) (Write address (sym sized i))))) in
        subst (λ (e : Effect). GoesOn (made_of e (at pc before)) pc before gone now) (sym is)
        (stores (span address size) (bytes_of size value) (Write address size) after gone (put ∙ ap (λ (m : Mapping). written (memory_of m) (span address size) (bytes_of size value)) here)
        (lined ∙ ap (λ (m : Mapping). outline m.stretches) here) to same)

    pub store_ends : (o : StoreOp) (value : ℕ) (hole : Hole) → size ≡ store_size o
        → Err hole ≡ hole_or (first_shut (memory_of mapping) (span address size)) (tt {0})
        → now ≡ before
        → EndsAlone (made_of (store_in o value address before) (at pc before)) before (StoreFault hole.address) now
    store_ends o value hole sized answers same =
        let memory : List Cell = memory_of mapping in
        let is : store_in o value address before ≡ Ends (StoreFault hole.address) =
        ap (λ (m : Mapping). store_at o value address (first_shut (memory_of m) (span address (store_size o)))) (sym here)
        ∙ (ap (λ n. store_at o value address (first_shut memory (span address n))) (sym sized)
        ∙ ap (store_at o value address) (some_hole (first_shut memory (span address size)) (tt {0}) hole answers)) in
        subst (λ (e : Effect). EndsAlone (made_of e (at pc before)) before (StoreFault hole.address) now) (sym is) (ends (StoreFault hole.address) same)

-- an instruction that was carried out without the ports
pub went_alone : (instr : Instr) (pc : ℕ) (before now final : Held) (told : Told) (gone : Gone) → pc ≡ before.pc → final ≡ at gone.next now
    → GoesOn (made_at instr pc before) pc before gone now → Acts (made_by instr before) before told (Ok (Acted.Went gone.access)) final told
went_alone instr pc before now final told gone here is h =
    let from : at pc before ≡ before = ap (λ p. at p before) here in
    let went : WentAlone (made_by instr before) before gone.access final =
    subst (λ (f : Held). WentAlone (made_by instr before) before gone.access f) (sym is)
    (subst (λ (b : Held). WentAlone (made_by instr b) b gone.access (at gone.next now)) from h) in
    record {
      passed = nothing;
      ports = nothing_passed told;
      goes = λ outside. (state_of final outside, went.step outside);
      step = λ outside same. (outside, nothing_follows outside, same, went.step outside);
      stays = went.stays;
    }

pub ended_alone : (instr : Instr) (pc : ℕ) (before now : Held) (told : Told) (ending : Ending) → pc ≡ before.pc
    → EndsAlone (made_at instr pc before) before ending now → Acts (made_by instr before) before told (Ok (Acted.Ended ending)) now told
ended_alone instr pc before now told ending here h =
    let from : at pc before ≡ before = ap (λ p. at p before) here in
    record { step = subst (λ (b : Held). (outside : Outside) → made_by instr b outside ≡ EndedWith ending []) from h.step; same = h.same; ports = refl }

pub settled_acts : (instr : Instr) (pc : ℕ) (before now final : Held) (told : Told) (alone : Alone) (acted : Acted) → pc ≡ before.pc
    → ActsAlone (made_at instr pc before) pc before alone now → Settles alone now acted final → Acts (made_by instr before) before told (Ok acted) final told
settled_acts instr pc before now final told (Alone.Went gone) (Acted.Went access) here h is =
    subst (λ (a : Option Item). Acts (made_by instr before) before told (Ok (Acted.Went a)) final told) (sym is.0) (went_alone instr pc before now final told gone here is.1 h)
settled_acts instr pc before now final told (Alone.Went gone) (Acted.Ended ending) here h is = absurd is
settled_acts instr pc before now final told (Alone.Ended last) (Acted.Went access) here h is = absurd is
settled_acts instr pc before now final told (Alone.Ended last) (Acted.Ended ending) here h is =
    subst (λ (e : Ending). Acts (made_by instr before) before told (Ok (Acted.Ended e)) final told) (sym is.0)
    (subst (λ (f : Held). Acts (made_by instr before) before told (Ok (Acted.Ended last)) f told) (sym is.1) (ended_alone instr pc before now told last here h))

-- the same where the code knows the instruction by its form
pub alone_as : (instr form : Instr) (pc : ℕ) (before now : Held) (alone : Alone) → instr ≡ form → ActsAlone (made_at form pc before) pc before alone now → ActsUnlessCall instr pc before (Some alone) now
alone_as instr form pc before now alone is h = subst (λ (i : Instr). ActsAlone (made_at i pc before) pc before alone now) (sym is) h

pub ends_as : (instr form : Instr) (pc : ℕ) (before : Held) (ending : Ending) → instr ≡ form → ((outside : Outside) → made_at form pc before outside ≡ EndedWith ending [])
    → ActsUnlessCall instr pc before (Some (Alone.Ended ending)) before
ends_as instr form pc before ending is h = alone_as instr form pc before before (Alone.Ended ending) is (record { step = h; same = refl })

pub breakpoint : (held : Held) (outside : Outside) → made_by Ebreak held outside ≡ EndedWith Breakpoint []
unfolding effect_of
breakpoint held outside = refl

pub illegal : (held : Held) (word : ℕ) (outside : Outside) → made_by (Bad word) held outside ≡ EndedWith (Illegal word) []
unfolding effect_of
illegal held word outside = refl
