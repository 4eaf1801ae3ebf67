use Rattle.std.proofs.Common.{◌≡◌, ◌+◌, ◌*◌, ◌%◌, List, sym, ap, ◌∙◌, subst, arith}
use Rattle.rv_code.specs.declared.instr.Instr.{Instr}
use Rattle.rv_code.specs.Numbers.{wrap}
use Rattle.rv_memory.specs.Memory.{span}
use Rattle.rv_memory.specs.Stretches.{memory_of}
use Rattle.rv_machine.specs.Inner.Decoded.{AreFixed}
use Rattle.rv_machine.proofs.Fixed.{SoFar, so_far_more, means_at, fixed_among}
use Rattle.rv_machine.proofs.table.table_of.Goals as goal

pub loop-place-preserved : goal.loop-place-preserved
loop-place-preserved c =
    let memory = memory_of c.args.memory.now in
    let extent = c.args.extent.now in
    let address = c.loop-place.address in
    let place = c.loop-place._place in
    let before = c.loop-place.invariant in
    let at : wrap (extent.start + 4 * place) ≡ address = ap (λ n. wrap (extent.start + 4 * n)) (sym before.count) ∙ sym before.next in
    let fixed : AreFixed memory (span address 4) =
    subst (λ n. AreFixed memory (span n 4)) at
    (fixed_among memory extent.start (4 * place) 4 (4 * c.args.fixed) (omega (arith, c.fits-extent)) (omega (arith, c.loop-place-test.true, c.min-count.ensures)) c.requires) in
    subst (λ (items : List Instr). SoFar extent memory items (place + 1) ((address + 4) % 4294967296)) (sym c.in_ok-push.ensures.items)
    (so_far_more extent memory c.loop-place.instrs.items place address c.decode.result before
    (λ code of. means_at code extent memory address c.word.result c.decode.result c.has_word.result of c.has_word.ensures c.if-not-has_word.false fixed c.word.ensures c.decode.ensures.meaning c.decode.ensures.registers))

pub returns : goal.returns
returns c = λ code of. record { rows = c.loop-place.invariant.rows code of }
