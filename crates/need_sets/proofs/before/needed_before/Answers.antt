-- The answer is what is needed, whether or not what the instruction writes is.
use Rattle.std.proofs.Common.{ℕ, ◌*◌, ◌%◌, ◌^◌, sym, subst, ◌∙◌, rules}
use Rattle.std.specs.Prelude.{bit_and, bit_or}
use Rattle.std.specs.Int.{bit_not, w32}
use Rattle.need_sets.proofs.Backwards.{IsNeededBefore, before_unused, before_other, before_plain}
use Rattle.need_sets.proofs.Bits.{shifted_clear, shifted_set, written_real}
use Rattle.need_sets.proofs.before.needed_before.Goals as goal

pub returns-then-behind-bit-eq0 : goal.returns-then-behind-bit-eq0
returns-then-behind-bit-eq0 c =
    let real = written_real c.args.instr.now c.in-Some.register c.requires (sym c.in-Some.ensures) in
    before_unused c.args.instr.now c.args.behind c.in-Some.register (sym c.in-Some.ensures)
    (shifted_clear c.args.behind c.in-Some.register real.1 c.if-behind-bit-eq0.true)

pub returns-in-Plain : goal.returns-in-Plain
returns-in-Plain c =
    let real = written_real c.args.instr.now c.in-Some.register c.requires (sym c.in-Some.ensures) in
    subst
    (λ (sources : ℕ). IsNeededBefore c.args.instr.now c.args.behind (bit_or (bit_and c.args.behind (bit_not w32 (1 * 2 ^ c.in-Some.register % 2 ^ 32))) sources))
    (sym c.reads.ensures)
    (before_plain c.args.instr.now c.args.behind c.in-Some.register (search rules) real.1 (sym c.in-Some.ensures) (sym c.class_of.ensures ∙ c.in-Plain.is)
    (shifted_set c.args.behind c.in-Some.register real.1 c.if-behind-bit-eq0.false))

pub returns-in_default-class_of : goal.returns-in_default-class_of
returns-in_default-class_of c =
    let real = written_real c.args.instr.now c.in-Some.register c.requires (sym c.in-Some.ensures) in
    before_other c.args.instr.now c.args.behind c.in-Some.register (search rules) real.1 (sym c.in-Some.ensures)
    (λ plain. c.in_default-class_of.not-Plain (c.class_of.ensures ∙ plain))
