use Rattle.std.proofs.Common.{◌≡◌, ℕ, ◌+◌, ◌-◌, ◌*◌, [], ◌∷◌, ◌++◌, sym, ap, ◌∙◌, arith}
use Rattle.std.proofs.lemmas.List.FromFn.{map-range_with_len_more}
use Rattle.elf_raw.specs.Inner.Zeros.{next_zero, zero_of_block}
use Rattle.elf_raw.proofs.NextZero.{next_from}
use Rattle.elf_raw.proofs.names.zeros_of.Goals as goal

pub loop-block-init : goal.loop-block-init
loop-block-init c =
    record {
      items = c.in_ok-zeros.ensures.items;
      here = c.next_zero-zero.ensures.place;
    }

pub next_zero_known-zero-requires-clause-known : goal.next_zero_known-zero-requires-clause-known
next_zero_known-zero-requires-clause-known c = λ order.
    let bytes = c.args.bytes.now in
    let block : ℕ = c.loop-block.block in
    let here = c.loop-block.invariant.here in
    here ∙ sym (next_from bytes (64 * (block - 1)) (64 * block) (omega arith) (omega arith))

pub loop-block-preserved : goal.loop-block-preserved
loop-block-preserved c =
    let bytes = c.args.bytes.now in
    let block : ℕ = c.loop-block.block in
    let there : block ≡ block + 1 - 1 = omega arith in
    record {
      items = c.in_ok-push.ensures.items
          ∙ (λ i. c.loop-block.invariant.items i ++ c.next_zero_known-zero.ensures.place i ∷ [])
          ∙ sym (map-range_with_len_more (zero_of_block bytes) 0 block block (omega arith));
      here = c.next_zero_known-zero.ensures.place ∙ ap (λ k. next_zero bytes (64 * k)) there;
    }
