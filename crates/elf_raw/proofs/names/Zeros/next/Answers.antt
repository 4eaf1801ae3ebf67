use Rattle.std.proofs.Common.{◌≡◌, ℕ, ◌+◌, ◌-◌, ◌*◌, ◌/◌, ◌≤◌, length, take, drop, get_or, ap, ◌∙◌, arith, rules, length-take, length-drop}
use Rattle.elf_raw.specs.Inner.Zeros.{zero_place, next_zero}
use Rattle.elf_raw.proofs.NextZero.{next_le}
use Rattle.elf_raw.proofs.ZeroIndex.{block_within, index_entry, in_block, behind_block}
use Rattle.elf_raw.proofs.names.Zeros.next.Goals as goal

-- the end of the block lies within the file
end_within : (c : goal.Else-block-next) → 64 * (c.args.from / 64 + 1) ≤ length c.args.bytes.now
end_within c = block_within c.as_slice-next.result.now c.args.bytes.now (c.args.from / 64 + 1) (c.as_slice-next.ensures ∙ c.requires.index) c.if-block-next.false

pub slice_bounds-zero_place-end : goal.slice_bounds-zero_place-end
slice_bounds-zero_place-end c =
    let within = end_within c in
    let order : c.args.from ≤ 64 * (c.args.from / 64 + 1) = omega arith in
    search rules

pub overflow_add-zero : goal.overflow_add-zero
overflow_add-zero c =
    let within = c.zero_place.ensures.within in
    omega (arith, length-take {A = ℕ}, length-drop {A = ℕ})

pub returns-then-zero-end : goal.returns-then-zero-end
returns-then-zero-end c =
    let bytes = c.args.bytes.now in
    let from : ℕ = c.args.from in
    let end : ℕ = 64 * (from / 64 + 1) in
    let place : ℕ = from + c.zero_place.result in
    let is : place ≡ from + zero_place (take (end - from) (drop from bytes)) = ap (λ k. from + k) c.zero_place.ensures.place in
    let next : place ≡ next_zero bytes from = in_block bytes from end place (omega arith) is c.if-zero-end.true in
    record {
      place = next;
      within = omega (arith, next_le bytes from c.requires.within);
    }

pub returns-else-zero-end : goal.returns-else-zero-end
returns-else-zero-end c =
    let bytes = c.args.bytes.now in
    let from : ℕ = c.args.from in
    let end : ℕ = 64 * (from / 64 + 1) in
    let place : ℕ = from + c.zero_place.result in
    let is : place ≡ from + zero_place (take (end - from) (drop from bytes)) = ap (λ k. from + k) c.zero_place.ensures.place in
    let next : next_zero bytes end ≡ next_zero bytes from = behind_block bytes from end place (omega arith) is c.if-zero-end.false in
    let entry : get_or c.as_slice-next.result.now (from / 64 + 1) 0 ≡ next_zero bytes end = index_entry c.as_slice-next.result.now bytes (from / 64 + 1) (c.as_slice-next.ensures ∙ c.requires.index) c.if-block-next.false in
    record {
      place = entry ∙ next;
      within = omega (arith, next_le bytes from c.requires.within);
    }
