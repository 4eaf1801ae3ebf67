-- The stretch that is looked at first.
use Rattle.std.proofs.Common.{◌≡◌, ℕ, zero, suc, ◌+◌, ◌^◌, ◌<◌, ◌≤◌, false, List, length, sym, ◌∙◌, subst, arith}
use Rattle.std.specs.List.{AllByRecursion}
use Rattle.rv_code.specs.Numbers.{wrap}
use Rattle.std.proofs.Math.Nat.{mod-eq_of_lt}
use Rattle.rv_memory.specs.Stretches.{MappedStretch, cells_in}
use Rattle.rv_memory.specs.Memory.{is_writable, span}
use Rattle.rv_memory.specs.Outline.{stretch_end, AreInOrder}
use Rattle.rv_memory.specs.Inner.Places.{stretch_at, HasAddress}
use Rattle.rv_memory.proofs.Order.{stretch_is}
use Rattle.rv_memory.proofs.ReadBytes.{writable_is}

-- a stretch of several that are in order lies within the address space
pub ends_within : (stretches : List MappedStretch) (place : ℕ) (stretch : MappedStretch) → AreInOrder stretches → place < length stretches → stretch ≡ stretch_at stretches place → stretch_end stretch ≤ 2 ^ 32
ends_within stretches place stretch order inside found = subst (λ (b : MappedStretch). stretch_end b ≤ 2 ^ 32) (sym found) (stretch_is 0 stretches place order.rise inside).within

-- an address by its place in a stretch
pub has_place : (stretches : List MappedStretch) (number : ℕ) (stretch : MappedStretch) (address place size : ℕ) → number < length stretches → stretch ≡ stretch_at stretches number
    → 0 < size → address ≡ stretch.start + place → place + size ≤ length stretch.bytes → HasAddress stretches number address
has_place stretches number stretch address place size inside found some is within =
    record {
      inside = inside;
      above = subst (λ (b : MappedStretch). b.start ≤ address) found (omega arith);
      below = subst (λ (b : MappedStretch). address < stretch_end b) found (omega arith);
    }

-- addresses in one stretch that can't be written
pub all_fixed : (stretches : List MappedStretch) (place address count : ℕ) → AreInOrder stretches → (0 < count → HasAddress stretches place address) → address + count ≤ stretch_end (stretch_at stretches place) → place < length stretches
    → (stretch_at stretches place).writable ≡ false → AllByRecursion (λ byte. is_writable (cells_in stretches) byte ≡ false) (span address count)
all_fixed stretches place address zero order has within inside fixed = tt
all_fixed stretches place address (suc zero) order has within inside fixed = (sym (writable_is stretches place address order (has (omega arith))) ∙ fixed, tt)
all_fixed stretches place address (suc (suc count)) order has within inside fixed =
    let here = has (omega arith) in
    let no_wrap : wrap (address + 1) ≡ address + 1 = mod-eq_of_lt (omega (arith, within, (stretch_is 0 stretches place order.rise inside).within)) in (
      sym (writable_is stretches place address order here) ∙ fixed,
      all_fixed stretches place (wrap (address + 1)) (suc count) order
          (λ _. record { inside = inside; above = omega (arith, here.above, no_wrap); below = omega (arith, within, no_wrap) }) (omega (arith, within, no_wrap)) inside fixed,
    )
