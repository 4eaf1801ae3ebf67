-- Laws of bytes that end within a file. They have no code, and proofs of every crate may cite them.
use Rattle.std.proofs.Common.{◌≡◌, ℕ, zero, suc, ◌+◌, ◌<◌, ◌≤◌, false, refl, arith}
use Rattle.std.proofs.lemmas.Bool.Decides.{nat_tests}
use Rattle.elf_raw.specs.Refusal.{passes}

-- some bytes that don't reach past an end stand before it
pub passes-within : (end offset size : ℕ) → passes end offset size ≡ false → 0 < size → offset + size ≤ end
passes-within end offset size within some = grind (arith, nat_tests)

-- bytes that stand before an end, if there are some, don't reach past it
pub within-passes : (end offset size : ℕ) → (0 < size → offset + size ≤ end) → passes end offset size ≡ false
within-passes end offset zero within = refl
within-passes end offset (suc size) within =
    let before : offset + suc size ≤ end = within (omega arith) in
    grind (arith, nat_tests)
