use Rattle.std.proofs.Common.{◌∙◌, ℕ, ap, ltb, ◌+◌, ◌-◌, ◌%◌, arith}
use Rattle.regen_walk.proofs.Bytes.{is_among}
use Rattle.regen_walk.proofs.accesses.is_among_bytes.Goals as goal

pub returns : goal.returns
returns c =
    ap (λ (size : ℕ). ltb ((c.args.byte + (4294967296 - c.args.address)) % 4294967296) size) c.from.ensures
    ∙ is_among c.args.byte (omega (arith, c.ranges.byte.fits)) c.args.address c.args.size (omega (arith, c.ranges.address.fits))
