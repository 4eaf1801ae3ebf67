-- Where parts of a file end.
use Rattle.std.proofs.Common.{ℕ, zero, suc, ◌+◌, ◌<◌, ◌≤◌, List, [], ◌∷◌, length, get_or, arith}
use Rattle.std.proofs.lemmas.Bool.Decides.{nat_tests}
use Rattle.std.specs.List.{fold}
use Rattle.elf_raw.specs.declared.piece.Piece.{Piece}
use Rattle.elf_raw.specs.Written.{end_of, last_end}

-- some bytes end where their offset and their number say
pub end_within : (offset size limit : ℕ) → 0 < size → end_of offset size ≤ limit → offset + size ≤ limit
end_within offset zero limit some within = absurd (omega arith)
end_within offset (suc size) limit some within = grind (arith, nat_tests)

-- what comes before ends at or before the last
pub ends_from : (before : ℕ) (parts : List Piece) → before ≤ fold last_end before parts
ends_from before [] = omega arith
ends_from before (part ∷ parts) = omega (arith, ends_from (last_end before part) parts)

-- and so does each part
pub ends_each : (before : ℕ) (parts : List Piece) (k : ℕ) (d : Piece) → k < length parts → end_of (get_or parts k d).offset (length (get_or parts k d).bytes) ≤ fold last_end before parts
ends_each before [] k d within = absurd (omega arith)
ends_each before (part ∷ parts) zero d within = omega (arith, ends_from (last_end before part) parts)
ends_each before (part ∷ parts) (suc k) d within = ends_each (last_end before part) parts k d (omega arith)
