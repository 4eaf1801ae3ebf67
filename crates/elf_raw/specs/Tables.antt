-- What is known of the tables that were read from a file.
use Rattle.std.specs.Prelude.{◌≡◌, ℕ, ◌≤◌, List, length, None}
use Rattle.elf_raw.specs.declared.limits.TheConstants.{FILE_LIMIT}
use Rattle.elf_raw.specs.declared.raw.RawElf.{RawElf}
use Rattle.elf_raw.specs.Raw.{raw_of}
use Rattle.elf_raw.specs.Refusal.{elf_refusal, IsSound}

-- they are the tables of a file with these bytes, which isn't too long and isn't refused
pub record AreTablesOf (raw : RawElf) (bytes : List ℕ) : Type 0 where
  pub small : length bytes ≤ FILE_LIMIT
  pub same : raw ≡ raw_of bytes
  pub taken : elf_refusal bytes ≡ None
  pub sound : IsSound bytes
