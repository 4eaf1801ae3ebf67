use Rattle.std.proofs.Common.{◌≡◌, ◌-◌, ◌*◌, map}
use Rattle.std.specs.List.{range_with_len}
use Rattle.elf_raw.specs.Inner.Zeros.{next_zero, zero_of_block}
use Rattle.elf_raw.proofs.names.zeros_of.Given as goal

abbrev pub invariant-loop-block : goal.invariant-loop-block
invariant-loop-block l =
    record {
      items : l.zeros.items ≡ map (zero_of_block l.bytes) (range_with_len 0 l.block);
      here : l.zero ≡ next_zero l.bytes (64 * (l.block - 1));
    }
