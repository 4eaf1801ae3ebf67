use Rattle.std.proofs.Common.{◌≡◌, ◌-◌}
use Rattle.std.specs.List.{find, filter, range_with_len}
use Rattle.elf_raw.specs.Header.{header_of}
use Rattle.elf_image.specs.Loads.{is_load, before, bad_load_at, bad_load}
use Rattle.elf_image.proofs.loads.bad_segment.Given as goal

-- the loads so far, and what is left to look at
abbrev pub invariant-loop-number : goal.invariant-loop-number
invariant-loop-number l =
    record {
      loads : l.loads.items ≡ filter is_load (before l.bytes l.number);
      left : bad_load l.bytes ≡ find (bad_load_at l.bytes) (range_with_len l.number ((header_of l.bytes).phnum - l.number));
    }
