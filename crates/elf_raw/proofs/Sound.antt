-- A file that isn't refused is sound.
use Rattle.std.proofs.Common.{◌≡◌, ℕ, ◌≤◌, Bool, false, List, length, None, arith}
use Rattle.std.proofs.lemmas.Bool.Decides.{nat_tests}
use Rattle.std.specs.Prelude.{nat_lt, ◌||◌}
use Rattle.elf_raw.specs.declared.fault.ElfFault.TheVariants.{NotElf, NotElf32Le, NotExec, NotRiscv, Compressed, OtherAbi, BadTable}
use Rattle.elf_raw.specs.Header.{header_of}
use Rattle.rv_code.proofs.LawsOfRows.{none_left, none_mapped, none_first, none_second, each_fails}
use Rattle.elf_raw.specs.Refusal.{bad_segment, bad_section, bad_table, elf_refusal, segment_offends, section_offends, IsSound}
use Rattle.elf_raw.proofs.Misfits.{section_held, section_linked}

no_less : (size least : ℕ) (other : Bool) → (nat_lt size least || other) ≡ false → least ≤ size
no_less size least other is = grind (arith, nat_tests)

pub sound : (bytes : List ℕ) → elf_refusal bytes ≡ None → IsSound bytes
sound bytes none =
    let magic = none_left _ NotElf _ none in
    let ident = none_left _ NotElf32Le _ magic.1 in
    let kind = none_left _ NotExec _ ident.1 in
    let machine = none_left _ NotRiscv _ kind.1 in
    let compressed = none_left _ Compressed _ machine.1 in
    let abi = none_left _ OtherAbi _ compressed.1 in
    let table : bad_table bytes ≡ None = none_mapped BadTable (bad_table bytes) abi.1 in
    let phentsize = none_left _ 42 _ table in
    let segments = none_left _ 28 _ phentsize.1 in
    let shentsize = none_left _ 46 _ segments.1 in
    let sections = none_left _ 32 _ shentsize.1 in
    let bad : bad_section bytes ≡ None = none_second (bad_segment bytes) (bad_section bytes) sections.1 in
    let none_bad = none_mapped _ _ bad in
    let no_segment : bad_segment bytes ≡ None = none_first (bad_segment bytes) (bad_section bytes) sections.1 in
    let none_segment = none_mapped _ _ no_segment in
    record {
      header = no_less (length bytes) 52 _ magic.0;
      segments = segments.0;
      sections = sections.0;
      pieces = each_fails (segment_offends bytes) (header_of bytes).phnum none_segment;
      held = λ number within. section_held bytes number (each_fails (section_offends bytes) (header_of bytes).shnum none_bad number within);
      linked = λ number within. section_linked bytes number (each_fails (section_offends bytes) (header_of bytes).shnum none_bad number within);
    }
