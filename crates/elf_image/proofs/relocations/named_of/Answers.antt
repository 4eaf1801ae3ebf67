use Rattle.std.proofs.Common.{ap, ◌∙◌}
use Rattle.rv_code.specs.Ordered.{rising}
use Rattle.rv_code.proofs.LawsOfLists.{rising_from_sort}
use Rattle.elf_raw.specs.declared.raw.RawElf.{RawElf}
use Rattle.elf_image.proofs.Naming.{named_by}
use Rattle.elf_image.proofs.relocations.named_of.Goals as goal

pub returns : goal.returns
returns c =
    rising_from_sort _ _ _ c.sort_unstable.ensures.permutation c.sort_unstable.ensures.sorted c.dedup.ensures.filtered
    ∙ ap rising c.in_ok-named.ensures
    ∙ ap (λ (r : RawElf). rising (named_by c.args.bytes.now r.relocations)) c.requires.read
