use Rattle.std.proofs.Common.{ap, ◌∙◌}
use Rattle.elf_raw.specs.declared.raw.RawElf.{RawElf}
use Rattle.elf_image.proofs.Naming.{named_goes_on, own_sections, names_something}
use Rattle.elf_image.proofs.relocations.addresses_named.Goals as goal

pub add_named-requires-clause-sections : goal.add_named-requires-clause-sections
add_named-requires-clause-sections c = c.as_slice.ensures ∙ ap (λ (r : RawElf). r.sections) c.requires.read

pub add_named-requires-clause-own : goal.add_named-requires-clause-own
add_named-requires-clause-own c =
    own_sections c.args.bytes.now c.args.raw.now c.as_slice.result.now c.as_slice-relocation-items.result.now c.requires.read c.as_slice.ensures c.as_slice-relocation-items.ensures
    c.loop-relocation.relocation-index _ c.loop-relocation-test.true

pub add_named-requires-clause-there : goal.add_named-requires-clause-there
add_named-requires-clause-there c =
    names_something c.args.bytes.now c.as_slice-relocation-items.result.now
    (c.as_slice-relocation-items.ensures ∙ ap (λ (r : RawElf). r.relocations) c.requires.read) c.requires.known
    c.loop-relocation.relocation-index _ c.loop-relocation-test.true

pub loop-relocation-preserved : goal.loop-relocation-preserved
loop-relocation-preserved c =
    named_goes_on c.args.bytes.now c.as_slice-relocation-items.result.now c.args.raw.now.relocations c.loop-relocation.relocation-index _
    c.loop-relocation.named.items c.add_named.new.named.items c.as_slice-relocation-items.ensures c.loop-relocation-test.true c.loop-relocation.invariant c.in_ok-add_named.ensures
