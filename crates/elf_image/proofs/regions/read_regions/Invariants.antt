use Rattle.std.proofs.Common.{◌≡◌, map, take}
use Rattle.elf_image.specs.Loads.{region_of}
use Rattle.elf_image.proofs.regions.read_regions.Given as goal

abbrev pub invariant-loop-load : goal.invariant-loop-load
invariant-loop-load l = l.regions.items ≡ map (region_of l.bytes) (take l.load-index l.loads)
