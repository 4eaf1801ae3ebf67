use Rattle.std.proofs.Common.{◌∙◌}
use Rattle.ae_print.specs.ElfText.{section_front, section_rest}
use Rattle.ae_nums.proofs.LawsOfWriters.{Puts-both, Puts-front}
use Rattle.ae_print.proofs.elf.write_section.Goals as goal

pub returns-in_err-write : goal.returns-in_err-write
returns-in_err-write g c =
    Puts-front _ _ (section_front c.args.place c.args.section.now) (section_rest c.args.section.now) _ _ _ c.in_err-write.ensures.puts.broken
    c.write.ensures.puts (c.bytes.ensures.same ∙ c.front_of_section.ensures)

pub returns : goal.returns
returns g c =
    Puts-both g.met.K.Sink.rest_joins _ _ _ (section_front c.args.place c.args.section.now) (section_rest c.args.section.now) _ _ _ _
    c.write.ensures.puts (c.bytes.ensures.same ∙ c.front_of_section.ensures) c.write-2.ensures.puts (c.bytes-2.ensures.same ∙ c.rest_of_section.ensures)
