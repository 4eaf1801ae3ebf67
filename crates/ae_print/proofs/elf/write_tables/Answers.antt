use Rattle.std.proofs.Common.{◌++◌, refl, ap, ◌∙◌}
use Rattle.ae_print.specs.ElfText.{header_line, segment_lines, section_lines}
use Rattle.ae_nums.proofs.LawsOfWriters.{Puts-both, Puts-front, Puts-more}
use Rattle.ae_print.proofs.elf.write_tables.Goals as goal

pub returns-in_err-write : goal.returns-in_err-write
returns-in_err-write g c =
    let raw = c.args.raw.now in
    let broken = c.in_err-write.ensures.puts.broken in
    let front = Puts-front _ _ (header_line raw.header) (segment_lines raw.segments) _ _ c.from_residual.result
    broken c.write.ensures.puts (c.bytes.ensures.same ∙ c.line_of_header.ensures) in
    Puts-more _ _ _ (section_lines raw.sections) _ broken front

pub returns-in_err-write_segments : goal.returns-in_err-write_segments
returns-in_err-write_segments g c =
    let raw = c.args.raw.now in
    let both = Puts-both g.met.K.Sink.rest_joins _ _ _ (header_line raw.header) (segment_lines raw.segments) _ _ _ _
    c.write.ensures.puts (c.bytes.ensures.same ∙ c.line_of_header.ensures) c.write_segments.ensures (ap segment_lines c.as_slice.ensures) in
    Puts-front _ _ (header_line raw.header ++ segment_lines raw.segments) (section_lines raw.sections) _ _ _ c.in_err-write_segments.ensures.broken both refl

pub returns : goal.returns
returns g c =
    let raw = c.args.raw.now in
    let both = Puts-both g.met.K.Sink.rest_joins _ _ _ (header_line raw.header) (segment_lines raw.segments) _ _ _ _
    c.write.ensures.puts (c.bytes.ensures.same ∙ c.line_of_header.ensures) c.write_segments.ensures (ap segment_lines c.as_slice.ensures) in
    Puts-both g.met.K.Sink.rest_joins _ _ _ (header_line raw.header ++ segment_lines raw.segments) (section_lines raw.sections) _ _ _ _
    both refl c.write_sections.ensures (ap section_lines c.as_slice-2.ensures)
