use Rattle.std.proofs.Common.{◌*◌, ◌≤◌, List, length, sym, subst, ◌∙◌}
use Rattle.std.specs.List.{All}
use Rattle.elf_raw.specs.declared.section.RawSection.{RawSection}
use Rattle.elf_raw.specs.declared.segment.RawSegment.{RawSegment}
use Rattle.elf_raw.specs.Written.{end_of}
use Rattle.elf_raw.proofs.Kept.{EndsWithin}
use Rattle.elf_raw.proofs.WrittenFile.{fits}
use Rattle.elf_raw.proofs.writing.put_parts.Goals as goal

pub put_header-requires : goal.put_header-requires
put_header-requires c = (fits c.args.raw.now c.args.pieces.now (length c.args.file.now) c.requires.end c.requires.size).header

pub put_segments-requires-clause-within : goal.put_segments-requires-clause-within
put_segments-requires-clause-within c =
    let fit = fits c.args.raw.now c.args.pieces.now (length c.args.file.now) c.requires.end c.requires.size in
    subst (λ n. end_of c.args.raw.now.header.phoff (32 * length c.as_slice.result.now) ≤ n) (sym c.put_header.auto.file)
    (subst (λ (xs : List RawSegment). end_of c.args.raw.now.header.phoff (32 * length xs) ≤ length c.args.file.now) (sym c.as_slice.ensures) fit.segments)

pub put_sections-requires-clause-within : goal.put_sections-requires-clause-within
put_sections-requires-clause-within c =
    let fit = fits c.args.raw.now c.args.pieces.now (length c.args.file.now) c.requires.end c.requires.size in
    subst (λ n. end_of c.args.raw.now.header.shoff (40 * length c.as_slice-2.result.now) ≤ n) (sym (c.put_segments.auto.file ∙ c.put_header.auto.file))
    (subst (λ (xs : List RawSection). end_of c.args.raw.now.header.shoff (40 * length xs) ≤ length c.args.file.now) (sym c.as_slice-2.ensures) fit.sections)

pub put_pieces-requires : goal.put_pieces-requires
put_pieces-requires c =
    let fit = fits c.args.raw.now c.args.pieces.now (length c.args.file.now) c.requires.end c.requires.size in
    subst (λ n. All (EndsWithin n) c.args.pieces.now) (sym (c.put_sections.auto.file ∙ c.put_segments.auto.file ∙ c.put_header.auto.file)) fit.pieces
