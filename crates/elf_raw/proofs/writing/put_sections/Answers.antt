use Rattle.std.proofs.Common.{◌≡◌, ◌+◌, ◌*◌, length, arith, refl}
use Rattle.std.proofs.lemmas.List.Elements.{All-more}
use Rattle.elf_raw.specs.Sections.{section_at}
use Rattle.elf_raw.specs.Written.{section_bytes}
use Rattle.elf_raw.proofs.Ends.{end_within}
use Rattle.elf_raw.proofs.Laid.{row_laid}
use Rattle.elf_raw.proofs.RowBytes.{section_bytes_length}
use Rattle.elf_raw.proofs.writing.put_sections.Goals as goal

pub loop-place-preserved : goal.loop-place-preserved
loop-place-preserved c =
    let sections = c.args.sections.now in
    let place = c.loop-place.place in
    let within = end_within c.args.offset (40 * length sections) (length c.args.file.now) (omega arith) c.requires.within in
    record {
      written =
          row_laid section_bytes 40 section_bytes_length c.args.file.now c.loop-place.file c.put_section.new.file c.args.offset (c.args.offset + 40 * place) place
          sections _ c.loop-place-test.true (omega arith) refl c.loop-place.invariant.written c.put_section.ensures.written;
      back =
          All-more (λ section. section_at (section_bytes section) 0 ≡ section) sections place _ c.loop-place-test.true c.loop-place.invariant.back c.put_section.ensures.back;
    }
