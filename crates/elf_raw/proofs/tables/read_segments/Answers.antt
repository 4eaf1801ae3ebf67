use Rattle.std.proofs.Common.{◌≡◌, [], map, ap, ◌∙◌, arith}
use Rattle.std.specs.List.{range_with_len}
use Rattle.elf_raw.specs.declared.header.RawHeader.{RawHeader}
use Rattle.elf_raw.specs.Segments.{segment_of}
use Rattle.rv_code.proofs.LawsOfRows.{row_more}
use Rattle.elf_raw.proofs.tables.read_segments.Goals as goal

pub loop-number-preserved : goal.loop-number-preserved
loop-number-preserved c =
    let bytes = c.args.bytes.now in
    row_more (segment_of bytes) [] c.loop-number.segments.items c.push.new.self.items c.loop-number.number _ c.loop-number.invariant c.in_ok-push.ensures.items
    (c.segment_of.ensures)

pub returns : goal.returns
returns c =
    let bytes = c.args.bytes.now in
    let all : c.loop-number.number ≡ c.args.header.now.phnum = omega (arith, c.loop-number-test.false, c.loop-number.auto.number-end) in
    c.loop-number.invariant
    ∙ ap (λ n. map (segment_of bytes) (range_with_len 0 n)) all
    ∙ ap (λ (h : RawHeader). map (segment_of bytes) (range_with_len 0 h.phnum)) c.requires.header
