use Rattle.std.proofs.Common.{◌<◌, ℕ, Some, sym, ap, ◌∙◌, arith, length-take}
use Rattle.elf_raw.specs.Header.{header_of}
use Rattle.elf_raw.specs.declared.segment.RawSegment.{RawSegment}
use Rattle.rv_code.proofs.LawsOfRows.{found_here, found_later}
use Rattle.elf_image.specs.Loads.{bad_note_at}
use Rattle.elf_image.proofs.HeaderRows.{headers_count, header_here, piece_within, count_read}
use Rattle.elf_image.proofs.BadHere.{bad_note_here}
use Rattle.elf_image.proofs.loads.bad_note.Goals as goal

pub slice_bounds-is_bad_note-end : goal.slice_bounds-is_bad_note-end
slice_bounds-is_bad_note-end c =
    let count = headers_count c.args.raw.now c.args.bytes.now c.as_slice-segments.result.now c.requires.read c.as_slice-segments.ensures in
    omega (arith, count, length-take {A = RawSegment})

pub bounds-segments-place : goal.bounds-segments-place
bounds-segments-place c =
    let count = headers_count c.args.raw.now c.args.bytes.now c.as_slice-segments.result.now c.requires.read c.as_slice-segments.ensures in
    omega (arith, count)

pub is_bad_note-requires : goal.is_bad_note-requires
is_bad_note-requires c =
    piece_within c.args.raw.now c.args.bytes.now c.loop-number.number _ c.requires.read c.requires.sound c.loop-number-test.true
    (header_here c.args.raw.now c.args.bytes.now c.as_slice-segments.result.now c.loop-number.number _ c.requires.read c.as_slice-segments.ensures c.loop-number-test.true)

pub returns-then-is_bad_note : goal.returns-then-is_bad_note
returns-then-is_bad_note c =
    let bytes = c.args.bytes.now in
    let number : ℕ = c.loop-number.number in
    let within : number < (header_of bytes).phnum = omega (arith, c.loop-number-test.true, count_read c.args.raw.now bytes c.requires.read) in
    let here = bad_note_here c.args.raw.now bytes c.as_slice-segments.result.now number _ _ c.requires.read c.as_slice-segments.ensures c.loop-number-test.true c.is_bad_note.ensures in
    ap Some c.from.ensures ∙ sym (c.loop-number.invariant ∙ found_here (bad_note_at bytes) number (header_of bytes).phnum within (sym here ∙ c.if-is_bad_note.true))

pub loop-number-preserved : goal.loop-number-preserved
loop-number-preserved c =
    let bytes = c.args.bytes.now in
    let number : ℕ = c.loop-number.number in
    let within : number < (header_of bytes).phnum = omega (arith, c.loop-number-test.true, count_read c.args.raw.now bytes c.requires.read) in
    let here = bad_note_here c.args.raw.now bytes c.as_slice-segments.result.now number _ _ c.requires.read c.as_slice-segments.ensures c.loop-number-test.true c.is_bad_note.ensures in
    c.loop-number.invariant ∙ found_later (bad_note_at bytes) number (header_of bytes).phnum within (sym here ∙ c.if-is_bad_note.false)
