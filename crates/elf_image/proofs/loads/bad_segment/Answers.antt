use Rattle.std.proofs.Common.{◌<◌, ◌++◌, [], ◌∷◌, cond, ℕ, Some, sym, ap, ◌∙◌, arith}
use Rattle.std.specs.Option.{option_or}
use Rattle.elf_raw.specs.Header.{header_of}
use Rattle.elf_raw.specs.declared.segment.RawSegment.{RawSegment}
use Rattle.elf_raw.specs.Segments.{segment_of}
use Rattle.rv_code.proofs.LawsOfRows.{found_here, found_later}
use Rattle.elf_image.specs.Loads.{is_load, bad_load_at, code_or_note}
use Rattle.elf_image.proofs.HeaderRows.{headers_count, header_here, count_read, passing_more}
use Rattle.elf_image.proofs.BadHere.{bad_load_here}
use Rattle.elf_image.proofs.loads.bad_segment.Goals as goal

pub bounds-segments-number : goal.bounds-segments-number
bounds-segments-number c =
    let count = headers_count c.args.raw.now c.args.bytes.now c.as_slice-segments.result.now c.requires.read c.as_slice-segments.ensures in
    omega (arith, count)

pub returns-then-is_bad_load : goal.returns-then-is_bad_load
returns-then-is_bad_load c =
    let bytes = c.args.bytes.now in
    let number : ℕ = c.loop-number.number in
    let within : number < (header_of bytes).phnum = omega (arith, c.loop-number-test.true, count_read c.args.raw.now bytes c.requires.read) in
    let here = bad_load_here c.args.raw.now bytes c.as_slice-segments.result.now c.deref.result.now number _ _ _ c.requires.read c.as_slice-segments.ensures c.loop-number-test.true
    c.has_note-noted.ensures (c.deref.ensures.value ∙ c.loop-number.invariant.loads) c.is_bad_load.ensures in
    let found = c.loop-number.invariant.left ∙ found_here (bad_load_at bytes) number (header_of bytes).phnum within (sym here ∙ c.if-is_bad_load.true) in
    ap Some c.from.ensures ∙ sym (ap (λ bad. option_or bad (code_or_note bytes)) found)

pub loop-number-preserved : goal.loop-number-preserved
loop-number-preserved c =
    let bytes = c.args.bytes.now in
    let number : ℕ = c.loop-number.number in
    let within : number < (header_of bytes).phnum = omega (arith, c.loop-number-test.true, count_read c.args.raw.now bytes c.requires.read) in
    let here = bad_load_here c.args.raw.now bytes c.as_slice-segments.result.now c.deref.result.now number _ _ _ c.requires.read c.as_slice-segments.ensures c.loop-number-test.true
    c.has_note-noted.ensures (c.deref.ensures.value ∙ c.loop-number.invariant.loads) c.is_bad_load.ensures in
    let row = header_here c.args.raw.now bytes c.as_slice-segments.result.now number _ c.requires.read c.as_slice-segments.ensures c.loop-number-test.true in
    record {
      loads =
          c.in_ok-add_load.ensures
          ∙ ap (λ (s : RawSegment). c.loop-number.loads.items ++ cond (is_load s) (s ∷ []) []) row
          ∙ ap (λ xs. xs ++ cond (is_load (segment_of bytes number)) (segment_of bytes number ∷ []) []) c.loop-number.invariant.loads
          ∙ sym (passing_more is_load bytes number within);
      left = c.loop-number.invariant.left ∙ found_later (bad_load_at bytes) number (header_of bytes).phnum within (sym here ∙ c.if-is_bad_load.false);
    }
