use Rattle.std.proofs.Common.{◌≡◌, ℕ, ◌+◌, ◌*◌, ap, ◌∙◌}
use Rattle.elf_raw.specs.declared.section.RawSection.{RawSection}
use Rattle.elf_raw.specs.Sections.{section_of}
use Rattle.elf_raw.specs.Symbols.{symbol_at, symbol_of}
use Rattle.rv_code.proofs.LawsOfRows.{row_more}
use Rattle.elf_raw.proofs.symbols.add_symbols.Goals as goal

pub loop-place-preserved : goal.loop-place-preserved
loop-place-preserved c =
    let bytes = c.args.bytes.now in
    let section = c.args.section.now in
    let number : ℕ = c.args.number in
    let place : ℕ = c.loop-place.place in
    let last : c.in_ok-read_symbol.field-0 ≡ symbol_of bytes (section_of bytes) number section place =
    c.in_ok-read_symbol.ensures ∙ ap (λ (s : RawSection). symbol_at bytes number s (section.offset + 16 * place)) c.requires.strings in
    row_more (symbol_of bytes (section_of bytes) number section) c.args.symbols.now.items c.loop-place.symbols.items c.push.new.self.items place c.in_ok-read_symbol.field-0
    c.loop-place.invariant c.in_ok-push.ensures.items last
