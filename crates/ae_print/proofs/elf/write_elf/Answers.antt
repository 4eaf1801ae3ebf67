use Rattle.std.proofs.Common.{ℕ, List, ◌++◌, codes, length, refl, ap, ◌∙◌}
use Rattle.elf_raw.specs.declared.relocation.RawRelocation.{RawRelocation}
use Rattle.elf_raw.specs.declared.symbol.RawSymbol.{RawSymbol}
use Rattle.ae_print.specs.ElfText.{table_lines, count_line}
use Rattle.ae_nums.proofs.LawsOfWriters.{Puts-both, Puts-front, Puts-more}
use Rattle.ae_print.proofs.elf.write_elf.Goals as goal

-- the lines of the two counts
abbrev symbols_line : List RawSymbol → List ℕ
symbols_line symbols = count_line (codes "symbols ") (length symbols)

abbrev relocations_line : List RawRelocation → List ℕ
relocations_line relocations = count_line (codes "relocations ") (length relocations)

pub returns-in_err-write_tables : goal.returns-in_err-write_tables
returns-in_err-write_tables g c =
    let raw = c.args.raw.now in
    let broken = c.in_err-write_tables.ensures.broken in
    let front = Puts-front _ _ (table_lines raw) (symbols_line raw.symbols) _ _ c.from_residual.result broken c.write_tables.ensures refl in
    Puts-more _ _ _ (relocations_line raw.relocations) _ broken front

pub returns-in_err-write : goal.returns-in_err-write
returns-in_err-write g c =
    let raw = c.args.raw.now in
    let both = Puts-both g.met.K.Sink.rest_joins _ _ _ (table_lines raw) (symbols_line raw.symbols) _ _ _ _
    c.write_tables.ensures refl c.write.ensures.puts (c.bytes.ensures.same ∙ c.line_of_count.ensures ∙ ap symbols_line c.as_slice-symbols.ensures) in
    Puts-front _ _ (table_lines raw ++ symbols_line raw.symbols) (relocations_line raw.relocations) _ _ _ c.in_err-write.ensures.puts.broken both refl

pub returns : goal.returns
returns g c =
    let raw = c.args.raw.now in
    let both = Puts-both g.met.K.Sink.rest_joins _ _ _ (table_lines raw) (symbols_line raw.symbols) _ _ _ _
    c.write_tables.ensures refl c.write.ensures.puts (c.bytes.ensures.same ∙ c.line_of_count.ensures ∙ ap symbols_line c.as_slice-symbols.ensures) in
    Puts-both g.met.K.Sink.rest_joins _ _ _ (table_lines raw ++ symbols_line raw.symbols) (relocations_line raw.relocations) _ _ _ _
    both refl c.write-2.ensures.puts (c.bytes-2.ensures.same ∙ c.line_of_count-2.ensures ∙ ap relocations_line c.as_slice-relocations.ensures)
