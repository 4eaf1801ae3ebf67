use Rattle.std.proofs.Common.{◌≡◌, ℕ, List, [], ◌++◌, take, sym, ap, ◌∙◌, subst}
use Rattle.std.proofs.lemmas.List.{flat_map_more, take_all, take_more}
use Rattle.std.proofs.lemmas.List.Elements.{All-more}
use Rattle.std.specs.List.{All, flat_map}
use Rattle.elf_raw.specs.declared.symbol.RawSymbol.{RawSymbol}
use Rattle.elf_raw.specs.Entries.{symbol_bytes, symbol_table, AreSymbolsIn}
use Rattle.elf_raw.specs.Inner.Fits.{SymbolFits}
use Rattle.elf_raw.proofs.EntriesBack.{symbols_in_table}
use Rattle.elf_raw.proofs.entries.symbol_table.Goals as goal

pub loop-symbol-preserved : goal.loop-symbol-preserved
loop-symbol-preserved c =
    let symbols : List RawSymbol = c.args.symbols.now in
    let place : ℕ = c.loop-symbol.symbol-index in
    record {
      bytes = c.in_ok-add_symbol.ensures.added
          ∙ (λ i. c.loop-symbol.invariant.bytes i ++ symbol_bytes (c.symbol-item.is i))
          ∙ flat_map_more symbol_bytes [] (take place symbols) _
          ∙ ap (flat_map symbol_bytes) (sym (take_more symbols place _ c.loop-symbol-test.true));
      fits = All-more SymbolFits symbols place _ c.loop-symbol-test.true c.loop-symbol.invariant.fits (subst SymbolFits c.symbol-item.is c.in_ok-add_symbol.ensures.fits);
    }

pub returns-clause-read_back : goal.returns-clause-read_back
returns-clause-read_back c =
    let symbols : List RawSymbol = c.args.symbols.now in
    let all : take c.loop-symbol.symbol-index symbols ≡ symbols = take_all c.loop-symbol.symbol-index symbols c.loop-symbol-test.false in
    subst (λ table. AreSymbolsIn table symbols) (sym (c.loop-symbol.invariant.bytes ∙ ap symbol_table all))
    (symbols_in_table symbols (subst (All SymbolFits) all c.loop-symbol.invariant.fits))
