-- Which entries have room for their numbers.
use Rattle.std.specs.Prelude.{◌<◌, ◌^◌, FitsSigned}
use Rattle.std.specs.Int.{w32}
use Rattle.elf_raw.specs.declared.relocation.RawRelocation.{RawRelocation}
use Rattle.elf_raw.specs.declared.symbol.RawSymbol.{RawSymbol}

pub record SymbolFits (symbol : RawSymbol) : Type 0 where
  pub name : symbol.name < 2 ^ 32
  pub value : symbol.value < 2 ^ 32
  pub size : symbol.size < 2 ^ 32
  pub info : symbol.info < 2 ^ 8
  pub other : symbol.other < 2 ^ 8
  pub shndx : symbol.shndx < 2 ^ 16

pub record RelocationFits (relocation : RawRelocation) : Type 0 where
  pub offset : relocation.offset < 2 ^ 32
  pub info : relocation.info < 2 ^ 32
  pub addend : FitsSigned w32 relocation.addend
