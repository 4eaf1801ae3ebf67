-- How the conditions of writing are shown of examples: their tables, parts that don't meet, and what holds of each two items of
-- a list.
use Rattle.std.proofs.Common.{◌≡◌, ℕ, zero, suc, ◌+◌, ◌≤◌, List, [], ◌∷◌, length, arith}
use Rattle.std.specs.List.{All, AllPairs}
use Rattle.elf_raw.specs.declared.header.RawHeader.{RawHeader}
use Rattle.elf_raw.specs.declared.piece.Piece.{Piece}
use Rattle.elf_raw.specs.declared.raw.RawElf.{RawElf}
use Rattle.elf_raw.specs.declared.relocation.RawRelocation.{RawRelocation}
use Rattle.elf_raw.specs.declared.section.RawSection.{RawSection}
use Rattle.elf_raw.specs.declared.segment.RawSegment.{RawSegment}
use Rattle.elf_raw.specs.declared.symbol.RawSymbol.{RawSymbol}
use Rattle.elf_raw.specs.Writable.{IsApart}

-- the header of an executable with these tables
abbrev pub header_with : (phoff shoff flags phentsize phnum shnum shstrndx : ℕ) → RawHeader
header_with phoff shoff flags phentsize phnum shnum shstrndx =
    record {
      ident = 0x7f ∷ 0x45 ∷ 0x4c ∷ 0x46 ∷ 1 ∷ 1 ∷ 1 ∷ 0 ∷ 0 ∷ 0 ∷ 0 ∷ 0 ∷ 0 ∷ 0 ∷ 0 ∷ 0 ∷ [];
      kind = 2;
      machine = 243;
      version = 1;
      entry = 0x10074;
      phoff = phoff;
      shoff = shoff;
      flags = flags;
      ehsize = 52;
      phentsize = phentsize;
      phnum = phnum;
      shentsize = 40;
      shnum = shnum;
      shstrndx = shstrndx;
    }

-- a section of which every field is zero
abbrev pub null : RawSection
null =
    record {
      name = 0;
      kind = 0;
      flags = 0;
      addr = 0;
      offset = 0;
      size = 0;
      link = 0;
      info = 0;
      addralign = 0;
      entsize = 0;
      span = record { from = 0; to = 0 };
    }

abbrev pub raw_with : RawHeader → List RawSegment → List RawSection → List RawSymbol → List RawRelocation → RawElf
raw_with header segments sections symbols relocations =
    record { header = header; segments = segments; sections = sections; symbols = symbols; relocations = relocations }

pub pairs_none : {X : Type 0} (R : X → X → Type 0) → AllPairs R []
pairs_none R = λ i j d order within. absurd (omega arith)

pub pairs_more : {X : Type 0} (R : X → X → Type 0) (x : X) (xs : List X) → All (R x) xs → AllPairs R xs → AllPairs R (x ∷ xs)
pairs_more R x xs here rest zero zero d order within = absurd (omega arith)
pairs_more R x xs here rest zero (suc j) d order within = here j d (omega arith)
pairs_more R x xs here rest (suc i) zero d order within = absurd (omega arith)
pairs_more R x xs here rest (suc i) (suc j) d order within = rest i j d (omega arith) (omega arith)

pub apart_before : (part other : Piece) → part.offset + length part.bytes ≤ other.offset → IsApart part other
apart_before part other before = λ meets. absurd (omega (arith, meets.1.above, meets.1.below, meets.2.above, meets.2.below))

pub apart_behind : (part other : Piece) → other.offset + length other.bytes ≤ part.offset → IsApart part other
apart_behind part other behind = λ meets. absurd (omega (arith, meets.1.above, meets.1.below, meets.2.above, meets.2.below))

pub apart_none : (part other : Piece) → length part.bytes ≡ 0 → IsApart part other
apart_none part other none = λ meets. absurd (omega (arith, meets.1.above, meets.1.below))

pub apart_of_none : (part other : Piece) → length other.bytes ≡ 0 → IsApart part other
apart_of_none part other none = λ meets. absurd (omega (arith, meets.2.above, meets.2.below))
