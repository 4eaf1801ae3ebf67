-- The file with symbols and relocations can be written.
use Rattle.std.proofs.Common.{◌≡◌, ℕ, List, [], ◌∷◌, pos, negsuc, false, refl, sym, subst, arith, lit≤}
use Rattle.std.specs.List.{All, AllPairs, flat_map}
use Rattle.std.proofs.lemmas.List.Elements.{All-nil, All-cons}
use Rattle.elf_raw.specs.declared.header.RawHeader.{RawHeader}
use Rattle.elf_raw.specs.declared.piece.Piece.{Piece}
use Rattle.elf_raw.specs.declared.raw.RawElf.{RawElf}
use Rattle.elf_raw.specs.declared.section.RawSection.{RawSection}
use Rattle.elf_raw.specs.declared.segment.RawSegment.{RawSegment}
use Rattle.elf_raw.specs.declared.relocation.RawRelocation.{RawRelocation}
use Rattle.elf_raw.specs.declared.symbol.RawSymbol.{RawSymbol}
use Rattle.elf_raw.specs.Refusal.{segment_passes, section_misfits}
use Rattle.elf_raw.specs.Sections.{section_span, section_in}
use Rattle.elf_raw.specs.Segments.{segment_span}
use Rattle.elf_raw.specs.Writable.{IsSpanned, IsApart, IsPlaced, IsHeld, IsTaken, IsWritable}
use Rattle.elf_raw.specs.Written.{header_bytes, segment_bytes, section_bytes, parts_of, file_end, file_of}
use Rattle.by_hand.proofs.Shown.{header_with, null, raw_with, pairs_none, pairs_more, apart_before, apart_behind, apart_none, apart_of_none}

abbrev header : RawHeader
header = header_with 0 132 16 0 0 4 2

abbrev symbols_section : RawSection
symbols_section =
    record {
      name = 0;
      kind = 2;
      flags = 0;
      addr = 0;
      offset = 52;
      size = 48;
      link = 2;
      info = 1;
      addralign = 4;
      entsize = 16;
      span = record { from = 52; to = 100 };
    }

abbrev strings_section : RawSection
strings_section =
    record {
      name = 0;
      kind = 3;
      flags = 0;
      addr = 0;
      offset = 100;
      size = 8;
      link = 0;
      info = 0;
      addralign = 1;
      entsize = 0;
      span = record { from = 100; to = 108 };
    }

abbrev relocations_section : RawSection
relocations_section =
    record {
      name = 0;
      kind = 4;
      flags = 0;
      addr = 0;
      offset = 108;
      size = 24;
      link = 1;
      info = 0;
      addralign = 4;
      entsize = 12;
      span = record { from = 108; to = 132 };
    }

abbrev symbol_with : (name value size info other shndx : ℕ) → List ℕ → RawSymbol
symbol_with name value size info other shndx text =
    record { section = 1; name = name; value = value; size = size; info = info; other = other; shndx = shndx; text = text }

abbrev pub symbols_with : List ℕ → List ℕ → List ℕ → List RawSymbol
symbols_with none arm leg =
    symbol_with 0 0 0 0 0 0 none ∷ symbol_with 1 0x10080 12 0x12 2 1 arm ∷ symbol_with 5 0x11000 4 0x11 0 0xfff1 leg ∷ []

abbrev pub arm_text : List ℕ
arm_text = 0x61 ∷ 0x72 ∷ 0x6d ∷ []

abbrev sections : List RawSection
sections = null ∷ symbols_section ∷ strings_section ∷ relocations_section ∷ []

abbrev relocations : List RawRelocation
relocations =
    record { section = 3; offset = 0x11000; info = 0x101; addend = pos 4 } ∷ record { section = 3; offset = 0x11004; info = 0x212; addend = negsuc 7 } ∷ []

abbrev raw : RawElf
raw = record { header = header; segments = []; sections = sections; symbols = symbols_with [] arm_text []; relocations = relocations }

abbrev symbol_bytes : List ℕ
symbol_bytes =
    0 ∷ 0 ∷ 0 ∷ 0 ∷ 0 ∷ 0 ∷ 0 ∷ 0 ∷ 0 ∷ 0 ∷ 0 ∷ 0 ∷ 0 ∷ 0 ∷ 0 ∷ 0 ∷ 1 ∷ 0 ∷ 0 ∷ 0 ∷ 0x80 ∷ 0 ∷ 1 ∷ 0 ∷ 12 ∷ 0 ∷ 0 ∷ 0 ∷ 0x12 ∷ 2 ∷ 1 ∷ 0 ∷ 5 ∷ 0 ∷ 0 ∷ 0 ∷ 0 ∷ 0x10 ∷ 1 ∷ 0 ∷ 4 ∷ 0 ∷ 0 ∷ 0
    ∷ 0x11 ∷ 0 ∷ 0xf1 ∷ 0xff ∷ 0 ∷ 0x61 ∷ 0x72 ∷ 0x6d ∷ 0 ∷ 0x6c ∷ 0x65 ∷ 0x67 ∷ []

abbrev relocation_bytes : List ℕ
relocation_bytes =
    0 ∷ 0x10 ∷ 1 ∷ 0 ∷ 1 ∷ 1 ∷ 0 ∷ 0 ∷ 4 ∷ 0 ∷ 0 ∷ 0 ∷ 4 ∷ 0x10 ∷ 1 ∷ 0 ∷ 0x12 ∷ 2 ∷ 0 ∷ 0 ∷ 0xf8 ∷ 0xff ∷ 0xff ∷ 0xff ∷ []

abbrev pieces_with : List ℕ → List ℕ → List Piece
pieces_with symbols relocations = record { offset = 52; bytes = symbols } ∷ record { offset = 108; bytes = relocations } ∷ []

abbrev pieces : List Piece
pieces = pieces_with symbol_bytes relocation_bytes

all_four : {X : Type 0} (P : X → Type 0) (a b c d : X) → P a → P b → P c → P d → All P (a ∷ b ∷ c ∷ d ∷ [])
all_four P a b c d pa pb pc pd =
    All-cons P a (b ∷ c ∷ d ∷ []) pa (All-cons P b (c ∷ d ∷ []) pb (All-cons P c (d ∷ []) pc (All-cons P d [] pd (All-nil P))))

spanned : IsSpanned raw
spanned =
    record {
      segments = All-nil (λ (segment : RawSegment). segment.span ≡ segment_span segment.offset segment.filesz);
      sections =
          all_four (λ (section : RawSection). section.span ≡ section_span section.kind section.offset section.size) null symbols_section strings_section relocations_section refl refl refl refl;
    }

ends_at : file_end (parts_of raw pieces) ≡ 292
unfolding header_bytes segment_bytes section_bytes
ends_at = refl

-- its parts
abbrev front : Piece
front = record { offset = 0; bytes = header_bytes header }

abbrev no_segments : Piece
no_segments = record { offset = 0; bytes = [] }

abbrev section_table : Piece
section_table = record { offset = 132; bytes = flat_map section_bytes sections }

abbrev first_piece : Piece
first_piece = record { offset = 52; bytes = symbol_bytes }

abbrev second_piece : Piece
second_piece = record { offset = 108; bytes = relocation_bytes }

apart_front : All (IsApart front) (no_segments ∷ section_table ∷ first_piece ∷ second_piece ∷ [])
unfolding header_bytes
apart_front =
    all_four (IsApart front) no_segments section_table first_piece second_piece (apart_of_none front no_segments refl) (apart_before front section_table (lit≤ tt))
    (apart_before front first_piece (lit≤ tt)) (apart_before front second_piece (lit≤ tt))

apart_pieces : AllPairs IsApart (section_table ∷ first_piece ∷ second_piece ∷ [])
unfolding section_bytes
apart_pieces =
    pairs_more IsApart section_table pieces
    (All-cons (IsApart section_table) first_piece (second_piece ∷ []) (apart_behind section_table first_piece (lit≤ tt))
    (All-cons (IsApart section_table) second_piece [] (apart_behind section_table second_piece (lit≤ tt)) (All-nil (IsApart section_table))))
    (pairs_more IsApart first_piece (second_piece ∷ [])
    (All-cons (IsApart first_piece) second_piece [] (apart_before first_piece second_piece (lit≤ tt)) (All-nil (IsApart first_piece)))
    (pairs_more IsApart second_piece [] (All-nil (IsApart second_piece)) (pairs_none IsApart)))

placed : IsPlaced (parts_of raw pieces)
unfolding header_bytes segment_bytes section_bytes
placed =
    record {
      end = lit≤ tt;
      apart = pairs_more IsApart front (no_segments ∷ section_table ∷ pieces) apart_front
          (pairs_more IsApart no_segments (section_table ∷ pieces) (λ k d within. apart_none no_segments _ refl) apart_pieces);
    }

held : IsHeld raw (file_of raw pieces)
unfolding file_of header_bytes segment_bytes section_bytes
held = record { symbols = refl; relocations = refl }

taken : IsTaken raw 292
taken =
    record {
      magic = refl;
      class = refl;
      order = refl;
      kind = refl;
      machine = refl;
      flags = refl;
      phentsize = λ some. absurd (omega arith);
      shentsize = λ _. refl;
      segments = All-nil (λ segment. segment_passes 292 segment ≡ false);
      sections =
          all_four (λ section. section_misfits 292 (section_in raw.sections) 4 section ≡ false) null symbols_section strings_section relocations_section refl refl refl refl;
    }

writable : IsWritable raw pieces
writable =
    record {
      counted = record { segments = refl; sections = refl };
      spanned = spanned;
      placed = placed;
      held = held;
      taken = subst (IsTaken raw) (sym ends_at) taken;
    }

pub tables_file : (segments : List RawSegment) (given : List RawSection) (symbols : List RawSymbol) (others : List RawRelocation) (one two : List ℕ)
    → segments ≡ [] → given ≡ sections → symbols ≡ symbols_with [] arm_text [] → others ≡ relocations → one ≡ symbol_bytes → two ≡ relocation_bytes
    → IsWritable (raw_with header segments given symbols others) (pieces_with one two)
tables_file segments given symbols others one two are_segments are_sections are_symbols are_relocations is_one is_two =
    let same : raw ≡ raw_with header segments given symbols others =
    sym (λ i. raw_with header (are_segments i) (are_sections i) (are_symbols i) (are_relocations i)) in
    let parts : pieces ≡ pieces_with one two = sym (λ i. pieces_with (is_one i) (is_two i)) in
    subst (λ (r : RawElf). IsWritable r (pieces_with one two)) same (subst (λ (ps : List Piece). IsWritable raw ps) parts writable)
