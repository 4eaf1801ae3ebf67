-- The file of three code words can be written.
use Rattle.std.proofs.Common.{◌≡◌, ℕ, List, [], ◌∷◌, false, refl, sym, subst, lit≤}
use Rattle.std.specs.List.{All, AllPairs, flat_map}
use Rattle.std.proofs.lemmas.List.Elements.{All-nil, All-cons}
use Rattle.elf_raw.specs.declared.header.RawHeader.{RawHeader}
use Rattle.elf_raw.specs.declared.piece.Piece.{Piece}
use Rattle.elf_raw.specs.declared.raw.RawElf.{RawElf}
use Rattle.elf_raw.specs.declared.section.RawSection.{RawSection}
use Rattle.elf_raw.specs.declared.segment.RawSegment.{RawSegment}
use Rattle.elf_raw.specs.declared.relocation.RawRelocation.{RawRelocation}
use Rattle.elf_raw.specs.declared.symbol.RawSymbol.{RawSymbol}
use Rattle.elf_raw.specs.Refusal.{segment_passes, section_misfits}
use Rattle.elf_raw.specs.Sections.{section_span, section_in}
use Rattle.elf_raw.specs.Segments.{segment_span}
use Rattle.elf_raw.specs.Writable.{IsSpanned, IsApart, IsPlaced, IsHeld, IsTaken, IsWritable}
use Rattle.elf_raw.specs.Written.{header_bytes, segment_bytes, section_bytes, parts_of, file_end, file_of}
use Rattle.by_hand.proofs.Shown.{header_with, null, raw_with, pairs_none, pairs_more, apart_before, apart_behind}

abbrev header : RawHeader
header = header_with 52 128 0 32 2 2 0

abbrev code : RawSegment
code =
    record {
      kind = 1;
      offset = 0;
      vaddr = 0x10000;
      paddr = 0x10000;
      filesz = 128;
      memsz = 128;
      flags = 5;
      align = 4096;
      span = record { from = 0; to = 128 };
    }

abbrev empty : RawSegment
empty =
    record {
      kind = 1;
      offset = 128;
      vaddr = 0x11000;
      paddr = 0x11000;
      filesz = 0;
      memsz = 0;
      flags = 6;
      align = 4;
      span = record { from = 128; to = 128 };
    }

abbrev text : RawSection
text =
    record {
      name = 0;
      kind = 1;
      flags = 6;
      addr = 0x10074;
      offset = 116;
      size = 12;
      link = 0;
      info = 0;
      addralign = 4;
      entsize = 0;
      span = record { from = 116; to = 128 };
    }

abbrev raw : RawElf
raw = record { header = header; segments = code ∷ empty ∷ []; sections = null ∷ text ∷ []; symbols = []; relocations = [] }

abbrev piece : Piece
piece = record { offset = 116; bytes = 0x93 ∷ 0x08 ∷ 0xd0 ∷ 0x05 ∷ 0x13 ∷ 0x05 ∷ 0x70 ∷ 0x00 ∷ 0x73 ∷ 0x00 ∷ 0x00 ∷ 0x00 ∷ [] }

all_two : {X : Type 0} (P : X → Type 0) (x y : X) → P x → P y → All P (x ∷ y ∷ [])
all_two P x y one two = All-cons P x (y ∷ []) one (All-cons P y [] two (All-nil P))

all_pairs : (a b c d : Piece) → IsApart a b → IsApart a c → IsApart a d → IsApart b c → IsApart b d → IsApart c d → AllPairs IsApart (a ∷ b ∷ c ∷ d ∷ [])
all_pairs a b c d ab ac ad bc bd cd =
    pairs_more IsApart a (b ∷ c ∷ d ∷ []) (All-cons (IsApart a) b (c ∷ d ∷ []) ab (all_two (IsApart a) c d ac ad))
    (pairs_more IsApart b (c ∷ d ∷ []) (all_two (IsApart b) c d bc bd)
    (pairs_more IsApart c (d ∷ []) (All-cons (IsApart c) d [] cd (All-nil (IsApart c)))
    (pairs_more IsApart d [] (All-nil (IsApart d)) (pairs_none IsApart))))

spanned : IsSpanned raw
spanned =
    record {
      segments = all_two (λ (segment : RawSegment). segment.span ≡ segment_span segment.offset segment.filesz) code empty refl refl;
      sections = all_two (λ (section : RawSection). section.span ≡ section_span section.kind section.offset section.size) null text refl refl;
    }

ends_at : file_end (parts_of raw (piece ∷ [])) ≡ 208
unfolding header_bytes segment_bytes section_bytes
ends_at = refl

-- its parts
abbrev front : Piece
front = record { offset = 0; bytes = header_bytes header }

abbrev segment_table : Piece
segment_table = record { offset = 52; bytes = flat_map segment_bytes (code ∷ empty ∷ []) }

abbrev section_table : Piece
section_table = record { offset = 128; bytes = flat_map section_bytes (null ∷ text ∷ []) }

placed : IsPlaced (parts_of raw (piece ∷ []))
unfolding header_bytes segment_bytes section_bytes
placed =
    record {
      end = lit≤ tt;
      apart =
          all_pairs front segment_table section_table piece (apart_before front segment_table (lit≤ tt)) (apart_before front section_table (lit≤ tt)) (apart_before front piece (lit≤ tt))
          (apart_before segment_table section_table (lit≤ tt)) (apart_before segment_table piece (lit≤ tt)) (apart_behind section_table piece (lit≤ tt));
    }

held : (bytes : List ℕ) → IsHeld raw bytes
held bytes = record { symbols = refl; relocations = refl }

taken : IsTaken raw 208
taken =
    record {
      magic = refl;
      class = refl;
      order = refl;
      kind = refl;
      machine = refl;
      flags = refl;
      phentsize = λ _. refl;
      shentsize = λ _. refl;
      segments = all_two (λ segment. segment_passes 208 segment ≡ false) code empty refl refl;
      sections = all_two (λ section. section_misfits 208 (section_in raw.sections) 2 section ≡ false) null text refl refl;
    }

writable : IsWritable raw (piece ∷ [])
writable =
    record {
      counted = record { segments = refl; sections = refl };
      spanned = spanned;
      placed = placed;
      held = held (file_of raw (piece ∷ []));
      taken = subst (IsTaken raw) (sym ends_at) taken;
    }

abbrev pieces_with : List ℕ → List Piece
pieces_with bytes = record { offset = 116; bytes = bytes } ∷ []

pub three_words : (segments : List RawSegment) (sections : List RawSection) (symbols : List RawSymbol) (relocations : List RawRelocation) (bytes : List ℕ)
    → segments ≡ code ∷ empty ∷ [] → sections ≡ null ∷ text ∷ [] → symbols ≡ [] → relocations ≡ [] → bytes ≡ piece.bytes
    → IsWritable (raw_with header segments sections symbols relocations) (pieces_with bytes)
three_words segments sections symbols relocations bytes are_segments are_sections are_symbols are_relocations are_bytes =
    let same : raw ≡ raw_with header segments sections symbols relocations =
    sym (λ i. raw_with header (are_segments i) (are_sections i) (are_symbols i) (are_relocations i)) in
    subst (λ (r : RawElf). IsWritable r (pieces_with bytes)) same
    (subst (λ (b : List ℕ). IsWritable raw (pieces_with b)) (sym are_bytes) writable)
