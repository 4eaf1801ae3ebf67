-- The bytes of a header, and the header in them.
use Rattle.std.proofs.Common.{◌≡◌, ℕ, ◌+◌, ◌^◌, ◌<◌, ◌≤◌, List, [], ◌∷◌, ◌++◌, length, take, refl, ap, ◌∙◌, append_assoc, arith, length-append}
use Rattle.std.proofs.lemmas.List.{take_at}
use Rattle.byteorder.specs.Endian.{little_from, little_bytes}
use Rattle.byteorder.specs.Numbers.{little_number-reads_back}
use Rattle.elf_raw.specs.declared.header.RawHeader.{RawHeader}
use Rattle.elf_raw.specs.Header.{header_of}
use Rattle.elf_raw.specs.Written.{half_bytes, word_bytes, header_bytes, laid}
use Rattle.elf_raw.proofs.Laid.{laid_more}
use Rattle.elf_raw.proofs.Placed.{at_behind, number_at}

-- its numbers in groups
abbrev first_halves : RawHeader → List ℕ
first_halves header = half_bytes (header.kind ∷ header.machine ∷ [])

abbrev middle_words : RawHeader → List ℕ
middle_words header = word_bytes (header.version ∷ header.entry ∷ header.phoff ∷ header.shoff ∷ header.flags ∷ [])

abbrev last_halves : RawHeader → List ℕ
last_halves header =
    half_bytes (header.ehsize ∷ header.phentsize ∷ header.phnum ∷ header.shentsize ∷ header.shnum ∷ header.shstrndx ∷ [])

four_laid : (file one two three four a b c d : List ℕ) → length a ≡ 16 → length b ≡ 4 → length c ≡ 20 → 52 ≤ length file → one ≡ laid file 0 a → two ≡ laid one 16 b → three ≡ laid two 20 c
    → four ≡ laid three 40 d → four ≡ laid file 0 (a ++ b ++ c ++ d)
four_laid file one two three four a b c d la lb lc within is_one is_two is_three is_four =
    let lab : length (a ++ b) ≡ 20 = omega (arith, length-append a b) in
    let labc : length (a ++ b ++ c) ≡ 40 = omega (arith, length-append (a ++ b) c) in
    let ab = laid_more file one two 0 16 a b (omega arith) (omega arith) is_one is_two in
    let abc = laid_more file two three 0 20 (a ++ b) c (omega arith) (omega arith) ab is_three in
    laid_more file three four 0 40 (a ++ b ++ c) d (omega arith) (omega arith) abc is_four

pub header_laid : (header : RawHeader) (file one two three four : List ℕ) → length header.ident ≡ 16 → 52 ≤ length file → one ≡ laid file 0 header.ident → two ≡ laid one 16 (first_halves header)
    → three ≡ laid two 20 (middle_words header) → four ≡ laid three 40 (last_halves header) → four ≡ laid file 0 (header_bytes header)
unfolding header_bytes
header_laid header file one two three four long within is_one is_two is_three is_four =
    four_laid file one two three four header.ident (first_halves header) (middle_words header) (last_halves header) long refl refl within is_one is_two is_three is_four

pub header_bytes_length : (header : RawHeader) → length header.ident ≡ 16 → length (header_bytes header) ≡ 52
unfolding header_bytes
header_bytes_length header long =
    omega (
      arith,
      length-append header.ident (first_halves header),
      length-append (header.ident ++ first_halves header) (middle_words header),
      length-append (header.ident ++ first_halves header ++ middle_words header) (last_halves header),
    )

-- the fields' ranges
pub record IsInRange (header : RawHeader) : Type 0 where
  pub ident : length header.ident ≡ 16
  pub kind : header.kind < 2 ^ 16
  pub machine : header.machine < 2 ^ 16
  pub version : header.version < 2 ^ 32
  pub entry : header.entry < 2 ^ 32
  pub phoff : header.phoff < 2 ^ 32
  pub shoff : header.shoff < 2 ^ 32
  pub flags : header.flags < 2 ^ 32
  pub ehsize : header.ehsize < 2 ^ 16
  pub phentsize : header.phentsize < 2 ^ 16
  pub phnum : header.phnum < 2 ^ 16
  pub shentsize : header.shentsize < 2 ^ 16
  pub shnum : header.shnum < 2 ^ 16
  pub shstrndx : header.shstrndx < 2 ^ 16

abbrev numbers : RawHeader → List ℕ
numbers header = first_halves header ++ (middle_words header ++ last_halves header)

in_two : (header : RawHeader) → header_bytes header ≡ header.ident ++ numbers header
unfolding header_bytes
in_two header =
    append_assoc (header.ident ++ first_halves header) (middle_words header) (last_halves header)
    ∙ append_assoc header.ident (first_halves header) (middle_words header ++ last_halves header)

pub half_back : (x : ℕ) → x < 2 ^ 16 → little_from 0 2 (little_bytes 2 x) ≡ x
half_back x fits = little_number-reads_back 2 x [] fits

pub word_back : (x : ℕ) → x < 2 ^ 32 → little_from 0 4 (little_bytes 4 x) ≡ x
word_back x fits = little_number-reads_back 4 x [] fits

module _ (header : RawHeader) (fits : IsInRange header) where
  at_number : (size at k : ℕ) → at ≡ 16 + k → k + size ≤ 36 → little_from at size (header.ident ++ numbers header) ≡ little_from k size (numbers header)
  at_number = number_at (header.ident ++ numbers header) 16 (numbers header) (at_behind header.ident (numbers header) 16 fits.ident)

  front : take 16 (header.ident ++ numbers header) ≡ header.ident
  front = take_at header.ident (numbers header) 16 fits.ident

  back_in_two : header_of (header.ident ++ numbers header) ≡ header
  back_in_two =
      let kind = at_number 2 16 0 (omega arith) (omega arith) ∙ half_back header.kind fits.kind in
      let machine = at_number 2 18 2 (omega arith) (omega arith) ∙ half_back header.machine fits.machine in
      let version = at_number 4 20 4 (omega arith) (omega arith) ∙ word_back header.version fits.version in
      let entry = at_number 4 24 8 (omega arith) (omega arith) ∙ word_back header.entry fits.entry in
      let phoff = at_number 4 28 12 (omega arith) (omega arith) ∙ word_back header.phoff fits.phoff in
      let shoff = at_number 4 32 16 (omega arith) (omega arith) ∙ word_back header.shoff fits.shoff in
      let flags = at_number 4 36 20 (omega arith) (omega arith) ∙ word_back header.flags fits.flags in
      let ehsize = at_number 2 40 24 (omega arith) (omega arith) ∙ half_back header.ehsize fits.ehsize in
      let phentsize = at_number 2 42 26 (omega arith) (omega arith) ∙ half_back header.phentsize fits.phentsize in
      let phnum = at_number 2 44 28 (omega arith) (omega arith) ∙ half_back header.phnum fits.phnum in
      let shentsize = at_number 2 46 30 (omega arith) (omega arith) ∙ half_back header.shentsize fits.shentsize in
      let shnum = at_number 2 48 32 (omega arith) (omega arith) ∙ half_back header.shnum fits.shnum in
      let shstrndx = at_number 2 50 34 (omega arith) (omega arith) ∙ half_back header.shstrndx fits.shstrndx in
      λ i.
      record {
        ident = front i;
        kind = kind i;
        machine = machine i;
        version = version i;
        entry = entry i;
        phoff = phoff i;
        shoff = shoff i;
        flags = flags i;
        ehsize = ehsize i;
        phentsize = phentsize i;
        phnum = phnum i;
        shentsize = shentsize i;
        shnum = shnum i;
        shstrndx = shstrndx i;
      }

  pub header_back : header_of (header_bytes header) ≡ header
  header_back = ap header_of (in_two header) ∙ back_in_two
