-- The listing of an image's code: the line of each code word, in the order of addresses. This project's own.
use Rattle.std.specs.Prelude.{ℕ, ◌+◌, ◌*◌, List}
use Rattle.std.specs.List.{flat_map}
use Rattle.rv_code.specs.declared.image.Image.{Image}
use Rattle.rv_code.specs.declared.image.Range.{Range}
use Rattle.rv_text.specs.Listing.{listing_line}
use Rattle.ae_print.specs.Numbered.{numbered_lines}

-- The word with this number, counted from 0, of those that begin at an address. Of an address past 2^32 a line shows the
-- lowest 32 bits.
abbrev pub word_line : (start number word : ℕ) → List ℕ
word_line start number word = listing_line (start + 4 * number) word

abbrev pub word_lines : (start : ℕ) → (words : List ℕ) → List ℕ
word_lines start words = numbered_lines (word_line start) words

abbrev pub range_lines : Range → List ℕ
range_lines range = word_lines range.start range.words

abbrev pub code_text : Image → List ℕ
code_text image = flat_map range_lines image.code
