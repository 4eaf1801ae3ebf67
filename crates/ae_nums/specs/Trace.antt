-- The text of a trace: a line for each item.
use Rattle.std.specs.Prelude.{ℕ, List, [], ◌∷◌, ◌++◌, codes}
use Rattle.std.specs.List.{flat_map}
use Rattle.ae_nums.specs.declared.item.Item.{Item}
use Rattle.ae_nums.specs.declared.item.Item.TheVariants.{Fetch, Read, Write}
use Rattle.ae_nums.specs.Hex.{hex8_text}
use Rattle.ae_nums.specs.Decimal.{decimal_text}

-- the byte that ends a line
abbrev pub newline : List ℕ
newline = 10 ∷ []

-- a mark, the address in hexadecimal, a blank and the size in decimal
abbrev pub access_text : List ℕ → ℕ → ℕ → List ℕ
access_text mark address size = mark ++ hex8_text address ++ codes " " ++ decimal_text size

-- an item, as `I 00010074`, `R 00011000 4` or `W 7fffffbc 1`
abbrev pub item_text : Item → List ℕ
item_text (Fetch address) = codes "I " ++ hex8_text address
item_text (Read address size) = access_text (codes "R ") address size
item_text (Write address size) = access_text (codes "W ") address size

-- the line of an item, with the byte that ends it
abbrev pub line_of : Item → List ℕ
line_of item = item_text item ++ newline

-- the lines of these items, in order
abbrev pub trace_text : List Item → List ℕ
trace_text items = flat_map line_of items
