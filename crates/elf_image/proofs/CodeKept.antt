-- What an image that has a file's code words has of it: ranges that lie in the load of code, and names and named addresses
-- that are code words.
use Rattle.std.proofs.Common.{◌≡◌, ℕ, zero, suc, ◌+◌, ◌-◌, ◌*◌, ◌/◌, ◌%◌, ◌<◌, ◌≤◌, true, eqb, List, [], ◌∷◌, ◌++◌, length, get_or, take, drop, map, None, sym, refl, ap, ◌∙◌, subst, arith}
use Rattle.std.specs.Bool.{IsTrue}
use Rattle.std.specs.List.{All, AllByRecursion, Contains, filter, flat_map, range_with_len}
use Rattle.std.specs.List.Sorted.{IsStrictlyIncreasing}
use Rattle.std.proofs.lemmas.Bool.{and_parts}
use Rattle.std.proofs.lemmas.List.{drop-drop, drop-take, take-take, length-drop, length-map}
use Rattle.std.proofs.lemmas.List.Elements.{All-contains_itself, All-get_or, All-map, All-weaker, filter_passes, recursion_from_All}
use Rattle.std.proofs.lemmas.Simd.{map-map}
use Rattle.rv_code.proofs.LawsOfLists.{rising-IsStrictlyIncreasing, Contains-from_rising}
use Rattle.elf_raw.specs.Numbers.{word_at}
use Rattle.elf_raw.specs.Refusal.{IsSound}
use Rattle.elf_raw.specs.Relocations.{relocations_of}
use Rattle.elf_raw.specs.Symbols.{symbols_of}
use Rattle.elf_raw.proofs.LawsOfPieces.{passes-within, within-passes}
use Rattle.rv_code.specs.declared.extent.Extent.{Extent}
use Rattle.rv_code.specs.declared.image.Name.{Name}
use Rattle.rv_code.specs.declared.image.Region.{Region}
use Rattle.rv_code.specs.Code.{extents_of, is_code}
use Rattle.rv_code.specs.Image.{HoldsWords, IsRange, RangesRise, word_count}
use Rattle.rv_code.specs.Numbers.{IsByte, IsWord, bytes_of}
use Rattle.rv_code.specs.Places.{words_of, code_addresses, ExtentsRise}
use Rattle.rv_code.proofs.LawsOfPlaces.{length-words_of, length-code_addresses_of_ranges, RangesRise-from_extents}
use Rattle.elf_image.specs.CodeWords.{code_load, code_words, is_code_word, value_at, range_of, extents_in, code_of, is_function, name_of, names_of}
use Rattle.elf_image.specs.Inner.Loaded.{HasCodeLoad}
use Rattle.elf_image.specs.Loads.{piece_of, region_of, bad_program_header}
use Rattle.elf_image.specs.Named.{is_naming, address_named, named_of}
use Rattle.elf_image.proofs.CodeAt.{IsExtentIn, extents_in-AreCodeExtents, extents_in-in_load, extents_in-is_code, extents_in-count}
use Rattle.elf_image.proofs.CodeLoad.{code_load_kept}
use Rattle.elf_image.proofs.GoodLoads.{good}
use Rattle.elf_image.proofs.NoteKept.{word_below}
use Rattle.elf_image.proofs.RegionsKept.{piece_length}
use Rattle.elf_image.proofs.Within.{passes-from_filter}

-- the bytes of a word are those that it was read from
low_byte : (byte rest : ℕ) → byte < 256 → (byte + 256 * rest) % 256 ≡ byte
low_byte byte rest is = omega arith

rest_of : (byte rest : ℕ) → byte < 256 → (byte + 256 * rest) / 256 ≡ rest
rest_of byte rest is = omega arith

four_bytes : (first second third fourth : ℕ) → first < 256 → second < 256 → third < 256 → fourth < 256
    → bytes_of 4 (first + 256 * (second + 256 * (third + 256 * fourth))) ≡ first ∷ second ∷ third ∷ fourth ∷ []
four_bytes first second third fourth one two three four =
    let rest = rest_of first (second + 256 * (third + 256 * fourth)) one in
    let last = rest_of second (third + 256 * fourth) two in
    let end = rest_of third fourth three in
    let low : fourth % 256 ≡ fourth = omega arith in
    (λ i. low_byte first (second + 256 * (third + 256 * fourth)) one i ∷ bytes_of 3 (rest i))
    ∙ (λ i. first ∷ low_byte second (third + 256 * fourth) two i ∷ bytes_of 2 (last i))
    ∙ (λ i. first ∷ second ∷ low_byte third fourth three i ∷ bytes_of 1 (end i))
    ∙ (λ i. first ∷ second ∷ third ∷ low i ∷ [])

next_four : (bytes : List ℕ) (place : ℕ) → place + 4 ≤ length bytes
    → get_or bytes place 0 ∷ get_or bytes (suc place) 0 ∷ get_or bytes (suc (suc place)) 0 ∷ get_or bytes (suc (suc (suc place))) 0 ∷ [] ≡ take 4 (drop place bytes)
next_four [] place within = absurd (omega arith)
next_four (a ∷ bytes) (suc place) within = next_four bytes place (omega arith)
next_four (a ∷ []) zero within = absurd (omega arith)
next_four (a ∷ b ∷ []) zero within = absurd (omega arith)
next_four (a ∷ b ∷ c ∷ []) zero within = absurd (omega arith)
next_four (a ∷ b ∷ c ∷ d ∷ bytes) zero within = refl

word_bytes : (bytes : List ℕ) (place : ℕ) → All IsByte bytes → place + 4 ≤ length bytes → bytes_of 4 (word_at bytes place) ≡ take 4 (drop place bytes)
word_bytes bytes place all within =
    let last : get_or bytes (suc (suc (suc place))) 0 + 0 ≡ get_or bytes (suc (suc (suc place))) 0 = omega arith in
    ap (λ n. bytes_of 4 (get_or bytes place 0 + 256 * (get_or bytes (suc place) 0 + 256 * (get_or bytes (suc (suc place)) 0 + 256 * n)))) last
    ∙ four_bytes (get_or bytes place 0) (get_or bytes (suc place) 0) (get_or bytes (suc (suc place)) 0) (get_or bytes (suc (suc (suc place))) 0)
    (All-get_or IsByte bytes place 0 (omega arith) all) (All-get_or IsByte bytes (suc place) 0 (omega arith) all)
    (All-get_or IsByte bytes (suc (suc place)) 0 (omega arith) all) (All-get_or IsByte bytes (suc (suc (suc place))) 0 (omega arith) all)
    ∙ next_four bytes place within

take_four : (bytes : List ℕ) (count : ℕ) → 4 ≤ length bytes → take 4 bytes ++ take count (drop 4 bytes) ≡ take (4 + count) bytes
take_four [] count long = absurd (omega arith)
take_four (a ∷ []) count long = absurd (omega arith)
take_four (a ∷ b ∷ []) count long = absurd (omega arith)
take_four (a ∷ b ∷ c ∷ []) count long = absurd (omega arith)
take_four (a ∷ b ∷ c ∷ d ∷ bytes) count long =
    let more : suc (suc (suc (suc count))) ≡ 4 + count = omega arith in
    ap (λ n. take n (a ∷ b ∷ c ∷ d ∷ bytes)) more

-- so many words from a place on are the bytes there
words_bytes : (bytes : List ℕ) (base first count : ℕ) → All IsByte bytes → base + 4 * (first + count) ≤ length bytes
    → flat_map (bytes_of 4) (map (λ number. word_at bytes (base + 4 * number)) (range_with_len first count)) ≡ take (4 * count) (drop (base + 4 * first) bytes)
words_bytes bytes base first zero all within = refl
words_bytes bytes base first (suc count) all within =
    let place : ℕ = base + 4 * first in
    let rest = words_bytes bytes base (first + 1) count all (omega arith) in
    let next : base + 4 * (first + 1) ≡ base + 4 * first + 4 = omega arith in
    let more : 4 + 4 * count ≡ 4 * suc count = omega arith in
    let long : 4 ≤ length (drop (base + 4 * first) bytes) = omega (arith, length-drop (base + 4 * first) bytes) in
    ap (λ xs. xs ++ flat_map (bytes_of 4) (map (λ number. word_at bytes (base + 4 * number)) (range_with_len (first + 1) count)))
    (word_bytes bytes (base + 4 * first) all (omega arith))
    ∙ ap (λ xs. take 4 (drop (base + 4 * first) bytes) ++ xs)
    (rest ∙ ap (λ n. take (4 * count) (drop n bytes)) next ∙ ap (take (4 * count)) (sym (drop-drop 4 (base + 4 * first) bytes)))
    ∙ take_four (drop (base + 4 * first) bytes) (4 * count) long
    ∙ ap (λ n. take n (drop (base + 4 * first) bytes)) more

-- the bytes that a piece has there are those of the file
piece_there : (bytes : List ℕ) (offset size base count : ℕ) → base + count ≤ size → take count (drop (offset + base) bytes) ≡ take count (drop base (take size (drop offset bytes)))
piece_there bytes offset size base count within =
    let rest : base + (size - base) ≡ size = omega arith in
    sym (take-take count (size - base) (drop (offset + base) bytes) (omega arith))
    ∙ ap (λ xs. take count (take (size - base) xs)) (sym (drop-drop base offset bytes))
    ∙ ap (take count) (sym (drop-take base (size - base) (drop offset bytes)))
    ∙ ap (λ n. take count (drop base (take n (drop offset bytes)))) rest

-- the words of an extent, as they are loaded
range_words : (bytes : List ℕ) (extent : Extent) → (code_load bytes).vaddr ≤ extent.start
    → map (value_at bytes) (words_of extent)
    ≡ map (λ number. word_at bytes ((code_load bytes).offset + (extent.start - (code_load bytes).vaddr) + 4 * number)) (range_with_len 0 extent.count)
range_words bytes extent above =
    let same : (number : ℕ) → (code_load bytes).offset + (extent.start + 4 * number - (code_load bytes).vaddr) ≡ (code_load bytes).offset + (extent.start - (code_load bytes).vaddr) + 4 * number =
    λ number. omega arith
    in
    map-map (value_at bytes) (λ number. extent.start + 4 * number) (range_with_len 0 extent.count)
    ∙ (λ i. map (λ number. word_at bytes (same number i)) (range_with_len 0 extent.count))

range_count : (bytes : List ℕ) (extent : Extent) → length (range_of bytes extent).words ≡ extent.count
range_count bytes extent = length-map (words_of extent) (value_at bytes) ∙ length-words_of extent

-- an extent in the load's bytes lies where the file has these
words_in_file : (bytes : List ℕ) (extent : Extent) → HasCodeLoad bytes → IsExtentIn (code_load bytes) extent
    → (code_load bytes).offset + (extent.start - (code_load bytes).vaddr) + 4 * (0 + extent.count) ≤ length bytes
words_in_file bytes extent load is =
    let lies = passes-within (length bytes) (code_load bytes).offset (code_load bytes).filesz load.held (omega (arith, is.run.some, is.above, is.below)) in
    omega (arith, lies, is.above, is.below)

range-HoldsWords : (bytes : List ℕ) (extent : Extent) → All IsByte bytes → HasCodeLoad bytes → IsExtentIn (code_load bytes) extent
    → HoldsWords (region_of bytes (code_load bytes)) (range_of bytes extent)
range-HoldsWords bytes extent all load is =
    let count = range_count bytes extent in
    let place : (code_load bytes).offset + (extent.start - (code_load bytes).vaddr) + 4 * 0 ≡ (code_load bytes).offset + (extent.start - (code_load bytes).vaddr) = omega arith in
    record {
      above = is.above;
      below = omega (arith, is.below, count, piece_length bytes (code_load bytes) load.held);
      same = ap (λ n. take (4 * n) (drop (extent.start - (code_load bytes).vaddr) (piece_of bytes (code_load bytes)))) count
          ∙ sym (piece_there bytes (code_load bytes).offset (code_load bytes).filesz (extent.start - (code_load bytes).vaddr) (4 * extent.count) (omega (arith, is.above, is.below)))
          ∙ ap (λ n. take (4 * extent.count) (drop n bytes)) (sym place)
          ∙ sym (words_bytes bytes ((code_load bytes).offset + (extent.start - (code_load bytes).vaddr)) 0 extent.count all (words_in_file bytes extent load is))
          ∙ ap (flat_map (bytes_of 4)) (sym (range_words bytes extent is.above));
    }

range-IsRange : (bytes : List ℕ) (regions : List Region) (extent : Extent) → All IsByte bytes → HasCodeLoad bytes → Contains regions (region_of bytes (code_load bytes))
    → IsExtentIn (code_load bytes) extent → IsRange regions (range_of bytes extent)
range-IsRange bytes regions extent all load (k, inside, there) is =
    record {
      some = omega (arith, range_count bytes extent, is.run.some);
      aligned = is.run.aligned;
      words = recursion_from_All IsWord (range_of bytes extent).words
          (All-map IsWord (value_at bytes) (words_of extent)
          (λ i d within. word_below bytes ((code_load bytes).offset + (get_or (words_of extent) i d - (code_load bytes).vaddr)) all));
      held = (k, region_of bytes (code_load bytes), inside, there, range-HoldsWords bytes extent all load is);
    }

ranges-AreRanges : (bytes : List ℕ) (regions : List Region) (extents : List Extent) → All IsByte bytes → HasCodeLoad bytes → Contains regions (region_of bytes (code_load bytes))
    → AllByRecursion (IsExtentIn (code_load bytes)) extents → AllByRecursion (IsRange regions) (map (range_of bytes) extents)
ranges-AreRanges bytes regions [] all load held each = tt
ranges-AreRanges bytes regions (extent ∷ extents) all load held each =
    (range-IsRange bytes regions extent all load held each.0, ranges-AreRanges bytes regions extents all load held each.1)

-- each range of a file's code words lies in the load of code
pub code_of-AreRanges : (bytes : List ℕ) (regions : List Region) → All IsByte bytes → HasCodeLoad bytes → Contains regions (region_of bytes (code_load bytes))
    → AllByRecursion (IsRange regions) (code_of bytes)
code_of-AreRanges bytes regions all load held = ranges-AreRanges bytes regions (extents_in bytes) all load held (extents_in-in_load bytes)

extents_of-ranges : (bytes : List ℕ) (extents : List Extent) → extents_of (map (range_of bytes) extents) ≡ extents
extents_of-ranges bytes [] = refl
extents_of-ranges bytes (extent ∷ extents) =
    (λ i. record { start = extent.start; count = range_count bytes extent i } ∷ extents_of-ranges bytes extents i)

-- and the ranges stand where the extents do
pub code_of-extents : (bytes : List ℕ) → extents_of (code_of bytes) ≡ extents_in bytes
code_of-extents bytes = extents_of-ranges bytes (extents_in bytes)

pub code_of-RangesRise : (bytes : List ℕ) → RangesRise (code_of bytes)
code_of-RangesRise bytes =
    RangesRise-from_extents (code_of bytes) (subst (λ extents. ExtentsRise extents) (sym (code_of-extents bytes)) (extents_in-AreCodeExtents bytes).rise)

pub code_of-is_code : (bytes : List ℕ) (address : ℕ) → is_code (extents_of (code_of bytes)) address ≡ is_code_word bytes address
code_of-is_code bytes address = ap (λ extents. is_code extents address) (code_of-extents bytes) ∙ extents_in-is_code bytes address

pub code_of-word_count : (bytes : List ℕ) → word_count (code_of bytes) ≡ length (code_words bytes)
code_of-word_count bytes =
    sym (length-code_addresses_of_ranges (code_of bytes))
    ∙ ap (λ extents. length (code_addresses extents)) (code_of-extents bytes)
    ∙ extents_in-count bytes

-- each name is that of a code word
pub names_of-are_code : (bytes : List ℕ) → AllByRecursion (λ (name : Name). IsTrue (is_code (extents_of (code_of bytes)) name.address)) (names_of bytes)
names_of-are_code bytes =
    recursion_from_All (λ (name : Name). IsTrue (is_code (extents_of (code_of bytes)) name.address)) (names_of bytes)
    (All-map (λ (name : Name). IsTrue (is_code (extents_of (code_of bytes)) name.address)) name_of (filter (is_function bytes) (symbols_of bytes))
    (All-weaker (λ symbol. is_function bytes symbol ≡ true) (λ symbol. IsTrue (is_code (extents_of (code_of bytes)) symbol.value))
    (λ symbol is. code_of-is_code bytes symbol.value ∙ (and_parts (eqb (symbol.info % 16) 2) (is_code_word bytes symbol.value) is).1)
    (filter (is_function bytes) (symbols_of bytes)) (filter_passes (is_function bytes) (symbols_of bytes))))

-- each named address is a code word, and they rise
pub named_of-are_code : (bytes : List ℕ) → AllByRecursion (λ address. IsTrue (is_code (extents_of (code_of bytes)) address)) (named_of bytes)
named_of-are_code bytes =
    let named : List ℕ = map (address_named bytes) (filter is_naming (relocations_of bytes)) in
    recursion_from_All (λ address. IsTrue (is_code (extents_of (code_of bytes)) address)) (named_of bytes)
    (All-weaker (Contains (named_of bytes)) (λ address. IsTrue (is_code (extents_of (code_of bytes)) address))
    (λ address within.
    code_of-is_code bytes address
    ∙ passes-from_filter (is_code_word bytes) (map (address_named bytes) (filter is_naming (relocations_of bytes))) address
    (Contains-from_rising (filter (is_code_word bytes) (map (address_named bytes) (filter is_naming (relocations_of bytes)))) address within))
    (named_of bytes) (All-contains_itself (named_of bytes)))

pub named_of-IsStrictlyIncreasing : (bytes : List ℕ) → IsStrictlyIncreasing (named_of bytes)
named_of-IsStrictlyIncreasing bytes =
    rising-IsStrictlyIncreasing (filter (is_code_word bytes) (map (address_named bytes) (filter is_naming (relocations_of bytes))))

-- a file of whose program headers none offends has its code in one
pub has_code_load : (bytes : List ℕ) → IsSound bytes → bad_program_header bytes ≡ None → HasCodeLoad bytes
has_code_load bytes sound none =
    let kept = code_load_kept bytes sound none in
    record {
      there = (good bytes none).code;
      filled = kept.whole;
      ends = kept.below;
      held = within-passes (length bytes) (code_load bytes).offset (code_load bytes).filesz kept.within;
    }
