-- Where the code words of a file stand: in the bytes of the load, and at the words of their extents.
use Rattle.std.proofs.Common.{◌≡◌, ℕ, ◌+◌, ◌-◌, ◌*◌, ◌%◌, ◌<◌, ◌≤◌, true, eqb, leb, List, [], ◌∷◌, length, get_or, sym, ap, subst, arith}
use Rattle.std.specs.List.{All, AllByRecursion, Contains, filter, flat_map, range_with_len}
use Rattle.std.specs.List.Sorted.{IsStrictlyIncreasing}
use Rattle.std.proofs.lemmas.Bool.{and_parts, leb-true, eqb-true}
use Rattle.std.proofs.lemmas.List.Elements.{All-from_recursion, All-contains_itself, All-weaker, Contains-append_left, Contains-append_right, recursion_from_All}
use Rattle.rv_code.specs.declared.extent.Extent.{Extent}
use Rattle.rv_code.specs.Code.{extent_end, is_code}
use Rattle.rv_code.specs.Places.{words_of, code_addresses, IsCodeExtent, AreCodeExtents}
use Rattle.rv_code.proofs.LawsOfLists.{rising-IsStrictlyIncreasing, Contains-from_rising}
use Rattle.rv_code.proofs.LawsOfPlaces.{is_word_of-Contains, is_code-Contains, Contains-is_code, code_addresses-extents_at, extents_at-AreCodeExtents}
use Rattle.rv_code.proofs.LawsOfTests.{same_answers}
use Rattle.rv_code.proofs.LawsOfElements.{Contains_any, any_Contains}
use Rattle.elf_raw.specs.declared.section.RawSection.{RawSection}
use Rattle.elf_raw.specs.declared.segment.RawSegment.{RawSegment}
use Rattle.elf_raw.specs.Sections.{sections_of}
use Rattle.elf_image.specs.CodeWords.{code_load, lies_in, is_code_section, words_in, code_words, is_code_word, extents_in}
use Rattle.elf_image.proofs.Joined.{stands}
use Rattle.elf_image.proofs.WordsIn.{word_below}
use Rattle.elf_image.proofs.Within.{Contains-from_filter, passes-from_filter, Contains-from_flat_map, Contains-from_range}

-- a word lies in what the load has in the file
pub record IsWordIn (load : RawSegment) (address : ℕ) : Type 0 where
  pub above : load.vaddr ≤ address
  pub below : address + 4 ≤ load.vaddr + load.filesz
  pub aligned : address % 4 ≡ 0

section_bounds : (load : RawSegment) (section : RawSection) → is_code_section load section ≡ true
    → (load.vaddr ≤ section.addr) × (section.addr + section.size ≤ load.vaddr + load.filesz)
section_bounds load section is =
    let lies = (and_parts _ (lies_in load section) is).1 in
    let both = and_parts (leb load.vaddr section.addr) (leb (section.addr + section.size) (load.vaddr + load.filesz)) lies in
    (leb-true load.vaddr section.addr both.0, leb-true (section.addr + section.size) (load.vaddr + load.filesz) both.1)

word_in_section : (section : RawSection) (address : ℕ) → Contains (words_in section) address
    → (section.addr ≤ address) × (address + 4 ≤ section.addr + section.size) × (address % 4 ≡ 0)
word_in_section section address within =
    let (above, below) = Contains-from_range section.addr section.size address (Contains-from_filter (word_below (section.addr + section.size)) (range_with_len section.addr section.size) address within) in
    let both = and_parts (eqb (address % 4) 0) (leb (address + 4) (section.addr + section.size))
    (passes-from_filter (word_below (section.addr + section.size)) (range_with_len section.addr section.size) address within)
    in
    (above, leb-true (address + 4) (section.addr + section.size) both.1, eqb-true (address % 4) 0 both.0)

pub code_word-in_load : (bytes : List ℕ) (address : ℕ) → Contains (code_words bytes) address → IsWordIn (code_load bytes) address
code_word-in_load bytes address within =
    let listed = Contains-from_rising (flat_map words_in (filter (is_code_section (code_load bytes)) (sections_of bytes))) address within in
    let found = Contains-from_flat_map words_in (filter (is_code_section (code_load bytes)) (sections_of bytes)) address listed in
    let section : RawSection = found.0 in
    let bounds = section_bounds (code_load bytes) section (passes-from_filter (is_code_section (code_load bytes)) (sections_of bytes) section found.1.0) in
    let (above, below, aligned) = word_in_section section address found.1.1 in
    record { above = omega (arith, bounds.0, above); below = omega (arith, bounds.1, below); aligned = aligned }

-- an extent lies there
pub record IsExtentIn (load : RawSegment) (extent : Extent) : Type 0 where
  pub run : IsCodeExtent extent
  pub above : load.vaddr ≤ extent.start
  pub below : extent_end extent ≤ load.vaddr + load.filesz

extent_in_load : (load : RawSegment) (extent : Extent) → IsCodeExtent extent → ((address : ℕ) → Contains (words_of extent) address → IsWordIn load address) → IsExtentIn load extent
extent_in_load load extent run words =
    let first_in = words extent.start (is_word_of-Contains extent extent.start run.aligned (stands extent extent.start (omega arith) (omega (arith, run.some)) run.aligned)) in
    let last_in = words (extent.start + 4 * (extent.count - 1))
    (is_word_of-Contains extent (extent.start + 4 * (extent.count - 1)) run.aligned
    (stands extent (extent.start + 4 * (extent.count - 1)) (omega arith) (omega (arith, run.some)) (omega (arith, run.aligned))))
    in
    record { run = run; above = first_in.above; below = omega (arith, last_in.below, run.some) }

extents_in_load : (load : RawSegment) (extents : List Extent) → AllByRecursion IsCodeExtent extents → ((address : ℕ) → Contains (code_addresses extents) address → IsWordIn load address)
    → AllByRecursion (IsExtentIn load) extents
extents_in_load load [] runs words = tt
extents_in_load load (extent ∷ extents) runs words = (
  extent_in_load load extent runs.0 (λ address within. words address (Contains-append_left (words_of extent) (code_addresses extents) address within)),
  extents_in_load load extents runs.1 (λ address within. words address (Contains-append_right (words_of extent) (code_addresses extents) address within)),
)

pub code_words-IsStrictlyIncreasing : (bytes : List ℕ) → IsStrictlyIncreasing (code_words bytes)
code_words-IsStrictlyIncreasing bytes = rising-IsStrictlyIncreasing (flat_map words_in (filter (is_code_section (code_load bytes)) (sections_of bytes)))

pub extents_in-AreCodeExtents : (bytes : List ℕ) → AreCodeExtents (extents_in bytes)
extents_in-AreCodeExtents bytes =
    let aligned : All (λ address. address % 4 ≡ 0) (code_words bytes) =
    All-weaker (Contains (code_words bytes)) (λ address. address % 4 ≡ 0) (λ address within. (code_word-in_load bytes address within).aligned) (code_words bytes)
    (All-contains_itself (code_words bytes))
    in
    extents_at-AreCodeExtents (code_words bytes) (code_words-IsStrictlyIncreasing bytes) (recursion_from_All (λ address. address % 4 ≡ 0) (code_words bytes) aligned)

-- the extents have exactly the code words
pub extents_in-words : (bytes : List ℕ) → code_addresses (extents_in bytes) ≡ code_words bytes
extents_in-words bytes = code_addresses-extents_at (code_words bytes)

pub extents_in-in_load : (bytes : List ℕ) → AllByRecursion (IsExtentIn (code_load bytes)) (extents_in bytes)
extents_in-in_load bytes =
    extents_in_load (code_load bytes) (extents_in bytes) (extents_in-AreCodeExtents bytes).each
    (λ address within. code_word-in_load bytes address (subst (λ words. Contains words address) (extents_in-words bytes) within))

-- a code word stands at an address exactly where the extents have one
pub extents_in-is_code : (bytes : List ℕ) (address : ℕ) → is_code (extents_in bytes) address ≡ is_code_word bytes address
extents_in-is_code bytes address =
    let runs = extents_in-AreCodeExtents bytes in
    same_answers (is_code (extents_in bytes) address) (is_code_word bytes address)
    (λ is.
    Contains_any (code_words bytes) address
    (subst (λ words. Contains words address) (extents_in-words bytes) (is_code-Contains (extents_in bytes) address runs is)))
    (λ is.
    Contains-is_code (extents_in bytes) address runs
    (subst (λ words. Contains words address) (sym (extents_in-words bytes)) (any_Contains (code_words bytes) address is)))

-- there are as many
pub extents_in-count : (bytes : List ℕ) → length (code_addresses (extents_in bytes)) ≡ length (code_words bytes)
extents_in-count bytes = ap length (extents_in-words bytes)

-- each of the extents, as a loop comes to it
pub extents_within : (bytes : List ℕ) (load : RawSegment) (extents : List Extent) → load ≡ code_load bytes → extents ≡ extents_in bytes
    → (index : ℕ) (d : Extent) → index < length extents → IsExtentIn load (get_or extents index d)
extents_within bytes load extents first all index d inside =
    let each : All (IsExtentIn (code_load bytes)) (extents_in bytes) = All-from_recursion (IsExtentIn (code_load bytes)) (extents_in bytes) (extents_in-in_load bytes) in
    let here : All (IsExtentIn (code_load bytes)) extents = subst (λ xs. All (IsExtentIn (code_load bytes)) xs) (sym all) each in
    subst (λ l. IsExtentIn l (get_or extents index d)) (sym first) (here index d inside)
