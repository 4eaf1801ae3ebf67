-- Relocations of a file, and what they name.
use Rattle.std.proofs.Common.{◌≡◌, ℕ, zero, suc, ◌+◌, ◌/◌, ◌<◌, true, false, cond, eqb, List, [], ◌∷◌, ◌++◌, length, get_or, take, map, None, sym, ap, ◌∙◌, subst, inl, inr, arith}
use Rattle.std.specs.List.{Contains, filter, position, range_with_len}
use Rattle.std.proofs.lemmas.Bool.{cases_Bool}
use Rattle.std.proofs.lemmas.List.{take_more, map-append}
use Rattle.std.proofs.lemmas.List.Elements.{Contains-get_or, filter-append}
use Rattle.elf_raw.specs.declared.raw.RawElf.{RawElf}
use Rattle.elf_raw.specs.declared.relocation.RawRelocation.{RawRelocation}
use Rattle.elf_raw.specs.declared.section.RawSection.{RawSection}
use Rattle.elf_raw.specs.Header.{header_of}
use Rattle.elf_raw.specs.Raw.{raw_of}
use Rattle.elf_raw.specs.Relocations.{relocation_of, relocations_in, relocations_of_section, relocations_of}
use Rattle.elf_raw.specs.Sections.{section_of}
use Rattle.rv_code.specs.declared.extent.Extent.{Extent}
use Rattle.rv_code.specs.Code.{is_code}
use Rattle.elf_image.specs.CodeWords.{is_code_word, extents_in}
use Rattle.elf_image.specs.Named.{is_naming, names_nothing, bad_relocation, address_named}
use Rattle.elf_image.proofs.CodeAt.{extents_in-is_code}
use Rattle.elf_image.proofs.FirstPassing.{fails_each}
use Rattle.elf_image.proofs.Linked.{section_count}
use Rattle.elf_image.proofs.Within.{Contains-from_flat_map, Contains-from_range}

relocations_in-section : (bytes : List ℕ) (number : ℕ) (section : RawSection) (from count : ℕ) (relocation : RawRelocation)
    → Contains (map (relocation_of bytes number section) (range_with_len from count)) relocation → relocation.section ≡ number
relocations_in-section bytes number section from zero relocation (k, inside, same) = absurd (omega arith)
relocations_in-section bytes number section from (suc count) relocation (zero, inside, same) = sym (ap (λ (r : RawRelocation). r.section) same)
relocations_in-section bytes number section from (suc count) relocation (suc k, inside, same) =
    relocations_in-section bytes number section (from + 1) count relocation (k, omega arith, same)

of_section : (bytes : List ℕ) (number : ℕ) (relocation : RawRelocation) → Contains (relocations_of_section bytes (section_of bytes) number) relocation → relocation.section ≡ number
of_section bytes number relocation within = elim (cases_Bool (eqb (section_of bytes number).kind 4)) [
  | inl is ↦
      relocations_in-section bytes number (section_of bytes number) 0 ((section_of bytes number).size / 12) relocation
      (subst (λ b. Contains (cond b (relocations_in bytes number (section_of bytes number)) []) relocation) is within)
  | inr other ↦
      let (k, inside, same) = subst (λ b. Contains (cond b (relocations_in bytes number (section_of bytes number)) []) relocation) other within in
      absurd (omega arith)
]

-- each relocation is of a section that is there
pub own_section : (bytes : List ℕ) (relocation : RawRelocation) → Contains (relocations_of bytes) relocation → relocation.section < (header_of bytes).shnum
own_section bytes relocation within =
    let found = Contains-from_flat_map (relocations_of_section bytes (section_of bytes)) (range_with_len 0 (header_of bytes).shnum) relocation within in
    let number : ℕ = found.0 in
    let (above, below) = Contains-from_range 0 (header_of bytes).shnum found.0 found.1.0 in
    let same = of_section bytes found.0 relocation found.1.1 in
    omega arith

pub own_sections : (bytes : List ℕ) (raw : RawElf) (sections : List RawSection) (relocations : List RawRelocation) → raw ≡ raw_of bytes → sections ≡ raw.sections
    → relocations ≡ raw.relocations → (k : ℕ) (d : RawRelocation) → k < length relocations → (get_or relocations k d).section < length sections
own_sections bytes raw sections relocations read same all k d inside =
    let is : relocations ≡ relocations_of bytes = all ∙ ap (λ (r : RawElf). r.relocations) read in
    let count = section_count bytes sections (same ∙ ap (λ (r : RawElf). r.sections) read) in
    let within : Contains (relocations_of bytes) (get_or relocations k d) =
    subst (λ xs. Contains xs (get_or relocations k d)) is (Contains-get_or relocations k d inside)
    in
    omega (arith, count, own_section bytes (get_or relocations k d) within)

-- the code words that some relocations name
abbrev pub named_by : List ℕ → List RawRelocation → List ℕ
named_by bytes relocations = filter (is_code_word bytes) (map (address_named bytes) (filter is_naming relocations))

pub names_one : (bytes : List ℕ) (relocation : RawRelocation) → is_naming relocation ≡ true → is_code_word bytes (address_named bytes relocation) ≡ true
    → named_by bytes (relocation ∷ []) ≡ address_named bytes relocation ∷ []
names_one bytes relocation naming code =
    ap (λ b. filter (is_code_word bytes) (map (address_named bytes) (cond b (relocation ∷ []) []))) naming
    ∙ ap (λ b. cond b (address_named bytes relocation ∷ []) []) code

pub names_none : (bytes : List ℕ) (relocation : RawRelocation) → is_naming relocation ≡ true → is_code_word bytes (address_named bytes relocation) ≡ false
    → named_by bytes (relocation ∷ []) ≡ []
names_none bytes relocation naming code =
    ap (λ b. filter (is_code_word bytes) (map (address_named bytes) (cond b (relocation ∷ []) []))) naming
    ∙ ap (λ b. cond b (address_named bytes relocation ∷ []) []) code

pub named_more : (bytes : List ℕ) (relocations : List RawRelocation) (i : ℕ) (d : RawRelocation) → i < length relocations
    → named_by bytes (take (i + 1) relocations) ≡ named_by bytes (take i relocations) ++ named_by bytes (get_or relocations i d ∷ [])
named_more bytes relocations i d inside =
    ap (named_by bytes) (take_more relocations i d inside)
    ∙ ap (λ xs. filter (is_code_word bytes) (map (address_named bytes) xs)) (filter-append is_naming (take i relocations) (get_or relocations i d ∷ []))
    ∙ ap (filter (is_code_word bytes)) (map-append (address_named bytes) (filter is_naming (take i relocations)) (filter is_naming (get_or relocations i d ∷ [])))
    ∙ filter-append (is_code_word bytes) (map (address_named bytes) (filter is_naming (take i relocations))) (map (address_named bytes) (filter is_naming (get_or relocations i d ∷ [])))

-- whether a code word stands at the address that a relocation names
pub is_code_at : (bytes : List ℕ) (extents : List Extent) (address : ℕ) (relocation : RawRelocation) → extents ≡ extents_in bytes → address ≡ address_named bytes relocation
    → is_code extents address ≡ is_code_word bytes (address_named bytes relocation)
is_code_at bytes extents address relocation all is =
    ap (λ xs. is_code xs address) all ∙ extents_in-is_code bytes address ∙ ap (is_code_word bytes) is

-- one relocation more
pub named_goes_on : (bytes : List ℕ) (relocations all : List RawRelocation) (i : ℕ) (d : RawRelocation) (named more : List ℕ) → relocations ≡ all → i < length relocations
    → named ≡ named_by bytes (take i all) → more ≡ named ++ named_by bytes (get_or relocations i d ∷ []) → more ≡ named_by bytes (take (i + 1) all)
named_goes_on bytes relocations all i d named more same inside so_far added =
    added
    ∙ ap (λ xs. xs ++ named_by bytes (get_or relocations i d ∷ [])) (so_far ∙ ap (λ rs. named_by bytes (take i rs)) (sym same))
    ∙ sym (named_more bytes relocations i d inside)
    ∙ ap (λ rs. named_by bytes (take (i + 1) rs)) same

-- where no relocation is bad, none names nothing
pub names_something : (bytes : List ℕ) (relocations : List RawRelocation) → relocations ≡ relocations_of bytes → bad_relocation bytes ≡ None
    → (i : ℕ) (d : RawRelocation) → i < length relocations → names_nothing bytes (get_or relocations i d) ≡ false
names_something bytes relocations same none i d inside =
    fails_each (names_nothing bytes) relocations (ap (position (names_nothing bytes)) same ∙ none) i d inside
