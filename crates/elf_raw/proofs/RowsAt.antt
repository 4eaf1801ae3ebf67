-- The rows of a table that stands in a file, read back.
use Rattle.std.proofs.Common.{◌≡◌, ℕ, ◌+◌, ◌*◌, ◌<◌, ◌≤◌, List, length, take, get_or, refl, sym, ap, ◌∙◌, arith}
use Rattle.std.proofs.lemmas.List.{ext_get_or, get_or-take}
use Rattle.std.proofs.lemmas.List.Concat.{get_or-flat_map}
use Rattle.std.proofs.Common.{length-take}
use Rattle.std.specs.List.{flat_map}
use Rattle.elf_raw.specs.Header.{header_of}
use Rattle.elf_raw.specs.Sections.{section_span, section_at}
use Rattle.elf_raw.specs.Segments.{segment_span, segment_at}
use Rattle.elf_raw.proofs.Laid.{rows_length, length_so_far}
use Rattle.elf_raw.proofs.Placed.{IsAt, number_at}

-- a row of a table
module _ {X : Type 0} (f : X → List ℕ) (size : ℕ) (each : (x : X) → length (f x) ≡ size) (file : List ℕ) (offset : ℕ) (rows : List X) where
  pub row_at : IsAt file offset (flat_map f rows) → (i : ℕ) (d : X) → i < length rows → size * i + size ≤ size * length rows → IsAt file (offset + size * i) (f (get_or rows i d))
  row_at is i d left within =
      record {
        byte = λ j here.
            let row : length (f (get_or rows i d)) ≡ size = each (get_or rows i d) in
            let all : length (flat_map f rows) ≡ size * length rows = rows_length f size each rows in
            let there : offset + size * i + j ≡ offset + (size * i + j) = omega arith in
            ap (λ n. get_or file n 0) there
            ∙ is.byte (size * i + j) (omega arith)
            ∙ ap (λ n. get_or (flat_map f rows) (n + j) 0) (sym (length_so_far f size each rows i left))
            ∙ get_or-flat_map f rows i j d 0 left here;
      }

-- the fields of rows
pub segment_there : (file : List ℕ) (at : ℕ) (bytes : List ℕ) → length bytes ≡ 32 → IsAt file at bytes → segment_at file at ≡ segment_at bytes 0
segment_there file at bytes long is =
    let kind = number_at file at bytes is 4 at 0 (omega arith) (omega arith) in
    let offset = number_at file at bytes is 4 (at + 4) 4 refl (omega arith) in
    let vaddr = number_at file at bytes is 4 (at + 8) 8 refl (omega arith) in
    let paddr = number_at file at bytes is 4 (at + 12) 12 refl (omega arith) in
    let filesz = number_at file at bytes is 4 (at + 16) 16 refl (omega arith) in
    let memsz = number_at file at bytes is 4 (at + 20) 20 refl (omega arith) in
    let flags = number_at file at bytes is 4 (at + 24) 24 refl (omega arith) in
    let align = number_at file at bytes is 4 (at + 28) 28 refl (omega arith) in
    λ i.
    record {
      kind = kind i;
      offset = offset i;
      vaddr = vaddr i;
      paddr = paddr i;
      filesz = filesz i;
      memsz = memsz i;
      flags = flags i;
      align = align i;
      span = segment_span (offset i) (filesz i);
    }

pub section_there : (file : List ℕ) (at : ℕ) (bytes : List ℕ) → length bytes ≡ 40 → IsAt file at bytes → section_at file at ≡ section_at bytes 0
section_there file at bytes long is =
    let name = number_at file at bytes is 4 at 0 (omega arith) (omega arith) in
    let kind = number_at file at bytes is 4 (at + 4) 4 refl (omega arith) in
    let flags = number_at file at bytes is 4 (at + 8) 8 refl (omega arith) in
    let addr = number_at file at bytes is 4 (at + 12) 12 refl (omega arith) in
    let offset = number_at file at bytes is 4 (at + 16) 16 refl (omega arith) in
    let size = number_at file at bytes is 4 (at + 20) 20 refl (omega arith) in
    let link = number_at file at bytes is 4 (at + 24) 24 refl (omega arith) in
    let info = number_at file at bytes is 4 (at + 28) 28 refl (omega arith) in
    let addralign = number_at file at bytes is 4 (at + 32) 32 refl (omega arith) in
    let entsize = number_at file at bytes is 4 (at + 36) 36 refl (omega arith) in
    λ i.
    record {
      name = name i;
      kind = kind i;
      flags = flags i;
      addr = addr i;
      offset = offset i;
      size = size i;
      link = link i;
      info = info i;
      addralign = addralign i;
      entsize = entsize i;
      span = section_span (kind i) (offset i) (size i);
    }

pub header_there : (file bytes : List ℕ) → length bytes ≡ 52 → 52 ≤ length file → IsAt file 0 bytes → header_of file ≡ header_of bytes
header_there file bytes long whole is =
    let front : take 16 file ≡ take 16 bytes =
    ext_get_or 0 (take 16 file) (take 16 bytes) (omega (arith, length-take 16 file, length-take 16 bytes))
    (λ k here.
    let below : k < 16 = omega (arith, length-take 16 file) in
    let zeroth : k ≡ 0 + k = omega arith in
    get_or-take 16 file k 0 below ∙ ap (λ n. get_or file n 0) zeroth ∙ is.byte k (omega arith) ∙ sym (get_or-take 16 bytes k 0 below)) in
    let kind = number_at file 0 bytes is 2 16 16 refl (omega arith) in
    let machine = number_at file 0 bytes is 2 18 18 refl (omega arith) in
    let version = number_at file 0 bytes is 4 20 20 refl (omega arith) in
    let entry = number_at file 0 bytes is 4 24 24 refl (omega arith) in
    let phoff = number_at file 0 bytes is 4 28 28 refl (omega arith) in
    let shoff = number_at file 0 bytes is 4 32 32 refl (omega arith) in
    let flags = number_at file 0 bytes is 4 36 36 refl (omega arith) in
    let ehsize = number_at file 0 bytes is 2 40 40 refl (omega arith) in
    let phentsize = number_at file 0 bytes is 2 42 42 refl (omega arith) in
    let phnum = number_at file 0 bytes is 2 44 44 refl (omega arith) in
    let shentsize = number_at file 0 bytes is 2 46 46 refl (omega arith) in
    let shnum = number_at file 0 bytes is 2 48 48 refl (omega arith) in
    let shstrndx = number_at file 0 bytes is 2 50 50 refl (omega arith) in
    λ i.
    record {
      ident = front i;
      kind = kind i;
      machine = machine i;
      version = version i;
      entry = entry i;
      phoff = phoff i;
      shoff = shoff i;
      flags = flags i;
      ehsize = ehsize i;
      phentsize = phentsize i;
      phnum = phnum i;
      shentsize = shentsize i;
      shnum = shnum i;
      shstrndx = shstrndx i;
    }
