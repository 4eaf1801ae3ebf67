use Rattle.std.proofs.Common.{◌≡◌, ◌≢◌, ◌≤◌, ℕ, List, length, map, refl, Result, Vec, Global, sym, subst, arith}
use Rattle.std.specs.List.{All, AllByRecursion, AllPairs, filter}
use Rattle.std.specs.Prelude.{is_some, IfOk}
use Rattle.std.proofs.lemmas.List.Elements.{All-from_get_or}
use Rattle.std.specs.declared.alloc.AllocError.{AllocError}
use Rattle.std.proofs.lemmas.Result.{IfOk-weaker}
use Rattle.elf_raw.specs.declared.segment.RawSegment.{RawSegment}
use Rattle.elf_raw.specs.Segments.{segments_of}
use Rattle.rv_code.specs.declared.image.Region.{Region}
use Rattle.rv_code.specs.Image.{IsRegion, RegionsRise}
use Rattle.rv_code.specs.Limits.{regions_limit}
use Rattle.rv_code.specs.Numbers.{IsByte}
use Rattle.elf_image.specs.Loads.{is_load, has_note, region_of, regions_of, note_in}
use Rattle.elf_image.proofs.GoodLoads.{good}
use Rattle.elf_image.proofs.HeaderRows.{headers_read}
use Rattle.elf_image.proofs.InPlace.{apart_starts}
use Rattle.elf_image.proofs.RegionsKept.{IsWholeLoad, loads_in, whole_loads_in, loads_read, regions_read, regions_each, regions_rise, regions_few}
use Rattle.elf_image.proofs.regions.regions_of.Goals as goal

pub loads_in_order-requires : goal.loads_in_order-requires
loads_in_order-requires c =
    let bytes : List ℕ = c.args.bytes.now in
    let read = headers_read c.args.raw.now bytes c.as_slice.result.now c.requires.read c.as_slice.ensures in
    subst (λ (headers : List RawSegment). AllPairs (λ (one other : RawSegment). one.vaddr ≢ other.vaddr) (filter is_load headers)) (sym read)
    (apart_starts (has_note (segments_of bytes)) (filter is_load (segments_of bytes)) (good bytes c.requires.good).loads)

pub read_regions-requires-clause-within : goal.read_regions-requires-clause-within
read_regions-requires-clause-within c =
    let bytes : List ℕ = c.args.bytes.now in
    let are = loads_read c.args.raw.now bytes _ _ _ c.requires.read c.as_slice.ensures c.in_ok-loads.ensures c.deref.ensures.value in
    let whole = subst (All (IsWholeLoad bytes (has_note (segments_of bytes)))) (sym are) (whole_loads_in bytes c.requires.sound c.requires.good) in
    λ k d inside. (whole k d inside).within

pub read_regions-requires-clause-whole : goal.read_regions-requires-clause-whole
read_regions-requires-clause-whole c =
    let bytes : List ℕ = c.args.bytes.now in
    let are = loads_read c.args.raw.now bytes _ _ _ c.requires.read c.as_slice.ensures c.in_ok-loads.ensures c.deref.ensures.value in
    let whole = subst (All (IsWholeLoad bytes (has_note (segments_of bytes)))) (sym are) (whole_loads_in bytes c.requires.sound c.requires.good) in
    λ k d inside. (whole k d inside).good.whole

-- what the file's regions have is what those have that were read
kept : (bytes : List ℕ) (loads : List RawSegment) (r : Result (Vec Region Global) AllocError) (P : List Region → Type 0) → loads ≡ loads_in bytes → P (regions_of bytes)
    → IfOk r (λ regions. regions.items ≡ map (region_of bytes) loads) → IfOk r (λ regions. P regions.items)
kept bytes loads r P are holds ok =
    IfOk-weaker r (λ regions. regions.items ≡ map (region_of bytes) loads) (λ regions. P regions.items)
    (λ regions made. subst P (sym (regions_read bytes loads regions.items are made)) holds) ok

pub returns-clause-same : goal.returns-clause-same
returns-clause-same c =
    let bytes : List ℕ = c.args.bytes.now in
    kept bytes c.deref.result.now c.read_regions.result (λ regions. regions ≡ regions_of bytes)
    (loads_read c.args.raw.now bytes _ _ _ c.requires.read c.as_slice.ensures c.in_ok-loads.ensures c.deref.ensures.value)
    refl c.read_regions.ensures

pub returns-clause-each : goal.returns-clause-each
returns-clause-each c =
    let bytes : List ℕ = c.args.bytes.now in
    let all : All IsByte bytes = All-from_get_or IsByte bytes 0 (λ i _. omega (arith, c.type_inv.bytes i)) in
    kept bytes c.deref.result.now c.read_regions.result (AllByRecursion (IsRegion (is_some (note_in bytes))))
    (loads_read c.args.raw.now bytes _ _ _ c.requires.read c.as_slice.ensures c.in_ok-loads.ensures c.deref.ensures.value)
    (regions_each bytes all c.requires.sound c.requires.good) c.read_regions.ensures

pub returns-clause-rise : goal.returns-clause-rise
returns-clause-rise c =
    let bytes : List ℕ = c.args.bytes.now in
    kept bytes c.deref.result.now c.read_regions.result RegionsRise
    (loads_read c.args.raw.now bytes _ _ _ c.requires.read c.as_slice.ensures c.in_ok-loads.ensures c.deref.ensures.value)
    (regions_rise bytes c.requires.sound c.requires.good) c.read_regions.ensures

pub returns-clause-few : goal.returns-clause-few
returns-clause-few c =
    let bytes : List ℕ = c.args.bytes.now in
    kept bytes c.deref.result.now c.read_regions.result (λ regions. length regions ≤ regions_limit (is_some (note_in bytes)))
    (loads_read c.args.raw.now bytes _ _ _ c.requires.read c.as_slice.ensures c.in_ok-loads.ensures c.deref.ensures.value)
    (regions_few bytes c.requires.good) c.read_regions.ensures
