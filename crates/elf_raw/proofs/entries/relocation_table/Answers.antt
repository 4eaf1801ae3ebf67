use Rattle.std.proofs.Common.{◌≡◌, ℕ, List, [], ◌++◌, take, get_or, pos, sym, ap, ◌∙◌, subst}
use Rattle.std.proofs.lemmas.List.{flat_map_more, take_all, take_more}
use Rattle.std.proofs.lemmas.List.Elements.{All-more}
use Rattle.std.specs.List.{All, flat_map}
use Rattle.elf_raw.specs.declared.relocation.RawRelocation.{RawRelocation}
use Rattle.elf_raw.specs.Entries.{relocation_bytes, relocation_table, AreRelocationsIn}
use Rattle.elf_raw.specs.Inner.Fits.{RelocationFits}
use Rattle.elf_raw.proofs.EntriesBack.{relocations_in_table}
use Rattle.elf_raw.proofs.entries.relocation_table.Goals as goal

pub loop-relocation-preserved : goal.loop-relocation-preserved
loop-relocation-preserved c =
    let relocations : List RawRelocation = c.args.relocations.now in
    let place : ℕ = c.loop-relocation.relocation-index in
    let row : RawRelocation = get_or relocations place (record { section = 0; offset = 0; info = 0; addend = pos 0 }) in
    record {
      bytes = c.in_ok-add_relocation.ensures.added
          ∙ ap (λ xs. xs ++ relocation_bytes row) c.loop-relocation.invariant.bytes
          ∙ flat_map_more relocation_bytes [] (take place relocations) row
          ∙ ap (flat_map relocation_bytes) (sym (take_more relocations place _ c.loop-relocation-test.true));
      fits = All-more RelocationFits relocations place _ c.loop-relocation-test.true c.loop-relocation.invariant.fits c.in_ok-add_relocation.ensures.fits;
    }

pub returns-clause-read_back : goal.returns-clause-read_back
returns-clause-read_back c =
    let relocations : List RawRelocation = c.args.relocations.now in
    let all : take c.loop-relocation.relocation-index relocations ≡ relocations = take_all c.loop-relocation.relocation-index relocations c.loop-relocation-test.false in
    subst (λ table. AreRelocationsIn table relocations) (sym (c.loop-relocation.invariant.bytes ∙ ap relocation_table all))
    (relocations_in_table relocations (subst (All RelocationFits) all c.loop-relocation.invariant.fits))
