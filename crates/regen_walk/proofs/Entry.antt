-- A walk begins before the entry.
use Rattle.std.proofs.Common.{◌≡◌, Option, ap, ◌∙◌}
use Rattle.std.specs.Prelude.{slice_get}
use Rattle.std.specs.Option.{option_and_then, option_map_or}
use Rattle.std.proofs.lemmas.Option.{slice_get-get_or}
use Rattle.rv_code.specs.Places.{place_of}
use Rattle.rv_code.proofs.LawsOfLookUps.{is_some-place_of}
use Rattle.rv_code.proofs.LawsOfTests.{some_there}
use Rattle.schema_form.specs.declared.word.SchemaWord.{SchemaWord}
use Rattle.schema_form.specs.SchemaParts.{SchemaParts}
use Rattle.schema_form.specs.Valid.{IsSchema}
use Rattle.regen_walk.specs.declared.position.Position.TheVariants.{Before, Outside}
use Rattle.regen_walk.specs.Moves.{placed_at}
use Rattle.regen_walk.proofs.WordsMet.{place_within}

pub entry_placed : (parts : SchemaParts) → IsSchema parts → placed_at parts parts.entry ≡ Before parts.entry
entry_placed parts valid =
    let there = some_there (place_of parts.stretches parts.entry) (is_some-place_of parts.stretches parts.entry valid.stretches.extents.each ∙ valid.entry) in
    let within = place_within parts valid (record { address = parts.entry; place = there.0 }) there.1 in
    let none : SchemaWord = record { flags = 0; raw = 0; mask = 0 } in
    ap (λ (o : Option SchemaWord). option_map_or (λ (word : SchemaWord). Before parts.entry) o (Outside parts.entry))
    (ap (option_and_then (slice_get parts.words)) there.1 ∙ slice_get-get_or parts.words there.0 none within)
