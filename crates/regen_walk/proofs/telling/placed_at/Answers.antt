use Rattle.std.proofs.Common.{ℕ, Option, ap, sym, ◌∙◌}
use Rattle.std.specs.Prelude.{slice_get}
use Rattle.std.specs.Option.{option_and_then, option_map_or}
use Rattle.std.proofs.lemmas.Option.{slice_get-get_or}
use Rattle.schema_form.specs.declared.word.SchemaWord.{SchemaWord}
use Rattle.regen_walk.specs.declared.position.Position.{Position}
use Rattle.regen_walk.specs.declared.position.Position.TheVariants.{Before, Outside}
use Rattle.regen_walk.proofs.telling.placed_at.Goals as goal

pub returns-in-Some-clause-position : goal.returns-in-Some-clause-position
returns-in-Some-clause-position c =
    let address = c.args.address in
    let words = c.args.schema.now.words in
    let none : SchemaWord = record { flags = 0; raw = 0; mask = 0 } in
    let found : Option ℕ → Position = λ place. option_map_or (λ (word : SchemaWord). Before address) (option_and_then (slice_get words) place) (Outside address) in
    let there = ap found (sym c.place_of.ensures.place ∙ c.in-Some.is) in
    let word = slice_get-get_or words c.in-Some.place none (c.in-Some.ensures.below) in
    sym (there ∙ ap (λ (word : Option SchemaWord). option_map_or (λ (word : SchemaWord). Before address) word (Outside address)) word)
