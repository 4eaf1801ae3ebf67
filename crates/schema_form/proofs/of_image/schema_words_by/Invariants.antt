use Rattle.std.proofs.Common.{Bool, true, false, List}
use Rattle.std.specs.List.{AllByRecursion}
use Rattle.schema_form.specs.Inner.Recorded.{AreRecorded}
use Rattle.schema_form.specs.OfImage.{AreSchemaWordsOf}
use Rattle.schema_form.specs.Valid.{AreNumbersOfWord}
use Rattle.schema_form.proofs.of_image.schema_words_by.Given as goal

abbrev pub invariant-loop-place : goal.invariant-loop-place
invariant-loop-place l =
    ((marks : List Bool) → AreRecorded l.graph marks false l.falls → AreRecorded l.graph marks true l.takes → AreSchemaWordsOf l.graph marks l.place l.words.items)
    × AllByRecursion AreNumbersOfWord l.words.items
