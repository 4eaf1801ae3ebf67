use Rattle.std.proofs.Common.{◌≡◌, ◌+◌, take, drop}
use Rattle.std.specs.Option.{option_map}
use Rattle.rv_code.specs.Places.{place_of}
use Rattle.schema_form.specs.Layout.{words_total}
use Rattle.schema_form.proofs.stretches.place_of.Given as goal

abbrev pub invariant-loop-stretch : goal.invariant-loop-stretch
invariant-loop-stretch l = record {
  counted : l.before ≡ words_total (take l.stretch-index l.stretches);
  place : place_of l.stretches l.address ≡ option_map (λ place. l.before + place) (place_of (drop l.stretch-index l.stretches) l.address);
}
