use Rattle.std.proofs.Common.{◌≡◌, ℕ, ◌+◌, ◌-◌, ◌≤◌, List, length, take, get_or, ap, ◌∙◌, arith}
use Rattle.std.proofs.lemmas.List.{get_or_default, length-take-le}
use Rattle.rv_memory.specs.Stretches.{MappedStretch, stack, cells_in}
use Rattle.rv_memory.specs.Memory.{span, written}
use Rattle.rv_memory.specs.Inner.Places.{stretch_at}
use Rattle.rv_memory.specs.Inner.Stored.{with_bytes, stored}
use Rattle.rv_memory.proofs.Order.{stretch_is}
use Rattle.rv_memory.proofs.RunBytes.{AreStored, run_stored, shut_nowhere}
use Rattle.rv_memory.proofs.writing.store_some.Goals as goal

-- the stretch that is written
abbrev here : goal.After-store_bytes → MappedStretch
here c = get_or c.args.stretches.now c.in-Some.place c.index-stretches-place.result

found : (c : goal.After-store_bytes) → here c ≡ stretch_at c.args.stretches.now c.in-Some.place
found c = get_or_default c.args.stretches.now c.in-Some.place c.index-stretches-place.result stack c.in-Some.ensures.inside

counted : (c : goal.After-store_bytes) → length (take c.min-count.result c.args.bytes.now) ≡ c.min-count.result
counted c = length-take-le c.min-count.result c.args.bytes.now (omega (arith, c.min-count.ensures))

within : (c : goal.After-store_bytes) → (c.args.address - (here c).start) + length (take c.min-count.result c.args.bytes.now) ≤ length (here c).bytes
within c =
    omega (arith, counted c, c.min-count.ensures, c.start.ensures, c.len.ensures, c.in-Some.ensures.above, c.in-Some.ensures.below, ap (λ (b : MappedStretch). b.start) (found c), ap (λ (b : MappedStretch). length b.bytes) (found c))

put : (c : goal.After-store_bytes) → AreStored c.args.stretches.now c.in-Some.place c.args.address (take c.min-count.result c.args.bytes.now) c.store_bytes.new.self
put c =
    let stretch : MappedStretch = here c in
    let values : List ℕ = take c.min-count.result c.args.bytes.now in
    run_stored c.args.stretches.now c.in-Some.place c.args.address values stretch c.store_bytes.new.self c.requires.order c.in-Some.ensures (found c) (within c)
    (c.store_bytes.ensures ∙ ap (λ n. with_bytes stretch (stored stretch.bytes (c.args.address - n) values)) c.start.ensures)

pub returns-in-Some-clause-small : goal.returns-in-Some-clause-small
returns-in-Some-clause-small c =
    omega (arith, counted c, within c, ap (λ (b : MappedStretch). length b.bytes) (found c), (stretch_is 0 c.args.stretches.now c.in-Some.place c.requires.order.rise c.in-Some.ensures.inside).part)

pub returns-in-Some-clause-put : goal.returns-in-Some-clause-put
returns-in-Some-clause-put c =
    (put c).put ∙ ap (λ n. written (cells_in c.args.stretches.now) (span c.args.address n) (take c.min-count.result c.args.bytes.now)) (counted c)

pub returns-in-Some-clause-outline : goal.returns-in-Some-clause-outline
returns-in-Some-clause-outline c = (put c).outline

pub returns-in-None-clause-some : goal.returns-in-None-clause-some
returns-in-None-clause-some c = absurd (shut_nowhere c.args.stretches.now c.args.address (length c.args.bytes.now) c.requires.some c.in-None.ensures c.requires.free)
