use Rattle.std.proofs.Common.{◌≡◌, ◌+◌, ◌-◌, ◌≤◌, true, length, get_or, sym, ap, ◌∙◌, arith}
use Rattle.std.proofs.lemmas.List.{get_or_default}
use Rattle.rv_code.specs.Numbers.{bytes_of}
use Rattle.rv_memory.specs.Answers.{hole_or}
use Rattle.rv_memory.specs.Stretches.{MappedStretch, stack}
use Rattle.rv_memory.specs.Outline.{stretch_end}
use Rattle.rv_memory.specs.Inner.Places.{stretch_at}
use Rattle.rv_memory.specs.Inner.Stored.{with_bytes, stored}
use Rattle.rv_memory.proofs.WrittenBytes.{IsStored, stored_at, all_open}
use Rattle.rv_memory.proofs.writing.store_anywhere.Goals as goal

-- the stretch that is written
abbrev here : goal.After-store → MappedStretch
here c = get_or c.args.stretches.now c.in-Some.place c.index-stretches-place.result

found : (c : goal.After-store) → here c ≡ stretch_at c.args.stretches.now c.in-Some.place
found c = get_or_default c.args.stretches.now c.in-Some.place c.index-stretches-place.result stack c.in-Some.ensures.inside

within : (c : goal.After-store) → (c.args.address - (here c).start) + c.args.size ≤ length (here c).bytes
within c = omega (arith, c.start.ensures, c.len.ensures, c.in-Some.ensures.above, c.in-Some.ensures.below, ap (λ (b : MappedStretch). b.start) (found c), ap (λ (b : MappedStretch). length b.bytes) (found c))

put : (c : goal.After-store) → IsStored c.args.stretches.now c.in-Some.place c.args.address c.args.size c.args.value c.store.new.self
put c =
    let stretch : MappedStretch = here c in
    stored_at c.args.stretches.now c.in-Some.place c.args.address c.args.size c.args.value stretch c.store.new.self c.requires.order c.in-Some.ensures (found c) (within c)
    (c.store.ensures ∙ ap (λ n. with_bytes stretch (stored stretch.bytes (c.args.address - n) (bytes_of c.args.size c.args.value))) c.start.ensures)

pub returns-then-len-offset-clause-answer : goal.returns-then-len-offset-clause-answer
returns-then-len-offset-clause-answer c =
    let stretches = c.args.stretches.now in
    let fits : c.args.address + c.args.size ≤ stretch_end (stretch_at stretches c.in-Some.place) =
    omega (arith, within c, c.in-Some.ensures.above, ap (λ (b : MappedStretch). b.start) (found c), ap (λ (b : MappedStretch). length b.bytes) (found c)) in
    let free : (stretch_at stretches c.in-Some.place).writable ≡ true = ap (λ (b : MappedStretch). b.writable) (sym (found c)) ∙ sym c.if-is_writable.ensures in
    ap (λ hole. hole_or hole tt) (sym (all_open stretches c.in-Some.place c.args.address c.args.size c.requires.order (λ _. c.in-Some.ensures) fits c.in-Some.ensures.inside free))

pub returns-then-len-offset-clause-put : goal.returns-then-len-offset-clause-put
returns-then-len-offset-clause-put c = (put c).put

pub returns-then-len-offset-clause-outline : goal.returns-then-len-offset-clause-outline
returns-then-len-offset-clause-outline c = (put c).outline
