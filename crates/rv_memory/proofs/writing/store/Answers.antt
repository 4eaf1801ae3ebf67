use Rattle.std.proofs.Common.{◌≡◌, ◌+◌, ◌-◌, ◌≤◌, true, length, get_or, sym, ap, ◌∙◌, arith}
use Rattle.std.proofs.lemmas.List.{get_or_default}
use Rattle.rv_code.specs.Numbers.{bytes_of}
use Rattle.rv_memory.specs.Answers.{hole_or}
use Rattle.rv_memory.specs.Stretches.{MappedStretch, stack}
use Rattle.rv_memory.specs.Outline.{stretch_end}
use Rattle.rv_memory.specs.Inner.Places.{stretch_at, HasAddress}
use Rattle.rv_memory.specs.Inner.Stored.{with_bytes, stored}
use Rattle.rv_memory.proofs.Near.{ends_within, has_place}
use Rattle.rv_memory.proofs.WrittenBytes.{IsStored, stored_at, all_open}
use Rattle.rv_memory.proofs.writing.store.Goals as goal

-- the stretch that is looked at
abbrev here : goal.After-store → MappedStretch
here c = get_or c.args.stretches.now c.args.near.now c.index-stretches-first-then-is_writable.result

found : (c : goal.After-store) → here c ≡ stretch_at c.args.stretches.now c.args.near.now
found c = get_or_default c.args.stretches.now c.args.near.now c.index-stretches-first-then-is_writable.result stack c.if-first-stretches.true

pub place_for-requires-clause-within : goal.place_for-requires-clause-within
place_for-requires-clause-within c =
    let stretches = c.args.stretches.now in
    let near = c.args.near.now in
    ends_within stretches near (get_or stretches near c.index-stretches-first-then-is_writable.result) c.requires.order c.if-first-stretches.true
    (get_or_default stretches near c.index-stretches-first-then-is_writable.result stack c.if-first-stretches.true)

has : (c : goal.After-store) → HasAddress c.args.stretches.now c.args.near.now c.args.address
has c =
    has_place c.args.stretches.now c.args.near.now (here c) c.args.address c.in-Some.place c.args.size c.if-first-stretches.true (found c)
    (omega (arith, c.requires.size)) c.in-Some.ensures.0 c.in-Some.ensures.1

put : (c : goal.After-store) → IsStored c.args.stretches.now c.args.near.now c.args.address c.args.size c.args.value c.store.new.self
put c =
    let stretch : MappedStretch = here c in
    let offset : c.in-Some.place ≡ c.args.address - stretch.start = omega (arith, c.in-Some.ensures.0) in
    let within : (c.args.address - stretch.start) + c.args.size ≤ length stretch.bytes = omega (arith, offset, c.in-Some.ensures.1) in
    stored_at c.args.stretches.now c.args.near.now c.args.address c.args.size c.args.value stretch c.store.new.self c.requires.order (has c) (found c) within
    (c.store.ensures ∙ ap (λ n. with_bytes stretch (stored stretch.bytes n (bytes_of c.args.size c.args.value))) offset)

pub returns-in-Some-clause-answer : goal.returns-in-Some-clause-answer
returns-in-Some-clause-answer c =
    let stretches = c.args.stretches.now in
    let near = c.args.near.now in
    let fits : c.args.address + c.args.size ≤ stretch_end (stretch_at stretches near) =
    omega (arith, c.in-Some.ensures.0, c.in-Some.ensures.1, ap (λ (b : MappedStretch). b.start) (found c), ap (λ (b : MappedStretch). length b.bytes) (found c)) in
    let read : get_or stretches near c.index-stretches-first.result ≡ stretch_at stretches near = get_or_default stretches near c.index-stretches-first.result stack c.if-first-stretches.true in
    let free : (stretch_at stretches near).writable ≡ true = ap (λ (b : MappedStretch). b.writable) (sym read) ∙ sym c.if-is_writable.ensures in
    ap (λ hole. hole_or hole tt) (sym (all_open stretches near c.args.address c.args.size c.requires.order (λ _. has c) fits c.if-first-stretches.true free))

pub returns-in-Some-clause-put : goal.returns-in-Some-clause-put
returns-in-Some-clause-put c = (put c).put

pub returns-in-Some-clause-outline : goal.returns-in-Some-clause-outline
returns-in-Some-clause-outline c = (put c).outline
