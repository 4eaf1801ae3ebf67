use Rattle.std.proofs.Common.{◌≡◌, ℕ, ◌+◌, ◌-◌, ◌/◌, ◌<◌, ◌≤◌, length, ap, subst, arith}
use Rattle.std.proofs.lemmas.List.{get_or_read}
use Rattle.rv_memory.specs.Stretches.{MappedStretch, stack}
use Rattle.rv_memory.specs.Outline.{stretch_end}
use Rattle.rv_memory.specs.Inner.Places.{stretch_at}
use Rattle.rv_memory.proofs.Order.{starts_rise, nowhere_between}
use Rattle.rv_memory.proofs.place.place_of.Goals as goal

pub loop-low-preserved-then-start-address : goal.loop-low-preserved-then-start-address
loop-low-preserved-then-start-address c =
    let stretches = c.args.stretches.now in
    let middle : ℕ = c.loop-low.low + (c.loop-low.high - c.loop-low.low) / 2 in
    let inside : middle < length stretches = omega arith in
    let read : c.index-stretches-middle.result ≡ stretch_at stretches middle = get_or_read stretches middle c.index-stretches-middle.result inside c.index-stretches-middle.is stack in
    let begins : (stretch_at stretches middle).start ≤ c.args.address = omega (arith, ap (λ (b : MappedStretch). b.start) read, c.start.ensures) in
    record {
      order = omega arith;
      within = omega arith;
      before = λ place less. omega (arith, starts_rise stretches place middle c.requires (omega arith) inside, begins);
      behind = c.loop-low.invariant.behind;
    }

pub loop-low-preserved : goal.loop-low-preserved
loop-low-preserved c =
    let stretches = c.args.stretches.now in
    let middle : ℕ = c.loop-low.low + (c.loop-low.high - c.loop-low.low) / 2 in
    let inside : middle < length stretches = omega arith in
    let read : c.index-stretches-middle.result ≡ stretch_at stretches middle = get_or_read stretches middle c.index-stretches-middle.result inside c.index-stretches-middle.is stack in
    let begins : c.args.address < (stretch_at stretches middle).start = omega (arith, ap (λ (b : MappedStretch). b.start) read, c.start.ensures) in
    record {
      order = omega arith;
      within = omega arith;
      before = c.loop-low.invariant.before;
      behind = λ place le further. omega (arith, starts_rise stretches middle place c.requires (omega arith) further, begins);
    }

pub returns-then-low-eq0 : goal.returns-then-low-eq0
returns-then-low-eq0 c =
    nowhere_between c.args.stretches.now 0 c.args.address c.requires
    (λ other le inside. c.loop-low.invariant.behind other (omega arith) inside)
    (λ last no. absurd (omega arith))

pub returns-else-address-start : goal.returns-else-address-start
returns-else-address-start c =
    let stretches = c.args.stretches.now in
    let last : ℕ = c.loop-low.low - 1 in
    let inside : last < length stretches = omega arith in
    let read : c.index-stretches-low.result ≡ stretch_at stretches last = get_or_read stretches last c.index-stretches-low.result inside c.index-stretches-low.is stack in
    let ends : stretch_end (stretch_at stretches last) ≤ c.args.address = omega (arith, ap (λ (b : MappedStretch). b.start) read, ap (λ (b : MappedStretch). length b.bytes) read, c.start-2.ensures, c.len.ensures, c.loop-low.invariant.before last (omega arith)) in
    nowhere_between stretches c.loop-low.low c.args.address c.requires
    (λ other le within. c.loop-low.invariant.behind other (omega arith) within)
    (λ n is. let same : last ≡ n = omega arith in subst (λ k. (k < length stretches) × (stretch_end (stretch_at stretches k) ≤ c.args.address)) same (inside, ends))
