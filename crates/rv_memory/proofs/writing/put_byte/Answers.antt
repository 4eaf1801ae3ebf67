use Rattle.std.proofs.Common.{◌≡◌, ◌+◌, ◌-◌, ◌%◌, ◌≤◌, true, false, length, get_or, map, ap, ◌∙◌, arith}
use Rattle.std.proofs.lemmas.List.{get_or_default}
use Rattle.std.proofs.Math.Nat.{mod-eq_of_lt}
use Rattle.rv_memory.specs.Stretches.{MappedStretch, stack, cells_in}
use Rattle.rv_memory.specs.Memory.{with_byte}
use Rattle.rv_memory.specs.Inner.Places.{stretch_at}
use Rattle.rv_memory.specs.Inner.Stored.{with_bytes, stored}
use Rattle.rv_code.specs.Numbers.{bytes_of}
use Rattle.rv_memory.proofs.ReadBytes.{not_writable}
use Rattle.rv_memory.proofs.WrittenBytes.{IsStored, stored_at}
use Rattle.rv_memory.proofs.writing.put_byte.Goals as goal

put : (c : goal.After-store) → IsStored c.args.stretches.now c.in-Some.place c.args.address 1 c.from.result c.store.new.self
put c =
    let stretches = c.args.stretches.now in
    let stretch : MappedStretch = get_or stretches c.in-Some.place c.index-stretches-place.result in
    let found : stretch ≡ stretch_at stretches c.in-Some.place = get_or_default stretches c.in-Some.place c.index-stretches-place.result stack c.in-Some.ensures.inside in
    let within : (c.args.address - stretch.start) + 1 ≤ length stretch.bytes =
    omega (arith, c.in-Some.ensures.above, c.in-Some.ensures.below, ap (λ (b : MappedStretch). b.start) found, ap (λ (b : MappedStretch). length b.bytes) found) in
    stored_at stretches c.in-Some.place c.args.address 1 c.from.result stretch c.store.new.self c.requires.order c.in-Some.ensures found within
    (c.store.ensures ∙ ap (λ n. with_bytes stretch (stored stretch.bytes (c.args.address - n) (bytes_of 1 c.from.result))) c.start.ensures)

pub returns-in-Some-clause-put : goal.returns-in-Some-clause-put
returns-in-Some-clause-put c =
    let byte : c.from.result % 256 ≡ c.args.byte = mod-eq_of_lt (omega (arith, c.from.ensures, c.ranges.byte)) ∙ c.from.ensures in
    (put c).put ∙ ap (λ b. map (with_byte c.args.address b) (cells_in c.args.stretches.now)) byte

pub returns-in-Some-clause-outline : goal.returns-in-Some-clause-outline
returns-in-Some-clause-outline c = (put c).outline

pub returns-in_default-clause-put : goal.returns-in_default-clause-put
returns-in_default-clause-put c =
    let shut : false ≡ true = not_writable c.args.stretches.now c.args.address c.in_default.ensures ∙ c.requires.free in absurd (cc shut)
