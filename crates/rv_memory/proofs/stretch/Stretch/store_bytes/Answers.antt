use Rattle.std.proofs.Common.{◌≡◌, ℕ, ◌+◌, ◌-◌, List, ◌++◌, length, take, drop, sym, ap, ◌∙◌, arith}
use Rattle.std.proofs.lemmas.List.{with_items_is}
use Rattle.rv_memory.specs.Stretches.{MappedStretch}
use Rattle.rv_memory.specs.Inner.Stored.{with_bytes, stored}
use Rattle.rv_memory.proofs.WrittenBytes.{length-stored}
use Rattle.rv_memory.proofs.RunBytes.{part_written}
use Rattle.rv_memory.proofs.stretch.Stretch.store_bytes.Goals as goal

-- the bytes of the stretch then
abbrev now : goal.After-self-1 → List ℕ
now c =
    take c.args.place c.deref_mut.result.now
    ++ (c.copy_from_slice.new.self ++ drop (c.args.place + length c.args.bytes.now - c.args.place) (drop c.args.place c.deref_mut.result.now))

now_is : (c : goal.After-self-1) → now c ≡ stored c.self.inside.bytes.items c.args.place c.args.bytes.now
now_is c =
    part_written c.self.inside.bytes.items c.deref_mut.result.now c.copy_from_slice.new.self c.args.bytes.now c.args.place c.deref_mut.ensures.value c.copy_from_slice.ensures.after
    (omega (arith, c.requires, ap (λ (b : MappedStretch). length b.bytes) c.self.view_is))

whole : (c : goal.After-self-1) → length (now c) ≡ c.self.inside.bytes.len
whole c =
    ap (λ (xs : List ℕ). length xs) (now_is c)
    ∙ (length-stored c.self.inside.bytes.items c.args.place c.args.bytes.now ∙ (ap (λ (xs : List ℕ). length xs) (sym c.deref_mut.ensures.value) ∙ c.deref_mut.ensures.len))

pub returns : goal.returns
returns c =
    let with_items : List ℕ → MappedStretch = λ xs. record { start = c.self.inside.start; bytes = xs; writable = c.self.inside.writable } in
    let written : MappedStretch → MappedStretch = λ b. with_bytes b (stored b.bytes c.args.place c.args.bytes.now) in
    ap with_items (with_items_is c.self.inside.bytes (now c) (whole c)) ∙ (ap with_items (now_is c) ∙ ap written c.self.view_is)
