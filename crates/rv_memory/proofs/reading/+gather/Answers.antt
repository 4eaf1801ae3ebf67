use Rattle.std.proofs.Common.{◌≡◌, ◌+◌, ◌-◌, ◌*◌, ◌<◌, get_or, Ok, sym, ap, ◌∙◌, arith}
use Rattle.std.proofs.lemmas.List.{get_or_read}
use Rattle.std.proofs.lemmas.Result.{err_from_is_err_and}
use Rattle.rv_memory.specs.Stretches.{MappedStretch, stack, cells_in}
use Rattle.rv_memory.specs.Inner.Places.{stretch_at}
use Rattle.rv_memory.proofs.Order.{nowhere, cell_in, cell_of}
use Rattle.rv_memory.proofs.ReadBytes.{read_at_hole, read_after, missed_after, byte_more, sum_fits}
use Rattle.rv_memory.proofs.reading.+gather.Goals as goal

pub returns-in_default-clause-answer : goal.returns-in_default-clause-answer
returns-in_default-clause-answer t c =
    sym (read_at_hole (cells_in c.args.stretches.now) c.args.address c.args.count (omega arith) (nowhere c.args.stretches.now c.args.address c.in_default.ensures.missed))

pub returns-in_err-rest-clause-answer : goal.returns-in_err-rest-clause-answer
returns-in_err-rest-clause-answer t c =
    let stretches = c.args.stretches.now in
    let p = err_from_is_err_and c.from_residual.result c.from_residual.ensures.1 in
    rw (p.1, p.2)
    (sym (missed_after (cells_in stretches) c.args.address c.args.count c.in_err-rest.field-0.0 (cell_in (stretch_at stretches c.in-Some.place) c.args.address) (omega arith)
    (cell_of 0 stretches c.in-Some.place c.args.address c.requires.order.rise c.in-Some.ensures) c.in_err-rest.ensures.answer))

pub overflow_mul-result : goal.overflow_mul-result
overflow_mul-result t c = omega (arith, sum_fits 0 c.in_ok-rest.rest c.args.count c.requires.few (omega arith) (omega arith) c.in_ok-rest.ensures.small)

pub overflow_add-result : goal.overflow_add-result
overflow_add-result t c =
    let byte : c.from.result < 256 = omega (arith, c.byte-byte.type_inv) in
    omega (arith, sum_fits c.from.result c.in_ok-rest.rest c.args.count c.requires.few (omega arith) byte c.in_ok-rest.ensures.small)

pub returns-clause-small : goal.returns-clause-small
returns-clause-small t c =
    let byte : c.from.result < 256 = omega (arith, c.byte-byte.type_inv) in
    byte_more c.from.result c.in_ok-rest.rest c.args.count (omega arith) byte c.in_ok-rest.ensures.small

pub returns-clause-answer : goal.returns-clause-answer
returns-clause-answer t c =
    let stretches = c.args.stretches.now in
    let place = c.in-Some.place in
    let found : c.index-stretches-place.result ≡ stretch_at stretches place = get_or_read stretches place c.index-stretches-place.result c.in-Some.ensures.inside c.index-stretches-place.is stack in
    let byte : c.from.result ≡ (cell_in (stretch_at stretches place) c.args.address).byte =
    c.from.ensures ∙ (c.byte-byte.ensures ∙ (ap (λ n. get_or c.index-stretches-place.result.bytes (c.args.address - n) 0) c.start.ensures
    ∙ ap (λ (b : MappedStretch). get_or b.bytes (c.args.address - b.start) 0) found)) in
    ap (λ n. Ok (n + 256 * c.in_ok-rest.rest)) byte
    ∙ sym (read_after (cells_in stretches) c.args.address c.args.count c.in_ok-rest.rest (cell_in (stretch_at stretches place) c.args.address) (omega arith)
    (cell_of 0 stretches place c.args.address c.requires.order.rise c.in-Some.ensures) c.in_ok-rest.ensures.answer)
