use Rattle.std.proofs.Common.{rules, arith, ◌≡◌, true, ◌+◌, ◌*◌, ◌^◌, ◌≤◌, take, get_or, sym, ap, ◌∙◌}
use Rattle.std.specs.List.{list_all}
use Rattle.std.specs.Char.{is_ascii_digit}
use Rattle.std.specs.Str.Parse.{digits_value}
use Rattle.std.proofs.lemmas.List.{take_all}
use Rattle.std.proofs.lemmas.Grind.{common_steps}
use Rattle.ae_nums.proofs.Reading.{value_more, too_large, small_enough}
use Rattle.ae_nums.proofs.digits.number_of_digits.Goals as goal

pub returns-in_err-checked_mul : goal.returns-in_err-checked_mul
returns-in_err-checked_mul c =
    let digit : is_ascii_digit (get_or c.args.bytes.now c.loop-byte.byte-index 0) ≡ true = search rules in
    let more = value_more c.args.bytes.now c.loop-byte.byte-index c.loop-byte.number (omega arith) digit c.loop-byte.invariant.2 in
    let large : 2 ^ 64 ≤ c.loop-byte.number * 10 = omega (arith, c.in_err-checked_mul.ensures) in
    c.from_residual.ensures ∙ too_large c.args.bytes.now (c.loop-byte.byte-index + 1) (omega arith)

pub returns-in_err-number : goal.returns-in_err-number
returns-in_err-number c =
    let digit : is_ascii_digit (get_or c.args.bytes.now c.loop-byte.byte-index 0) ≡ true = search rules in
    let more = value_more c.args.bytes.now c.loop-byte.byte-index c.loop-byte.number (omega arith) digit c.loop-byte.invariant.2 in
    c.from_residual-in_err-number.ensures ∙ too_large c.args.bytes.now (c.loop-byte.byte-index + 1) (omega (arith, c.in_err-number.ensures, c.in_ok-checked_mul.ensures))

pub loop-byte-preserved : goal.loop-byte-preserved
loop-byte-preserved c =
    let digit : is_ascii_digit (get_or c.args.bytes.now c.loop-byte.byte-index 0) ≡ true = search rules in
    let more = value_more c.args.bytes.now c.loop-byte.byte-index c.loop-byte.number (omega arith) digit c.loop-byte.invariant.2 in
    (omega (arith, c.in_ok-number.ensures), grind (arith, common_steps), omega (arith, c.in_ok-number.ensures, c.in_ok-checked_mul.ensures))

pub returns : goal.returns
returns c =
    let whole : take c.loop-byte.byte-index c.args.bytes.now ≡ c.args.bytes.now = take_all c.loop-byte.byte-index c.args.bytes.now c.loop-byte-test.false in
    let value : c.loop-byte.number ≡ digits_value 10 c.args.bytes.now = c.loop-byte.invariant.2 ∙ ap (digits_value 10) whole in
    rw value (small_enough c.args.bytes.now (ap (list_all is_ascii_digit) (sym whole) ∙ c.loop-byte.invariant.1) (omega (arith, sym value, c.loop-byte.invariant.0)))
