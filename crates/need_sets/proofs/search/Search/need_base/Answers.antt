-- The base of the word at the place is its mask's register.
use Rattle.std.proofs.Common.{◌≡◌, Some, set, sym, ap, ◌∙◌, arith}
use Rattle.std.specs.Prelude.{bit_or}
use Rattle.std.specs.Option.{option_map}
use Rattle.rv_code.specs.Table.{meaning_of}
use Rattle.rv_code.proofs.LawsOfMasks.{shifted-mask_of}
use Rattle.flow_graph.specs.CodeParts.{instr_in}
use Rattle.need_sets.specs.Inner.Search.{mask_in}
use Rattle.need_sets.proofs.Bits.{base_real}
use Rattle.need_sets.proofs.Passing.{on_ok_both, has_base_here, sound_base_here}
use Rattle.need_sets.proofs.search.Search.need_base.Goals as goal

pub returns-in-Some-base-clause-needed : goal.returns-in-Some-base-clause-needed
returns-in-Some-base-clause-needed c =
    let is : instr_in c.args.ranges.now c.address_at.result ≡ Some c.decode.result =
    ap (option_map meaning_of) (sym c.in-Some.ensures) ∙ ap Some (sym c.decode.ensures.meaning)
    in
    let real = base_real c.decode.result c.in-Some-base.register c.decode.ensures.fits (sym c.in-Some-base.ensures) in
    on_ok_both c.need.result c.need.ensures.masks c.need.ensures.used
    (λ masks used. has_base_here c.args.ranges.now c.args.place c.address_at.result c.in-Some-base.register c.decode.result c.args.self.now c.need.new.self real.0
    c.address_at.ensures is (sym c.in-Some-base.ensures) (omega (arith, c.requires.within, c.requires.sized.masks))
    (masks ∙ ap (λ mask. set c.args.self.now.masks.items c.args.place (bit_or (mask_in c.args.self.now c.args.place) mask)) (shifted-mask_of c.in-Some-base.register real.0 real.1)))

pub returns-in-Some-base-clause-sound : goal.returns-in-Some-base-clause-sound
returns-in-Some-base-clause-sound c = λ bases asks sound.
    let is : instr_in c.args.ranges.now c.address_at.result ≡ Some c.decode.result =
    ap (option_map meaning_of) (sym c.in-Some.ensures) ∙ ap Some (sym c.decode.ensures.meaning)
    in
    let real = base_real c.decode.result c.in-Some-base.register c.decode.ensures.fits (sym c.in-Some-base.ensures) in
    on_ok_both c.need.result c.need.ensures.masks c.need.ensures.used
    (λ masks used. sound_base_here c.args.ranges.now bases c.args.place c.address_at.result c.in-Some-base.register c.decode.result c.args.self.now c.need.new.self
    c.address_at.ensures is (sym c.in-Some-base.ensures) (omega (arith, c.requires.within, c.requires.sized.masks))
    (masks ∙ ap (λ mask. set c.args.self.now.masks.items c.args.place (bit_or (mask_in c.args.self.now c.args.place) mask)) (shifted-mask_of c.in-Some-base.register real.0 real.1))
    used asks sound)
