use Rattle.std.proofs.Common.{◌≡◌, ℕ, true, false, Some, None, ap, sym, subst, ◌∙◌, arith}
use Rattle.rv_code.specs.Places.{place_of}
use Rattle.regen_path.specs.Arcs.{HasArc}
use Rattle.regen_path.specs.Walks.{IsWalk}
use Rattle.regen_walk.specs.declared.position.Position.TheVariants.{Before}
use Rattle.regen_walk.specs.Inner.Going.{GoesAlong}
use Rattle.regen_walk.specs.Inner.Telling.{may_tell}
use Rattle.regen_walk.specs.Moves.{Moved}
use Rattle.regen_walk.specs.Promises.{Tells}
use Rattle.regen_walk.proofs.Reached.{none_always, reaches}
use Rattle.regen_walk.proofs.WordsMet.{place_within}
use Rattle.regen_walk.proofs.walk.goal_of.Goals.{then-asks_registers, else-asks_registers}
use Rattle.regen_walk.proofs.walk.goal_of.Goals as goal

pub leads-requires-clause-here : goal.leads-requires-clause-here
leads-requires-clause-here c =
    let within = place_within c.args.schema.now c.requires.valid c.args.from c.requires.from in
    omega (arith, within, c.requires.ways.long)

pub returns-in_err-place-clause-none : goal.returns-in_err-place-clause-none
returns-in_err-place-clause-none c =
    let none : (moved : Moved) → Tells c.args.schema.now (Before c.args.from.address) c.args.registers.now c.args.rec.now moved → ⊥ =
    λ moved tells.
    let r = reaches c.args.schema.now c.requires.valid c.args.rec.now tells.ways c.args.from c.requires.from c.args.registers.now moved tells.made in
    let clash : Some r.goal.place ≡ None =
    sym r.spot ∙ ap (place_of c.args.schema.now.stretches) (sym r.address ∙ sym c.address-address.ensures)
    ∙ sym c.in_err-place.ensures.place
    in
    cc
    in
    none_always _ c.from_residual.result none

pub returns-then-not-leads-clause-none : goal.returns-then-not-leads-clause-none
returns-then-not-leads-clause-none c = λ moved tells.
    let r = reaches c.args.schema.now c.requires.valid c.args.rec.now tells.ways c.args.from c.requires.from c.args.registers.now moved tells.made in
    let both : Some r.goal.place ≡ Some c.in_ok-place.place =
    sym r.spot ∙ ap (place_of c.args.schema.now.stretches) (sym r.address ∙ sym c.address-address.ensures)
    ∙ sym c.in_ok-place.ensures.place
    in
    let place : r.goal.place ≡ c.in_ok-place.place = cc in
    let walks : IsWalk (HasArc c.args.paths.now) c.args.from.place r.goal.place r.walk = record { within = λ arc is. (c.requires.ways.has arc).0 (r.walks.within arc is); trail = r.walks.trail } in
    let led : false ≡ true = c.if-not-leads.ensures.1 (r.walk, subst (λ (p : ℕ). IsWalk (HasArc c.args.paths.now) c.args.from.place p r.walk) place walks) in
    cc

pub returns-else-may-clause-none : goal.returns-else-may-clause-none
returns-else-may-clause-none c = λ moved tells.
    let r = reaches c.args.schema.now c.requires.valid c.args.rec.now tells.ways c.args.from c.requires.from c.args.registers.now moved tells.made in
    let both : Some r.goal.place ≡ Some c.in_ok-place.place =
    sym r.spot ∙ ap (place_of c.args.schema.now.stretches) (sym r.address ∙ sym c.address-address.ensures)
    ∙ sym c.in_ok-place.ensures.place
    in
    let place : r.goal.place ≡ c.in_ok-place.place = cc in
    let has : IsWalk (HasArc c.args.paths.now) c.args.from.place r.goal.place r.walk = record { within = λ arc is. (c.requires.ways.has arc).0 (r.walks.within arc is); trail = r.walks.trail } in
    let walks : IsWalk (HasArc c.args.paths.now) c.args.from.place c.in_ok-place.place r.walk = subst (λ (p : ℕ). IsWalk (HasArc c.args.paths.now) c.args.from.place p r.walk) place has in
    let address : r.goal.address ≡ c.address-address.result = sym r.address ∙ sym c.address-address.ensures in
    let may : may_tell c.args.schema.now c.address-address.result r.there c.args.rec.now ≡ true = subst (λ (a : ℕ). may_tell c.args.schema.now a r.there c.args.rec.now ≡ true) address r.may in
    let goes : GoesAlong c.args.schema.now r.walk c.args.from.address c.address-address.result c.args.registers.now r.there r.items =
    subst (λ (a : ℕ). GoesAlong c.args.schema.now r.walk c.args.from.address a c.args.registers.now r.there r.items) address r.goes
    in
    elim c.if-asks_registers.branch [
      | then-asks_registers w ↦
          let clash : true ≡ false = sym may ∙ sym (w.may_tell_there-may.ensures r.walk walks r.there r.items goes) ∙ sym w.may-is ∙ c.if-may.false in
          absurd (cc clash)
      | else-asks_registers w ↦
          let alone = c.asks_registers.ensures w.if-asks_registers.false c.args.schema.now c.address-address.result c.met_at-met.ensures c.address-address.ensures r.there c.args.registers.now in
          let clash : true ≡ false = sym may ∙ alone ∙ sym w.may_tell-may.ensures ∙ sym w.may-is ∙ c.if-may.false in
          absurd (cc clash)
    ]
