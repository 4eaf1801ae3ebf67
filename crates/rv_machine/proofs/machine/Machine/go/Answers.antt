use Rattle.std.proofs.Common.{rules, ◌≡◌, ◌+◌, ◌∙◌, List, ◌++◌, sym, subst, ap, Ok, Err, None, Some, refl, arith}
use Rattle.ae_nums.specs.declared.item.Item.{Item}
use Rattle.rv_machine.specs.Held.{Held}
use Rattle.rv_machine.specs.Ports.{Told}
use Rattle.rv_machine.specs.contracts.machine.Machine.{the_view}
use Rattle.rv_machine.specs.Outcomes.{Runs}
use Rattle.rv_machine.specs.declared.outcome.Outcome.TheVariants.{Spent}
use Rattle.rv_machine.specs.Inner.Advance.{Turns, at}
use Rattle.rv_machine.proofs.Gone.{HasGone, begun, went_on, spent, ended, broke}
use Rattle.rv_machine.proofs.Passing.{pass_on}
use Rattle.rv_machine.proofs.Quick.{at_own, broken, steps, turned, turns_at}
use Rattle.rv_machine.proofs.machine.Machine.go.Goals as goal
use Rattle.rv_machine.proofs.machine.Machine.go.Goals.{in-Some+in_ok-give, in_default+in_ok-ending+in_default-2}

pub loop-made-init : goal.loop-made-init
loop-made-init g c =
    let told : Told = record { input = g.I.Source.told c.args.input.now; out = g.O.Sink.told c.args.out.now; err = g.P.Sink.told c.args.err.now; events = g.Q.Sink.told c.args.events.now } in
    let here : at c.self.inside.pc c.args.self.now ≡ c.args.self.now = at_own c.args.self.now c.self.inside.pc (ap (λ (held : Held). held.pc) c.self.view_is) in
    record {
      gone = subst (λ (held : Held). HasGone (g.K.Taker.took c.args.items.now c.args.items.now) c.args.self.now told c.args.fuel 0 held told) (sym here)
          (begun (g.K.Taker.took c.args.items.now c.args.items.now) c.args.self.now told c.args.fuel (g.met.K.Taker.took_nothing c.args.items.now));
      faults_input = refl;
      faults_out = refl;
      faults_err = refl;
      faults_events = refl;
      faults_items = refl;
      input = g.met.I.Source.rest_stays c.args.input.now;
      out = g.met.O.Sink.rest_stays c.args.out.now;
      err = g.met.P.Sink.rest_stays c.args.err.now;
      events = g.met.Q.Sink.rest_stays c.args.events.now;
      items = g.met.K.Taker.rest_stays c.args.items.now;
    }

pub loop-made-preserved : goal.loop-made-preserved
loop-made-preserved g c =
    let told : Told = record { input = g.I.Source.told c.args.input.now; out = g.O.Sink.told c.args.out.now; err = g.P.Sink.told c.args.err.now; events = g.Q.Sink.told c.args.events.now } in
    let told_now : Told = record { input = g.I.Source.told c.loop-made.input; out = g.O.Sink.told c.loop-made.out; err = g.P.Sink.told c.loop-made.err; events = g.Q.Sink.told c.loop-made.events } in
    elim c.match-quick.branch [
      | in-Some+in_ok-give w ↦
          let took : List Item → Type 0 = g.K.Taker.took c.args.items.now c.loop-made.items in
          let took_step : List Item → Type 0 = g.K.Taker.took c.loop-made.items w.give.new.items in
          let took_both : List Item → Type 0 = g.K.Taker.took c.args.items.now w.give.new.items in
          let join : (first second : List Item) → took first → took_step second → took_both (first ++ second) = λ first second f h. g.met.K.Taker.took_both c.args.items.now c.loop-made.items w.give.new.items first second f h in
          rw w.self-is (rw w.input-is (rw w.out-is (rw w.err-is (rw w.events-is (rw w.items-is (rw w.pc-is (
          record {
            gone = went_on c.args.self.now (at c.loop-made.pc c.loop-made.self) (at w.in-Some.gone.next c.quick.new.self) told told_now told_now c.args.fuel c.loop-made._made took took_step took_both
                join c.loop-made-test.true c.loop-made.invariant.gone
                (turned c.loop-made.pc c.loop-made.self c.quick.new.self w.in-Some.gone told_now took_step w.in-Some.ensures w.in_ok-give.ensures.all);
            faults_input = search rules;
            faults_out = search rules;
            faults_err = search rules;
            faults_events = search rules;
            faults_items = search rules;
            input = c.loop-made.invariant.input;
            out = c.loop-made.invariant.out;
            err = c.loop-made.invariant.err;
            events = c.loop-made.invariant.events;
            items = g.met.K.Taker.rest_joins _ _ _ c.loop-made.invariant.items w.in_ok-give.ensures.rest;
          })))))))
      | in_default+in_ok-ending+in_default-2 w ↦
          let told_next : Told = record { input = g.I.Source.told w.turn.new.input; out = g.O.Sink.told w.turn.new.out; err = g.P.Sink.told w.turn.new.err; events = g.Q.Sink.told w.turn.new.events } in
          let took : List Item → Type 0 = g.K.Taker.took c.args.items.now c.loop-made.items in
          let took_step : List Item → Type 0 = g.K.Taker.took c.loop-made.items w.turn.new.items in
          let took_both : List Item → Type 0 = g.K.Taker.took c.args.items.now w.turn.new.items in
          let join : (first second : List Item) → took first → took_step second → took_both (first ++ second) = λ first second f h. g.met.K.Taker.took_both c.args.items.now c.loop-made.items w.turn.new.items first second f h in
          let now : Held = at c.loop-made.pc c.loop-made.self in
          let seen : Held = at c.loop-made.pc (the_view w.self-in_default.inside) in
          let same : seen ≡ now = ap (at c.loop-made.pc) (w.self-in_default.view_is ∙ w.in_default.ensures) in
          let here : at w.self-in_default-2.inside.pc w.turn.new.self ≡ w.turn.new.self = at_own w.turn.new.self w.self-in_default-2.inside.pc (ap (λ (held : Held). held.pc) w.self-in_default-2.view_is) in
          let steps_on = turns_at now seen w.turn.new.self told_now told_next took_step (Ok None) same (subst (λ r. Turns (steps seen) seen told_now took_step r w.turn.new.self told_next) (w.in_ok-ending.was ∙ ap Ok w.in_default-2.is) w.turn.ensures.turns) in
          rw w.self-is (rw w.input-is (rw w.out-is (rw w.err-is (rw w.events-is (rw w.items-is (rw w.pc-is (
          record {
            gone = subst (λ (held : Held). HasGone took_both c.args.self.now told c.args.fuel (c.loop-made._made + 1) held told_next) (sym here)
                (went_on c.args.self.now now w.turn.new.self told told_now told_next c.args.fuel c.loop-made._made took took_step took_both
                join c.loop-made-test.true c.loop-made.invariant.gone steps_on);
            faults_input = search rules;
            faults_out = search rules;
            faults_err = search rules;
            faults_events = search rules;
            faults_items = search rules;
            input = g.met.I.Source.rest_joins _ _ _ c.loop-made.invariant.input w.turn.ensures.input;
            out = g.met.O.Sink.rest_joins _ _ _ c.loop-made.invariant.out w.turn.ensures.out;
            err = g.met.P.Sink.rest_joins _ _ _ c.loop-made.invariant.err w.turn.ensures.err;
            events = g.met.Q.Sink.rest_joins _ _ _ c.loop-made.invariant.events w.turn.ensures.events;
            items = g.met.K.Taker.rest_joins _ _ _ c.loop-made.invariant.items w.turn.ensures.items;
          })))))))
    ]

pub returns-in_err-give-clause-runs : goal.returns-in_err-give-clause-runs
returns-in_err-give-clause-runs g c =
    let told : Told = record { input = g.I.Source.told c.args.input.now; out = g.O.Sink.told c.args.out.now; err = g.P.Sink.told c.args.err.now; events = g.Q.Sink.told c.args.events.now } in
    let told_now : Told = record { input = g.I.Source.told c.loop-made.input; out = g.O.Sink.told c.loop-made.out; err = g.P.Sink.told c.loop-made.err; events = g.Q.Sink.told c.loop-made.events } in
    let took : List Item → Type 0 = g.K.Taker.took c.args.items.now c.loop-made.items in
    let took_step : List Item → Type 0 = g.K.Taker.took c.loop-made.items c.give.new.items in
    let took_both : List Item → Type 0 = g.K.Taker.took c.args.items.now c.give.new.items in
    let join : (first second : List Item) → took first → took_step second → took_both (first ++ second) = λ first second f h. g.met.K.Taker.took_both c.args.items.now c.loop-made.items c.give.new.items first second f h in
    let off = broken c.loop-made.pc c.loop-made.self c.quick.new.self c.in-Some.gone told_now took_step c.in-Some.ensures c.in_err-give.ensures.front in
    broke c.args.self.now (at c.loop-made.pc c.loop-made.self) c.quick.new.self told told_now told_now c.args.fuel c.loop-made._made took took_step took_both c.from_residual.result
    join c.from_residual.ensures.0 c.loop-made-test.true c.loop-made.invariant.gone off

pub returns-in_err-ending-clause-passes : goal.returns-in_err-ending-clause-passes
returns-in_err-ending-clause-passes g c =
    let told : Told = record { input = g.I.Source.told c.args.input.now; out = g.O.Sink.told c.args.out.now; err = g.P.Sink.told c.args.err.now; events = g.Q.Sink.told c.args.events.now } in
    let told_now : Told = record { input = g.I.Source.told c.loop-made.input; out = g.O.Sink.told c.loop-made.out; err = g.P.Sink.told c.loop-made.err; events = g.Q.Sink.told c.loop-made.events } in
    let told_next : Told = record { input = g.I.Source.told c.turn.new.input; out = g.O.Sink.told c.turn.new.out; err = g.P.Sink.told c.turn.new.err; events = g.Q.Sink.told c.turn.new.events } in
    pass_on told told_now told_next (c.loop-made.invariant.gone.passed, c.loop-made.invariant.gone.ports) c.turn.ensures.passes

pub returns-in_err-ending-clause-runs : goal.returns-in_err-ending-clause-runs
returns-in_err-ending-clause-runs g c =
    let told : Told = record { input = g.I.Source.told c.args.input.now; out = g.O.Sink.told c.args.out.now; err = g.P.Sink.told c.args.err.now; events = g.Q.Sink.told c.args.events.now } in
    let told_now : Told = record { input = g.I.Source.told c.loop-made.input; out = g.O.Sink.told c.loop-made.out; err = g.P.Sink.told c.loop-made.err; events = g.Q.Sink.told c.loop-made.events } in
    let told_next : Told = record { input = g.I.Source.told c.turn.new.input; out = g.O.Sink.told c.turn.new.out; err = g.P.Sink.told c.turn.new.err; events = g.Q.Sink.told c.turn.new.events } in
    let took : List Item → Type 0 = g.K.Taker.took c.args.items.now c.loop-made.items in
    let took_step : List Item → Type 0 = g.K.Taker.took c.loop-made.items c.turn.new.items in
    let took_both : List Item → Type 0 = g.K.Taker.took c.args.items.now c.turn.new.items in
    let join : (first second : List Item) → took first → took_step second → took_both (first ++ second) = λ first second f h. g.met.K.Taker.took_both c.args.items.now c.loop-made.items c.turn.new.items first second f h in
    let now : Held = at c.loop-made.pc c.loop-made.self in
    let seen : Held = at c.loop-made.pc (the_view c.self-in_default.inside) in
    let same : seen ≡ now = ap (at c.loop-made.pc) (c.self-in_default.view_is ∙ c.in_default.ensures) in
    let off = turns_at now seen c.turn.new.self told_now told_next took_step (Err c.in_err-ending.field-0.0) same (subst (λ r. Turns (steps seen) seen told_now took_step r c.turn.new.self told_next) c.in_err-ending.was c.turn.ensures.turns) in
    broke c.args.self.now now c.turn.new.self told told_now told_next c.args.fuel c.loop-made._made took took_step took_both c.from_residual-in_err-ending.result
    join c.from_residual-in_err-ending.ensures.0 c.loop-made-test.true c.loop-made.invariant.gone off

pub returns-in-Some-2-clause-runs : goal.returns-in-Some-2-clause-runs
returns-in-Some-2-clause-runs g c =
    let told : Told = record { input = g.I.Source.told c.args.input.now; out = g.O.Sink.told c.args.out.now; err = g.P.Sink.told c.args.err.now; events = g.Q.Sink.told c.args.events.now } in
    let told_now : Told = record { input = g.I.Source.told c.loop-made.input; out = g.O.Sink.told c.loop-made.out; err = g.P.Sink.told c.loop-made.err; events = g.Q.Sink.told c.loop-made.events } in
    let told_next : Told = record { input = g.I.Source.told c.turn.new.input; out = g.O.Sink.told c.turn.new.out; err = g.P.Sink.told c.turn.new.err; events = g.Q.Sink.told c.turn.new.events } in
    let took : List Item → Type 0 = g.K.Taker.took c.args.items.now c.loop-made.items in
    let took_step : List Item → Type 0 = g.K.Taker.took c.loop-made.items c.turn.new.items in
    let took_both : List Item → Type 0 = g.K.Taker.took c.args.items.now c.turn.new.items in
    let join : (first second : List Item) → took first → took_step second → took_both (first ++ second) = λ first second f h. g.met.K.Taker.took_both c.args.items.now c.loop-made.items c.turn.new.items first second f h in
    let now : Held = at c.loop-made.pc c.loop-made.self in
    let seen : Held = at c.loop-made.pc (the_view c.self-in_default.inside) in
    let same : seen ≡ now = ap (at c.loop-made.pc) (c.self-in_default.view_is ∙ c.in_default.ensures) in
    let off = turns_at now seen c.turn.new.self told_now told_next took_step (Ok (Some c.in-Some-2.ending)) same (subst (λ r. Turns (steps seen) seen told_now took_step r c.turn.new.self told_next) (c.in_ok-ending.was ∙ ap Ok c.in-Some-2.is) c.turn.ensures.turns) in
    ended c.args.self.now now c.turn.new.self told told_now told_next c.args.fuel c.loop-made._made took took_step took_both c.in-Some-2.ending
    join c.loop-made-test.true c.loop-made.invariant.gone off

pub returns-in-Some-2-clause-took : goal.returns-in-Some-2-clause-took
returns-in-Some-2-clause-took g c =
    let told : Told = record { input = g.I.Source.told c.args.input.now; out = g.O.Sink.told c.args.out.now; err = g.P.Sink.told c.args.err.now; events = g.Q.Sink.told c.args.events.now } in
    let told_now : Told = record { input = g.I.Source.told c.loop-made.input; out = g.O.Sink.told c.loop-made.out; err = g.P.Sink.told c.loop-made.err; events = g.Q.Sink.told c.loop-made.events } in
    let told_next : Told = record { input = g.I.Source.told c.turn.new.input; out = g.O.Sink.told c.turn.new.out; err = g.P.Sink.told c.turn.new.err; events = g.Q.Sink.told c.turn.new.events } in
    let took : List Item → Type 0 = g.K.Taker.took c.args.items.now c.loop-made.items in
    let took_step : List Item → Type 0 = g.K.Taker.took c.loop-made.items c.turn.new.items in
    let took_both : List Item → Type 0 = g.K.Taker.took c.args.items.now c.turn.new.items in
    let join : (first second : List Item) → took first → took_step second → took_both (first ++ second) = λ first second f h. g.met.K.Taker.took_both c.args.items.now c.loop-made.items c.turn.new.items first second f h in
    let seen : Held = at c.loop-made.pc (the_view c.self-in_default.inside) in
    let off = subst (λ r. Turns (steps seen) seen told_now took_step r c.turn.new.self told_next) (c.in_ok-ending.was ∙ ap Ok c.in-Some-2.is) c.turn.ensures.turns in (
      c.loop-made.invariant.gone.items ++ off.items,
      join c.loop-made.invariant.gone.items off.items c.loop-made.invariant.gone.taken off.taken,
    )

pub returns-clause-runs : goal.returns-clause-runs
returns-clause-runs g c =
    let told : Told = record { input = g.I.Source.told c.args.input.now; out = g.O.Sink.told c.args.out.now; err = g.P.Sink.told c.args.err.now; events = g.Q.Sink.told c.args.events.now } in
    let told_now : Told = record { input = g.I.Source.told c.loop-made.input; out = g.O.Sink.told c.loop-made.out; err = g.P.Sink.told c.loop-made.err; events = g.Q.Sink.told c.loop-made.events } in
    let took : List Item → Type 0 = g.K.Taker.took c.args.items.now c.loop-made.items in
    let all : c.loop-made._made ≡ c.args.fuel = omega arith in
    λ bytes tells.
    subst (λ (held : Held). Runs bytes c.args.fuel c.args.self.now told took (Ok Spent) held told_now) (sym (ap (at c.loop-made.pc) c.self-2.view_is))
    (spent c.args.self.now (at c.loop-made.pc c.loop-made.self) told told_now c.args.fuel c.loop-made._made took c.loop-made.invariant.gone all bytes tells)
