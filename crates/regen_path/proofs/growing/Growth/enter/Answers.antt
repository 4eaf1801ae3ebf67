use Rattle.std.proofs.Common.{◌≡◌, ◌<◌, ℕ, None, length, subst, rules, arith}
use Rattle.std.proofs.lemmas.Option.{slice_get_within}
use Rattle.regen_path.specs.Inner.Growing.{WaitMore}
use Rattle.regen_path.proofs.Waiting.{wait_on, waits_still, near_waits}
use Rattle.regen_path.proofs.growing.Growth.enter.Goals as goal

pub overflow_cast-number : goal.overflow_cast-number
overflow_cast-number c = omega (arith, c.requires.left, c.requires.ground.fit)

pub index_mut-requires : goal.index_mut-requires
index_mut-requires c =
    let inside : c.args.visit.node < length c.args.self.now.numbers.items = slice_get_within c.args.self.now.numbers.items c.args.visit.node None c.requires.fresh in
    search rules

pub wait_ahead-requires : goal.wait_ahead-requires
wait_ahead-requires c = omega (arith, slice_get_within c.args.self.now.numbers.items c.args.visit.node None c.requires.fresh, c.requires.long)

pub wait_behind-requires-clause-within : goal.wait_behind-requires-clause-within
wait_behind-requires-clause-within c = omega (arith, slice_get_within c.args.self.now.numbers.items c.args.visit.node None c.requires.fresh, c.requires.long)

pub wait_behind-requires-2-clause-within : goal.wait_behind-requires-2-clause-within
wait_behind-requires-2-clause-within c = omega (arith, slice_get_within c.args.self.now.numbers.items c.args.visit.node None c.requires.fresh, c.requires.long)

pub returns : goal.returns
returns c =
    let table = c.args.ground.now.ways.items in
    let old = c.args.self.now.waiting.items in
    let one = c.wait_ahead.new.waiting.items in
    let two = c.wait_behind.new.waiting.items in
    let three = c.wait_behind-2.new.waiting.items in
    let number : c.len-number.result ≡ length c.args.self.now.visits.items = search rules in
    record {
      visits = c.in_ok-push.ensures.items;
      numbers = search rules;
      waits =
          subst (λ (n : ℕ). WaitMore table c.args.visit.node n old three) number
          (wait_on old two three (wait_on old one two c.in_ok-wait_ahead.ensures.more c.in_ok-wait_behind.ensures.more) c.in_ok-wait_behind-2.ensures.more);
      all =
          near_waits table c.args.visit.node one two three c.in_ok-wait_ahead.ensures.all c.in_ok-wait_behind.ensures.all c.in_ok-wait_behind-2.ensures.all
          (waits_still one two c.in_ok-wait_behind.ensures.more) (waits_still two three c.in_ok-wait_behind-2.ensures.more);
      few = omega (arith, c.in_ok-wait_ahead.ensures.few, c.in_ok-wait_behind.ensures.few, c.in_ok-wait_behind-2.ensures.few);
    }
