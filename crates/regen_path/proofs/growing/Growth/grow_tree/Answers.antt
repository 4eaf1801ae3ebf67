-- A root is visited, and then what waits.
use Rattle.std.proofs.Common.{◌≡◌, ◌<◌, rules, ◌∷◌, [], List, length, refl, sym, ◌∙◌, subst, ap, arith, length-append}
use Rattle.regen_path.specs.declared.growing.Visit.{Visit}
use Rattle.regen_path.specs.Inner.Growing.{AreGrowing}
use Rattle.regen_path.proofs.Grown.{numbers_kept, whole_on, whole_given, no_number_of, some_number_of}
use Rattle.regen_path.proofs.growing.Growth.grow_tree.Goals as goal

pub index-requires : goal.index-requires
index-requires c =
    let inside : c.args.root < length c.args.self.now.numbers.items = omega (arith, c.requires.within, c.requires.whole.1.numbered.long) in
    search rules

pub returns-then-is_some-clause-root : goal.returns-then-is_some-clause-root
returns-then-is_some-clause-root c =
    some_number_of c.args.self.now.numbers.items c.args.root c.index.result.now (omega (arith, c.requires.within, c.requires.whole.1.numbered.long)) c.index.ensures (sym c.is_some.ensures ∙ c.if-is_some.true)

pub returns-then-is_some-clause-kept : goal.returns-then-is_some-clause-kept
returns-then-is_some-clause-kept c = λ node number is. is

pub enter-requires-clause-left : goal.enter-requires-clause-left
enter-requires-clause-left c = c.requires.whole.1.numbered.left

pub enter-requires-clause-long : goal.enter-requires-clause-long
enter-requires-clause-long c = c.requires.whole.1.numbered.long

pub enter-requires-clause-fresh : goal.enter-requires-clause-fresh
enter-requires-clause-fresh c =
    no_number_of c.args.self.now.numbers.items c.args.root c.index.result.now (omega (arith, c.requires.within, c.requires.whole.1.numbered.long)) c.index.ensures (sym c.is_some.ensures ∙ c.if-is_some.false)

pub loop-visit-init : goal.loop-visit-init
loop-visit-init c =
    let fresh = no_number_of c.args.self.now.numbers.items c.args.root c.index.result.now (omega (arith, c.requires.within, c.requires.whole.1.numbered.long)) c.index.ensures (sym c.is_some.ensures ∙ c.if-is_some.false) in
    record {
      growing = whole_on c.args.ground.now.ways.items c.args.self.now _ c.requires.whole c.enter.new.self c.requires.ground.within refl fresh c.in_ok-enter.ensures;
      root = whole_given c.args.ground.now.ways.items c.args.self.now _ c.requires.whole c.enter.new.self fresh c.in_ok-enter.ensures;
      kept = numbers_kept c.args.ground.now.ways.items c.args.self.now c.enter.new.self _ fresh c.in_ok-enter.ensures c.requires.whole.1.numbered;
    }

pub visit-requires-clause-waited : goal.visit-requires-clause-waited
visit-requires-clause-waited c =
    let growing = c.loop-visit.invariant.growing in
    (growing.0, subst (λ (list : List Visit). AreGrowing c.args.ground.now.ways.items c.loop-visit.self.visits.items c.loop-visit.self.numbers.items list growing.0) c.in-Some.ensures.items growing.1)

pub loop-visit-preserved : goal.loop-visit-preserved
loop-visit-preserved c = record {
  growing = c.in_ok-visit.ensures.growing;
  root = (c.loop-visit.invariant.root.0, c.in_ok-visit.ensures.kept c.args.root c.loop-visit.invariant.root.0 c.loop-visit.invariant.root.1);
  kept = λ node number is. c.in_ok-visit.ensures.kept node number (c.loop-visit.invariant.kept node number is);
}

pub loop-visit-smaller : goal.loop-visit-smaller
loop-visit-smaller c = omega (arith, c.in_ok-visit.ensures.less, ap length c.in-Some.ensures.items, length-append c.pop.new.self.items (c.in-Some.visit ∷ []))

pub returns-clause-whole : goal.returns-clause-whole
returns-clause-whole c =
    let growing = c.loop-visit.invariant.growing in
    let was : c.loop-visit.self.waiting.items ≡ [] = search rules in
    let none : c.pop.new.self.items ≡ [] = search rules in
    (growing.0, subst (λ (list : List Visit). AreGrowing c.args.ground.now.ways.items c.loop-visit.self.visits.items c.loop-visit.self.numbers.items list growing.0) was growing.1, none)

pub returns-clause-root : goal.returns-clause-root
returns-clause-root c = c.loop-visit.invariant.root

pub returns-clause-kept : goal.returns-clause-kept
returns-clause-kept c = c.loop-visit.invariant.kept
