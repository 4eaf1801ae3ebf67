use Rattle.std.proofs.Common.{◌≡◌, ℕ, List, ap, sym, subst, rules}
use Rattle.ae_ports.proofs.LawsOfFaults.{OnErr-always}
use Rattle.regen_path.specs.declared.arcs.Ways.{Ways}
use Rattle.regen_path.specs.Arcs.{HasArc}
use Rattle.regen_path.specs.Walks.{IsWalk}
use Rattle.regen_walk.specs.declared.position.Position.TheVariants.{Before}
use Rattle.regen_walk.specs.Inner.Going.{GoesAlong}
use Rattle.regen_walk.specs.Promises.{IsBrokenOff}
use Rattle.regen_walk.specs.Walks.{behind_items}
use Rattle.regen_walk.specs.WalkView.{WalkParts}
use Rattle.regen_walk.proofs.GoneAndTold.{broken_going, broken_telling, tells_so}
use Rattle.regen_walk.proofs.walk.Walk.go_and_tell.Goals as goal

pub returns-in_err-go-clause-front : goal.returns-in_err-go-clause-front
returns-in_err-go-clause-front g c =
    let to = c.requires.goal in
    let ways : c.self.inside.paths ≡ c.args.self.now.ways = ap (λ (parts : WalkParts). parts.ways) c.self.view_is in
    let registers : c.self.inside.registers ≡ c.args.self.now.registers = ap (λ (parts : WalkParts). parts.registers) c.self.view_is in
    let walks = subst (λ (table : List Ways). IsWalk (HasArc table) c.args.from.place c.args.goal.place to.walk) (sym ways) to.walks in
    let went = c.in_err-go.ensures.front to.walk walks in
    let goes : GoesAlong c.args.schema.now to.walk c.args.from.address c.args.goal.address c.args.self.now.registers went.1 went.0 =
    subst (λ (before : List ℕ). GoesAlong c.args.schema.now to.walk c.args.from.address c.args.goal.address before went.1 went.0) registers went.2
    in
    let broken : IsBrokenOff c.args.schema.now (Before c.args.from.address) c.args.self.now c.args.rec.now (g.K.Taker.took c.args.items.now c.go.new.items) =
    broken_going c.args.schema.now to.walk c.args.from.address c.args.goal.address went.1 went.0 c.args.rec.now c.args.self.now (g.K.Taker.took c.args.items.now c.go.new.items) goes
    (to.may went.1 went.0 goes) went.3
    in
    OnErr-always _ _ broken

pub returns-in_err-self-inside-clause-front : goal.returns-in_err-self-inside-clause-front
returns-in_err-self-inside-clause-front g c =
    let to = c.requires.goal in
    let ways : c.self.inside.paths ≡ c.args.self.now.ways = ap (λ (parts : WalkParts). parts.ways) c.self.view_is in
    let registers : c.self.inside.registers ≡ c.args.self.now.registers = ap (λ (parts : WalkParts). parts.registers) c.self.view_is in
    let walks = subst (λ (table : List Ways). IsWalk (HasArc table) c.args.from.place c.args.goal.place to.walk) (sym ways) to.walks in
    let went = c.in_ok-go.ensures.all to.walk walks in
    let goes : GoesAlong c.args.schema.now to.walk c.args.from.address c.args.goal.address c.args.self.now.registers c.go.new.registers went.0 =
    subst (λ (before : List ℕ). GoesAlong c.args.schema.now to.walk c.args.from.address c.args.goal.address before c.go.new.registers went.0) registers went.1
    in
    let broken : IsBrokenOff c.args.schema.now (Before c.args.from.address) c.args.self.now c.args.rec.now (g.K.Taker.took c.args.items.now c.tell.new.items) =
    broken_telling c.args.schema.now to.walk c.args.from.address c.args.goal.address c.go.new.registers went.0 c.args.rec.now c.args.self.now (g.K.Taker.took c.args.items.now c.tell.new.items)
    (g.K.Taker.took c.go.new.items c.tell.new.items) goes c.in_err-self-inside.ensures.front (λ more took. g.met.K.Taker.took_both c.args.items.now c.go.new.items c.tell.new.items went.0 more went.2 took)
    in
    OnErr-always _ _ broken

pub returns-clause-all : goal.returns-clause-all
returns-clause-all g c =
    let to = c.requires.goal in
    let ways : c.self.inside.paths ≡ c.args.self.now.ways = ap (λ (parts : WalkParts). parts.ways) c.self.view_is in
    let registers : c.self.inside.registers ≡ c.args.self.now.registers = ap (λ (parts : WalkParts). parts.registers) c.self.view_is in
    let walks = subst (λ (table : List Ways). IsWalk (HasArc table) c.args.from.place c.args.goal.place to.walk) (sym ways) to.walks in
    let went = c.in_ok-go.ensures.all to.walk walks in
    let goes : GoesAlong c.args.schema.now to.walk c.args.from.address c.args.goal.address c.args.self.now.registers c.go.new.registers went.0 =
    subst (λ (before : List ℕ). GoesAlong c.args.schema.now to.walk c.args.from.address c.args.goal.address before c.go.new.registers went.0) registers went.1
    in
    let told = c.in_ok-self-inside.ensures.all in (
      behind_items went.0 told.moved,
      tells_so c.args.schema.now to.walk c.args.from.address c.args.goal.address c.go.new.registers went.0 c.args.rec.now c.args.self.now.registers told.moved goes told.made,
      record {
        given = g.met.K.Taker.took_both c.args.items.now c.go.new.items c.tell.new.items went.0 told.moved.items went.2 told.given;
        position = told.position;
        registers = told.registers;
      },
    )

pub returns-clause-over : goal.returns-clause-over
returns-clause-over g c = record { ways = search rules; decoded = search rules; placed = search rules; registers = c.tell.ensures.size; valid = search rules }
