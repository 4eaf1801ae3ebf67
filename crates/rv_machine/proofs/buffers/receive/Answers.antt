use Rattle.std.proofs.Common.{◌+◌, ◌%◌, List, ℕ, refl, sym, ap, ◌∙◌, subst, arith}
use Rattle.ae_ports.specs.Content.{Consumes}
use Rattle.rv_memory.specs.Stretches.{memory_of}
use Rattle.rv_memory.specs.Memory.{span, first_shut}
use Rattle.rv_machine.proofs.Received.{none_received, still_free, more_received, received_full, filled}
use Rattle.rv_machine.proofs.buffers.receive.Goals as goal

pub loop-got-init : goal.loop-got-init
loop-got-init g c = record {
  code = refl;
  received = none_received (g.I.Source.told c.args.input.now) (memory_of c.args.loaded.now.memory) c.args.address c.args.count;
  outline = refl;
  size = refl;
  same = refl;
  rest = g.met.I.Source.rest_stays _;
}

pub put-requires : goal.put-requires
put-requires g c =
    let piece = filled c.loop-got.piece c.read.new.buf c.min-room.result c.in_ok-more.more c.args.count c.loop-got.got c.loop-got.invariant.size
    c.loop-got.invariant.received.within c.min-room.ensures c.read.auto.buf c.in_ok-more.ensures.within in
    ap (λ n. first_shut (memory_of c.loop-got.loaded.memory) (span ((c.args.address + c.loop-got.got) % 4294967296) n)) piece.long
    ∙ still_free _ _ _ _ _ _ _ (omega arith) c.loop-got.invariant.received c.in_ok-more.more piece.within c.requires

pub loop-got-preserved : goal.loop-got-preserved
loop-got-preserved g c =
    let piece = filled c.loop-got.piece c.read.new.buf c.min-room.result c.in_ok-more.more c.args.count c.loop-got.got c.loop-got.invariant.size
    c.loop-got.invariant.received.within c.min-room.ensures c.read.auto.buf c.in_ok-more.ensures.within in
    record {
      code = c.put.ensures.code ∙ c.loop-got.invariant.code;
      received =
          more_received _ _ _ _ _ _ _ (omega arith) c.loop-got.invariant.received _ _ c.in_ok-more.more _ piece.long piece.within
          (subst (λ (xs : List ℕ). Consumes (g.I.Source.told c.loop-got.input) (g.I.Source.told c.read.new.self) xs) (sym piece.front) c.in_ok-more.ensures.content.0)
          c.put.ensures.put;
      outline = c.put.ensures.outline ∙ c.loop-got.invariant.outline;
      size = piece.size;
      same = c.in_ok-more.ensures.cause.same ∙ c.loop-got.invariant.same;
      rest = g.met.I.Source.rest_joins _ _ _ c.loop-got.invariant.rest c.read.ensures.rest;
    }

pub returns-clause-received : goal.returns-clause-received
returns-clause-received g c = received_full _ _ _ _ _ _ _ c.loop-got.invariant.received c.loop-got-test.false
