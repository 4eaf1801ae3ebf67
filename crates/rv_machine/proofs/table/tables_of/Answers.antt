use Rattle.std.proofs.Common.{◌*◌, ◌/◌, List, get_or, sym, ap, ◌∙◌, subst, arith, Vec, Global}
use Rattle.std.specs.Prelude.{All}
use Rattle.rv_code.specs.declared.extent.Extent.{Extent}
use Rattle.rv_memory.specs.Stretches.{memory_of}
use Rattle.rv_machine.specs.declared.table.Table.{Table}
use Rattle.rv_machine.specs.Inner.Decoded.{IsTable}
use Rattle.rv_machine.proofs.Fixed.{among, fixed_front, tables_more}
use Rattle.rv_machine.proofs.table.tables_of.Goals as goal
use Rattle.rv_machine.proofs.table.tables_of.Goals.{then-count-gt0+in_ok-table_of+in_ok-push, else-count-gt0}

pub table_of-requires : goal.table_of-requires
table_of-requires c =
    let extent : Extent = get_or c.args.code.now c.loop-extent.extent-index (record { start = 0; count = 0 }) in
    fixed_front (memory_of c.args.memory.now) extent.start (4 * (c.fixed_from-count.result / 4)) c.fixed_from-count.result (omega arith) c.fixed_from-count.ensures.fixed

pub loop-extent-preserved : goal.loop-extent-preserved
loop-extent-preserved c = elim c.if-count-gt0.branch [
  | then-count-gt0+in_ok-table_of+in_ok-push w ↦
      subst (λ (tables : List Table). All (λ one. IsTable c.args.code.now (memory_of c.args.memory.now) one) tables) (sym (ap (λ (v : Vec Table Global). v.items) w.tables-is ∙ w.in_ok-push.ensures.items))
      (tables_more c.args.code.now (memory_of c.args.memory.now) c.loop-extent.tables.items w.in_ok-table_of.field-0 c.loop-extent.invariant
      (w.in_ok-table_of.ensures c.args.code.now (among c.args.code.now c.loop-extent.extent-index (record { start = 0; count = 0 }) c.loop-extent-test.true)))
  | else-count-gt0 w ↦
      subst (λ (v : Vec Table Global). All (λ one. IsTable c.args.code.now (memory_of c.args.memory.now) one) v.items) (sym w.tables-is) c.loop-extent.invariant
]
