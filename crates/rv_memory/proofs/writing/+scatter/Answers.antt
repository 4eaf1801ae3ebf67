use Rattle.std.proofs.Common.{ℕ, ◌+◌, ◌-◌, ◌%◌, List, ap, ◌∙◌, arith}
use Rattle.rv_code.specs.Numbers.{wrap}
use Rattle.rv_memory.specs.Stretches.{cells_in}
use Rattle.rv_memory.specs.Memory.{Cell, span, first_shut}
use Rattle.rv_memory.proofs.LawsOfCells.{shut_kept}
use Rattle.rv_memory.proofs.WrittenBytes.{order_kept, shut_rest}
use Rattle.rv_memory.proofs.writing.+scatter.Goals as goal

pub scatter-requires : goal.scatter-requires
scatter-requires t c =
    let memory : List Cell = cells_in c.args.stretches.now in
    let more : List ℕ = span (wrap (c.args.address + 1)) (c.args.count - 1) in (
      omega arith,
      (
        order_kept c.args.stretches.now c.put_byte.new.stretches c.put_byte.ensures.outline c.requires.order,
        ap (λ m. first_shut m more) c.put_byte.ensures.put ∙ (shut_kept c.args.address (c.args.value % 256) memory more ∙ shut_rest memory c.args.address c.args.count (omega arith) c.requires.free),
      ),
    )
