use Rattle.std.proofs.Common.{◌≡◌, ℕ, ◌-◌, List, length, take, drop, ap, ◌∙◌, arith}
use Rattle.std.proofs.lemmas.List.{length-drop, take_rest}
use Rattle.rv_memory.specs.Stretches.{MappedStretch, cells_in}
use Rattle.rv_memory.proofs.WrittenBytes.{order_kept}
use Rattle.rv_memory.proofs.RunBytes.{run_then, run_free}
use Rattle.rv_memory.proofs.writing.+store_all.Goals as goal

pub store_all-requires : goal.store_all-requires
store_all-requires t c =
    let stretches : List MappedStretch = c.args.stretches.now in
    let next : List MappedStretch = c.store_some-count.new.stretches in
    let count = c.store_some-count.result in
    let bytes : List ℕ = c.args.bytes.now in
    let left : length (take (length bytes - count) (drop count bytes)) ≡ length bytes - count = ap (λ (xs : List ℕ). length xs) (take_rest bytes count) ∙ length-drop count bytes in (
      omega (arith, left, c.store_some-count.ensures.some, c.store_some-count.ensures.few),
      (
        order_kept stretches next c.store_some-count.ensures.outline c.requires.order,
        run_free (cells_in stretches) (cells_in next) c.args.address count bytes (omega arith) c.store_some-count.ensures.few c.store_some-count.ensures.put c.requires.free,
      ),
    )

pub returns-clause-put : goal.returns-clause-put
returns-clause-put t c =
    c.store_all.ensures.put
    ∙ run_then (cells_in c.args.stretches.now) (cells_in c.store_some-count.new.stretches) c.args.address c.store_some-count.result c.args.bytes.now (omega arith)
    c.store_some-count.ensures.few c.store_some-count.ensures.put
