use Rattle.std.proofs.Common.{ℕ, ◌≡◌, [], List, length, ap, sym, subst, arith}
use Rattle.std.specs.declared.alloc.Global.{Global}
use Rattle.std.specs.declared.vec.Vec.{Vec}
use Rattle.flow_tree.specs.Inner.Growing.{row_of, AreRows}
use Rattle.flow_tree.proofs.RowsMade.{all_put, none_yet, written_back}
use Rattle.flow_tree.proofs.rows.rows_of.Goals as goal

pub put_edges-requires-clause-blocks : goal.put_edges-requires-clause-blocks
put_edges-requires-clause-blocks c = λ edge one other joined. let within = c.requires.blocks edge one other joined in omega (arith, within, c.in_ok-rows.ensures.count, c.deref_mut.ensures)

pub returns-clause-rows : goal.returns-clause-rows
returns-clause-rows c =
    let empty = λ (block : ℕ). subst (λ (rows : List (Vec ℕ Global)). row_of rows block ≡ []) (sym c.deref_mut.ensures.value) (c.in_ok-rows.ensures.empty block) in
    let len : c.in_ok-rows.rows.len ≡ length c.in_ok-rows.rows.items = omega (arith, c.deref_mut.ensures.len) in
    let same : length c.put_edges.new.rows ≡ length c.in_ok-rows.rows.items = omega (arith, c.put_edges.auto.rows, ap (length {A = Vec ℕ Global}) c.deref_mut.ensures.value) in
    subst (AreRows c.args.edges.now) (sym (written_back c.in_ok-rows.rows.items c.put_edges.new.rows c.in_ok-rows.rows.len len same))
    (all_put c.args.edges.now c.put_edges.new.rows (c.in_ok-put_edges.ensures (none_yet c.args.edges.now c.deref_mut.result.now empty)))
