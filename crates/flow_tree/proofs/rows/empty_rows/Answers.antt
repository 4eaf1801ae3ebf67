use Rattle.std.proofs.Common.{◌≡◌, ℕ, ◌∷◌, [], List, length, sym, ap, ◌∙◌, subst, arith, length-append}
use Rattle.std.specs.declared.alloc.Global.{Global}
use Rattle.std.specs.declared.vec.Vec.{Vec}
use Rattle.flow_tree.specs.Inner.Growing.{row_of}
use Rattle.flow_tree.proofs.RowsMade.{no_rows_empty, one_empty_more}
use Rattle.flow_tree.proofs.rows.empty_rows.Goals as goal

pub loop-init : goal.loop-init
loop-init c = record {
  count = ap (length {A = Vec ℕ Global}) c.in_ok-rows.ensures.items;
  empty = λ block. subst (λ (rows : List (Vec ℕ Global)). row_of rows block ≡ []) (sym c.in_ok-rows.ensures.items) (no_rows_empty block);
}

pub loop-preserved : goal.loop-preserved
loop-preserved c = record {
  count = ap (length {A = Vec ℕ Global}) c.in_ok-push.ensures.items ∙ (let longer = length-append c.loop.rows.items (c.new.result ∷ []) in omega (arith, longer, c.loop.invariant.count));
  empty = λ block. subst (λ (rows : List (Vec ℕ Global)). row_of rows block ≡ []) (sym c.in_ok-push.ensures.items) (one_empty_more c.loop.rows.items c.new.result c.new.ensures.items c.loop.invariant.empty block);
}
