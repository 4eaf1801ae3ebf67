use Rattle.std.proofs.Common.{◌≡◌, [], ◌∷◌, ◌∙◌}
use Rattle.by_hand.proofs.TablesFile.{symbols_with, arm_text, tables_file}
use Rattle.by_hand.proofs.written.write_tables.Goals as goal

pub write_raw-requires : goal.write_raw-requires
write_raw-requires c =
    let symbols : c.from_vec-3.result ≡ symbols_with [] arm_text [] =
    c.from_vec-3.ensures
    ∙ c.in_ok-vec-3.ensures.items
    ∙ (λ i. c.symbol-none.ensures i ∷ c.symbol-arm.ensures i ∷ c.symbol-leg.ensures i ∷ [])
    ∙ (λ i. symbols_with (c.new.ensures.items i) (c.in_ok-vec.ensures.items i) (c.new-2.ensures.items i)) in
    tables_file c.from_vec.result c.from_vec-2.result c.from_vec-3.result c.from_vec-4.result c.from_vec-5.result c.from_vec-6.result
    (c.from_vec.ensures ∙ c.new-3.ensures.items) (c.from_vec-2.ensures ∙ c.in_ok-vec-2.ensures.items) symbols
    (c.from_vec-4.ensures ∙ c.in_ok-vec-4.ensures.items) (c.from_vec-5.ensures ∙ c.in_ok-symbols.ensures.items) (c.from_vec-6.ensures ∙ c.in_ok-relocations.ensures.items)
