use Rattle.std.proofs.Common.{◌≡◌, ℕ, ◌+◌, List, get_or, slice_index_or, Ok, refl, sym, ap, ◌∙◌, arith}
use Rattle.std.proofs.lemmas.Option.{unwrap_or-slice_get}
use Rattle.flow_graph.specs.declared.block.Block.{Block}
use Rattle.flow_graph.specs.CodeParts.{CodeParts}
use Rattle.flow_tree.specs.Depth.{depth_of, depths_of}
use Rattle.ae_print.specs.GraphText.{block_line}
use Rattle.ae_print.specs.Numbered.{numbered_lines}
use Rattle.ae_nums.proofs.LawsOfWriters.{Puts-none, Puts-both, Puts-front, Puts-same}
use Rattle.ae_print.proofs.Rows.{lines_before, lines_behind, one_more, all_before, before_behind}
use Rattle.ae_print.proofs.block_lines.write_blocks.Goals as goal

abbrev line_by : CodeParts → ℕ → Block → List ℕ
line_by parts number block = block_line (depth_of parts number) block

-- the depth that was read is that of the block with this number
read_depth : (parts : CodeParts) (depths : List ℕ) (number : ℕ) → depths ≡ depths_of parts → slice_index_or depths number 0 ≡ depth_of parts number
read_depth parts depths number is = ap (λ (depths : List ℕ). slice_index_or depths number 0) is ∙ sym (unwrap_or-slice_get (depths_of parts) number 0)

pub returns-in_err-write : goal.returns-in_err-write
returns-in_err-write g c =
    let line_of = line_by c.args.graph.now in
    let items = c.blocks-block-items.result.now in
    let number = c.loop-number.number in
    let none : Block = record { leader = 0; last = 0 } in
    let block : Block = get_or items number none in
    let here = c.bytes.ensures.same ∙ c.line_of_block.ensures ∙ ap (λ (depth : ℕ). block_line depth block) (read_depth c.args.graph.now c.args.depths.now number c.requires) in
    let both = Puts-both g.met.K.Sink.rest_joins _ _ _ (lines_before line_of items number) (line_of number block) _ _ (Ok tt) _ c.loop-number.invariant refl c.write.ensures.puts here in
    let front = Puts-front _ _ (lines_before line_of items (number + 1)) (lines_behind line_of items (number + 1)) _ _ c.from_residual.result
    c.in_err-write.ensures.puts.broken both (one_more line_of items number none c.loop-number-test.true) in
    Puts-same _ _ _ _ _ front (before_behind line_of items (number + 1) ∙ ap (numbered_lines line_of) c.blocks-block-items.ensures)

pub loop-number-preserved : goal.loop-number-preserved
loop-number-preserved g c =
    let line_of = line_by c.args.graph.now in
    let items = c.blocks-block-items.result.now in
    let number = c.loop-number.number in
    let none : Block = record { leader = 0; last = 0 } in
    let block : Block = get_or items number none in
    let here = c.bytes.ensures.same ∙ c.line_of_block.ensures ∙ ap (λ (depth : ℕ). block_line depth block) (read_depth c.args.graph.now c.args.depths.now number c.requires) in
    let both = Puts-both g.met.K.Sink.rest_joins _ _ _ (lines_before line_of items number) (line_of number block) _ _ (Ok tt) (Ok tt) c.loop-number.invariant refl c.in_ok-write.ensures.puts here in
    Puts-same _ _ _ _ (Ok tt) both (one_more line_of items number none c.loop-number-test.true)

pub returns : goal.returns
returns g c =
    let line_of = line_by c.args.graph.now in
    Puts-same _ _ _ _ _ c.loop-number.invariant (all_before line_of c.blocks-block-items.result.now c.loop-number.number (omega arith) ∙ ap (numbered_lines line_of) c.blocks-block-items.ensures)

pub loop-number-init : goal.loop-number-init
loop-number-init g c = Puts-none _ (g.met.K.Sink.rest_stays _)
