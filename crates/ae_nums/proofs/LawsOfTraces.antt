-- Laws of the text of a trace. They have no code, and proofs of every crate may cite them.
use Rattle.std.proofs.Common.{ℕ, List, take, drop, Option, sym, ap, ◌∙◌, subst, take-append-drop}
use Rattle.std.proofs.lemmas.Grind.{flat_map-append}
use Rattle.ae_ports.specs.Content.{AppendsFront}
use Rattle.ae_ports.proofs.LawsOfContent.{AppendsFront-more}
use Rattle.ae_nums.specs.declared.item.Item.{Item}
use Rattle.ae_nums.specs.Trace.{line_of, trace_text}

-- a front of the lines of the first of some items is one of the lines of all
pub AppendsFront-items : (before now : Option (List ℕ)) (items : List Item) (count : ℕ) → AppendsFront before now (trace_text (take count items)) → AppendsFront before now (trace_text items)
AppendsFront-items before now items count front =
    let split = sym (flat_map-append line_of (take count items) (drop count items)) ∙ ap trace_text (take-append-drop count items) in
    subst (AppendsFront before now) split (AppendsFront-more before now (trace_text (take count items)) (trace_text (drop count items)) front)
