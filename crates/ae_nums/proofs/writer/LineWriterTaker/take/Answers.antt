use Rattle.std.proofs.Common.{◌≡◌, ℕ, ◌+◌, ◌<◌, List, [], ◌∷◌, ◌++◌, Result, Ok, Err, inl, sym, ap, ◌∙◌, subst}
use Rattle.std.specs.Prelude.{OnOk, OnErr}
use Rattle.std.proofs.lemmas.Fmt.{decimal_digit}
use Rattle.ae_ports.specs.declared.failed.Failed.{Failed}
use Rattle.ae_nums.specs.declared.item.Item.{Item}
use Rattle.ae_nums.specs.declared.item.Item.TheVariants.{Read, Write}
use Rattle.ae_nums.specs.Decimal.{decimal_text}
use Rattle.ae_nums.specs.Hex.{hex8_text}
use Rattle.ae_nums.specs.Taken.{TakesItem}
use Rattle.ae_nums.specs.Trace.{trace_text}
use Rattle.ae_nums.specs.Writer.{Wrote}
use Rattle.ae_nums.proofs.writer.LineWriterTaker.take.Goals as goal

takes_line : (wrote : List ℕ → Type 0) (item : Item) (text : List ℕ) (result : Result Unit Failed)
    → OnOk result (wrote text) → OnErr result (wrote []) → text ≡ trace_text (item ∷ []) → TakesItem (λ items. wrote (trace_text items)) item result
takes_line wrote item text (Ok done) ok err is = subst wrote is ok
takes_line wrote item text (Err failed) ok err is = inl err

-- a size of one digit
line_is : (mark address size : ℕ) → size < 10
    → mark ∷ 32 ∷ (hex8_text address ++ 32 ∷ (48 + size) ∷ 10 ∷ []) ≡ mark ∷ 32 ∷ (hex8_text address ++ 32 ∷ ((decimal_text size ++ 10 ∷ []) ++ []))
line_is mark address size small =
    ap (λ (digits : List ℕ). mark ∷ 32 ∷ (hex8_text address ++ 32 ∷ ((digits ++ 10 ∷ []) ++ []))) (sym (decimal_digit size small))

pub returns-in-Read-clause-content : goal.returns-in-Read-clause-content
returns-in-Read-clause-content g c =
    let wrote : List ℕ → Type 0 = λ text. Wrote g.K.Sink.told g.K.Sink.faults c.args.self.now c.gather-in-Read.new.self text in
    subst (λ (item : Item). TakesItem (λ items. wrote (trace_text items)) item c.gather-in-Read.result) (sym c.in-Read.is)
    (takes_line wrote (Read c.in-Read.address c.in-Read.size) c.access_line.result c.gather-in-Read.result c.gather-in-Read.ensures.ok c.gather-in-Read.ensures.err
    (c.access_line.ensures ∙ line_is 82 c.in-Read.address c.in-Read.size c.if-size-lt10.true))

pub returns-in-Write-clause-content : goal.returns-in-Write-clause-content
returns-in-Write-clause-content g c =
    let wrote : List ℕ → Type 0 = λ text. Wrote g.K.Sink.told g.K.Sink.faults c.args.self.now c.gather-in-Write.new.self text in
    subst (λ (item : Item). TakesItem (λ items. wrote (trace_text items)) item c.gather-in-Write.result) (sym c.in-Write.is)
    (takes_line wrote (Write c.in-Write.address c.in-Write.size) c.access_line-in-Write.result c.gather-in-Write.result c.gather-in-Write.ensures.ok c.gather-in-Write.ensures.err
    (c.access_line-in-Write.ensures ∙ line_is 87 c.in-Write.address c.in-Write.size c.if-size-lt10-2.true))
