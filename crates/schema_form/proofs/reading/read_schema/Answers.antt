use Rattle.std.proofs.Common.{◌≡◌, ℕ, ◌<◌, List, None, get_or, sym, ap, ◌∙◌, subst, arith}
use Rattle.std.proofs.lemmas.Option.{MatchOption-at_some, MatchOption-at_none}
use Rattle.rv_code.specs.declared.extent.Extent.{Extent}
use Rattle.flow_graph.specs.declared.edge.Edge.{Edge}
use Rattle.schema_form.specs.declared.word.SchemaWord.{SchemaWord}
use Rattle.schema_form.specs.FreeEdges.{free_edges, HaveNoCycle, NamesFirstToClose}
use Rattle.schema_form.specs.Layout.{stretch_count, stretch_offset, schema_words_from, words_total}
use Rattle.schema_form.specs.Refusal.{body_refusal}
use Rattle.schema_form.specs.Valid.{AreSchemaWords}
use Rattle.schema_form.proofs.ReadParts.{words_allowed, refused_edges, spelled, is_schema}
use Rattle.schema_form.proofs.reading.read_schema.Goals as goal

pub first_cycle-requires-clause-words : goal.first_cycle-requires-clause-words
first_cycle-requires-clause-words c =
    let bytes = c.args.bytes.now in
    let stretches = c.in_ok-stretches.stretches.items in
    let words = c.in_ok-words.words.items in
    let first = stretch_offset (stretch_count bytes) in
    let small : (i : ℕ) → get_or bytes i 0 < 256 = λ i. omega (arith, c.type_inv.bytes i) in
    let none = subst (λ (list : List Extent). body_refusal bytes list first ≡ None) c.deref.ensures.value c.in_ok-words.ensures.taken in
    let read = c.in_ok-words.ensures.read ∙ ap (λ (list : List Extent). schema_words_from bytes first (words_total list)) c.deref.ensures.value in
    subst (λ (list : List Extent). AreSchemaWords list c.deref-3.result.now) (sym c.deref-2.ensures.value)
    (subst (λ (list : List SchemaWord). AreSchemaWords stretches list) (sym c.deref-3.ensures.value) (words_allowed bytes stretches c.in_ok-stretches.ensures.read words none read small))

pub returns-in-Some-clause-refused : goal.returns-in-Some-clause-refused
returns-in-Some-clause-refused c = λ differ.
    let bytes = c.args.bytes.now in
    let stretches = c.in_ok-stretches.stretches.items in
    let words = c.in_ok-words.words.items in
    let first = stretch_offset (stretch_count bytes) in
    let none = subst (λ (list : List Extent). body_refusal bytes list first ≡ None) c.deref.ensures.value c.in_ok-words.ensures.taken in
    let read = c.in_ok-words.ensures.read ∙ ap (λ (list : List Extent). schema_words_from bytes first (words_total list)) c.deref.ensures.value in
    let edges = free_edges c.deref-2.result.now c.deref-3.result.now in
    let same : edges ≡ free_edges stretches words = λ i. free_edges (c.deref-2.ensures.value i) (c.deref-3.ensures.value i) in
    let names = MatchOption-at_some (HaveNoCycle edges) (NamesFirstToClose edges) c.in-Some.edge c.in-Some.is c.in_ok-edge.ensures in
    refused_edges bytes stretches c.in_ok-stretches.ensures.read words none read c.in-Some.edge (subst (λ (list : List Edge). NamesFirstToClose list c.in-Some.edge) same names)

pub with_parts-requires : goal.with_parts-requires
with_parts-requires c =
    let bytes = c.args.bytes.now in
    let stretches = c.in_ok-stretches.stretches.items in
    let words = c.in_ok-words.words.items in
    let first = stretch_offset (stretch_count bytes) in
    let small : (i : ℕ) → get_or bytes i 0 < 256 = λ i. omega (arith, c.type_inv.bytes i) in
    let none = subst (λ (list : List Extent). body_refusal bytes list first ≡ None) c.deref.ensures.value c.in_ok-words.ensures.taken in
    let read = c.in_ok-words.ensures.read ∙ ap (λ (list : List Extent). schema_words_from bytes first (words_total list)) c.deref.ensures.value in
    let edges = free_edges c.deref-2.result.now c.deref-3.result.now in
    let same : edges ≡ free_edges stretches words = λ i. free_edges (c.deref-2.ensures.value i) (c.deref-3.ensures.value i) in
    let forest = subst (λ (list : List Edge). HaveNoCycle list) same (MatchOption-at_none (HaveNoCycle edges) (NamesFirstToClose edges) c.in_default.is c.in_ok-edge.ensures) in
    is_schema bytes stretches c.in_ok-stretches.ensures.read words none read (record { entry = c.word_from.result; stretches = stretches; words = words })
    (λ i. record { entry = c.word_from.ensures i; stretches = stretches; words = words }) forest small

pub returns-clause-read : goal.returns-clause-read
returns-clause-read c =
    let bytes = c.args.bytes.now in
    let stretches = c.in_ok-stretches.stretches.items in
    let words = c.in_ok-words.words.items in
    let first = stretch_offset (stretch_count bytes) in
    let none = subst (λ (list : List Extent). body_refusal bytes list first ≡ None) c.deref.ensures.value c.in_ok-words.ensures.taken in
    let read = c.in_ok-words.ensures.read ∙ ap (λ (list : List Extent). schema_words_from bytes first (words_total list)) c.deref.ensures.value in
    let edges = free_edges c.deref-2.result.now c.deref-3.result.now in
    let same : edges ≡ free_edges stretches words = λ i. free_edges (c.deref-2.ensures.value i) (c.deref-3.ensures.value i) in
    let forest = subst (λ (list : List Edge). HaveNoCycle list) same (MatchOption-at_none (HaveNoCycle edges) (NamesFirstToClose edges) c.in_default.is c.in_ok-edge.ensures) in
    spelled bytes stretches c.in_ok-stretches.ensures.read words none read c.in_ok-schema.schema
    (c.in_ok-schema.ensures ∙ (λ i. record { entry = c.word_from.ensures i; stretches = stretches; words = words })) forest
