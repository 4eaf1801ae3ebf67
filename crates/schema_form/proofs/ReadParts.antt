-- What the parts that are read say of all the bytes.
use Rattle.std.proofs.Common.{◌≡◌, ℕ, ◌<◌, List, get_or, Some, None, Option, sym, ap, ◌∙◌, subst}
use Rattle.std.specs.Option.{option_or}
use Rattle.rv_code.specs.declared.extent.Extent.{Extent}
use Rattle.schema_form.specs.declared.fault.SchemaFault.{SchemaFault}
use Rattle.schema_form.specs.declared.fault.SchemaFault.TheVariants.{NotAForest}
use Rattle.schema_form.specs.declared.word.SchemaWord.{SchemaWord}
use Rattle.schema_form.specs.FreeEdges.{free_edges, HaveNoCycle, NamesFirstToClose}
use Rattle.schema_form.specs.Inner.Heads.{AreHeadOf}
use Rattle.schema_form.specs.Layout.{entry_from, stretch_count, stretch_offset, stretches_from, schema_words_from, words_total}
use Rattle.schema_form.specs.Refusal.{head_refusal, body_refusal, form_refusal}
use Rattle.schema_form.specs.SchemaParts.{SchemaParts}
use Rattle.schema_form.specs.Spells.{parts_from, Spells, RefusedBy, by_form, by_edges}
use Rattle.schema_form.specs.Valid.{AreSchemaWords, IsSchema}
use Rattle.schema_form.proofs.Says.{words_fit, are_schema_words, schema_is}

pub refused_head : (bytes : List ℕ) (fault : SchemaFault) → head_refusal bytes ≡ Some fault → RefusedBy bytes fault
refused_head bytes fault is =
    by_form (ap (λ (o : Option SchemaFault). option_or o (body_refusal bytes (stretches_from bytes (stretch_count bytes)) (stretch_offset (stretch_count bytes)))) is)

module _ (bytes : List ℕ) (stretches : List Extent) (head : AreHeadOf bytes stretches) where
  -- bytes with these stretches are refused as they are for what stands behind them
  form_is : form_refusal bytes ≡ body_refusal bytes stretches (stretch_offset (stretch_count bytes))
  form_is =
      ap (λ (o : Option SchemaFault). option_or o (body_refusal bytes (stretches_from bytes (stretch_count bytes)) (stretch_offset (stretch_count bytes)))) head.taken
      ∙ ap (λ (list : List Extent). body_refusal bytes list (stretch_offset (stretch_count bytes))) (sym head.same)

  pub refused_body : (fault : SchemaFault) → body_refusal bytes stretches (stretch_offset (stretch_count bytes)) ≡ Some fault → RefusedBy bytes fault
  refused_body fault is = by_form (form_is ∙ is)

  module _ (words : List SchemaWord) (none : body_refusal bytes stretches (stretch_offset (stretch_count bytes)) ≡ None)
      (read : words ≡ schema_words_from bytes (stretch_offset (stretch_count bytes)) (words_total stretches)) where
    -- the words that are read are those of the bytes' stretches
    words_are : words ≡ (parts_from bytes).words
    words_are = read ∙ ap (λ (list : List Extent). schema_words_from bytes (stretch_offset (stretch_count bytes)) (words_total list)) head.same

    edges_are : free_edges stretches words ≡ free_edges (parts_from bytes).stretches (parts_from bytes).words
    edges_are = λ i. free_edges (head.same i) (words_are i)

    pub words_allowed : ((i : ℕ) → get_or bytes i 0 < 256) → AreSchemaWords stretches words
    words_allowed small =
        subst (AreSchemaWords stretches) (sym read)
        (are_schema_words bytes small stretches (stretch_offset (stretch_count bytes)) (words_fit bytes stretches (stretch_offset (stretch_count bytes)) none))

    pub refused_edges : (name : ℕ) → NamesFirstToClose (free_edges stretches words) name → RefusedBy bytes (NotAForest name)
    refused_edges name names =
        by_edges name (form_is ∙ none) (subst (λ edges. NamesFirstToClose edges name) edges_are names) (λ i. NotAForest name)

    module _ (parts : SchemaParts) (is : parts ≡ record { entry = entry_from bytes; stretches = stretches; words = words }) (forest : HaveNoCycle (free_edges stretches words)) where
      pub spelled : Spells bytes parts
      spelled = record {
        taken = form_is ∙ none;
        says = is ∙ (λ i. record { entry = entry_from bytes; stretches = head.same i; words = words_are i });
        forest = subst (λ (p : SchemaParts). HaveNoCycle (free_edges p.stretches p.words)) (sym is) forest;
      }

      pub is_schema : ((i : ℕ) → get_or bytes i 0 < 256) → IsSchema parts
      is_schema small =
          let known = subst (λ (list : List SchemaWord). HaveNoCycle (free_edges stretches list)) read forest in
          subst IsSchema (sym (is ∙ (λ i. record { entry = entry_from bytes; stretches = stretches; words = read i })))
          (schema_is bytes stretches small head none known)
