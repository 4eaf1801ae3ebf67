-- A list of edges without one of them.
use Rattle.std.proofs.Common.{◌≡◌, ◌≢◌, ◌⊎◌, inl, inr, ℕ, ◌+◌, ◌≤◌, List, [], ◌∷◌, length, refl, sym, ap, ◌∙◌, subst, arith}
use Rattle.std.specs.Prelude.{sum_by}
use Rattle.std.proofs.lemmas.List.Sums.{sum_by-cons}
use Rattle.graph_paths.specs.Forests.{IsAmong, StandOnce}

pub record Without (list : List ℕ) (edge : ℕ) : Type 0 where
  pub rest : List ℕ
  pub once : StandOnce rest
  pub within : (other : ℕ) → IsAmong rest other → IsAmong list other × (other ≢ edge)
  pub back : (other : ℕ) → IsAmong list other → (other ≡ edge) ⊎ IsAmong rest other
  pub count : length list ≡ length rest + 1
  pub sum : (weight : ℕ → ℕ) → sum_by weight list ≡ weight edge + sum_by weight rest

later_without : (first : ℕ) (list : List ℕ) (edge : ℕ) → IsAmong list edge → StandOnce (first ∷ list) → Without list edge → Without (first ∷ list) edge
later_without first list edge is once later = record {
  rest = first ∷ later.rest;
  once = (λ among. once.0 (later.within first among).0, later.once);
  within = λ other among. elim among [
    | inl same ↦ (inl same, λ equal. once.0 (subst (IsAmong list) (sym equal ∙ same) is))
    | inr behind ↦ (inr (later.within other behind).0, (later.within other behind).1)
  ];
  back = λ other among. elim among [
    | inl same ↦ inr (inl same)
    | inr behind ↦ elim (later.back other behind) [ inl same ↦ inl same | inr old ↦ inr (inr old) ]
  ];
  count = omega (arith, later.count);
  sum = λ weight. omega (arith, sum_by-cons weight first list, sum_by-cons weight first later.rest, later.sum weight);
}

pub without : (list : List ℕ) (edge : ℕ) → IsAmong list edge → StandOnce list → Without list edge
without [] edge is once = absurd is
without (first ∷ list) edge (inl is) once = record {
  rest = list;
  once = once.1;
  within = λ other among. (inr among, λ same. once.0 (subst (IsAmong list) (same ∙ is) among));
  back = λ other among. elim among [ inl same ↦ inl (same ∙ sym is) | inr behind ↦ inr behind ];
  count = omega arith;
  sum = λ weight. sum_by-cons weight first list ∙ ap (λ (e : ℕ). weight e + sum_by weight list) (sym is);
}
without (first ∷ list) edge (inr is) once = later_without first list edge is once (without list edge is once.1)

pub still_within : (list more : List ℕ) (edge other : ℕ) → (IsAmong list edge → ⊥) → IsAmong list other → (other ≡ edge) ⊎ IsAmong more other → IsAmong more other
still_within list more edge other absent is (inl same) = absurd (absent (subst (IsAmong list) same is))
still_within list more edge other absent is (inr among) = among

-- fewer numbers, none twice, sum up to no more
pub fewer_weigh : (weight : ℕ → ℕ) (list more : List ℕ) → StandOnce list → StandOnce more → ((edge : ℕ) → IsAmong list edge → IsAmong more edge) → sum_by weight list ≤ sum_by weight more
fewer_weigh weight [] more once once_more within = omega arith
fewer_weigh weight (edge ∷ list) more once once_more within =
    let fewer = without more edge (within edge (inl refl)) once_more in
    let rest = fewer_weigh weight list fewer.rest once.1 fewer.once (λ other is. still_within list fewer.rest edge other once.0 is (fewer.back other (within other (inr is)))) in
    omega (arith, sum_by-cons weight edge list, fewer.sum weight, rest)
