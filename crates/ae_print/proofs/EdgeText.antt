-- The line of an edge, and certificates for all edges.
use Rattle.std.proofs.Common.{◌≡◌, inl, inr, ℕ, ◌<◌, Bool, false, List, [], length, None, ap, ◌∙◌, arith}
use Rattle.std.proofs.lemmas.Bool.{cases_lt}
use Rattle.std.specs.Prelude.{slice_index, slice_index_or}
use Rattle.flow_graph.specs.declared.edge.Edge.{Edge}
use Rattle.flow_graph.specs.declared.edge.Kind.TheVariants.{Fall}
use Rattle.flow_tree.specs.WitnessEdges.{AreGrown, IsCertificate}
use Rattle.flow_tree.proofs.LawsOfCertificates.{certificate_exists}
use Rattle.ae_print.specs.GraphText.{edge_line, AreCertificates}

-- what a read past the end of a list of edges would give
abbrev pub past_edges : Edge
past_edges = record { from = 0; kind = Fall; source = 0; to = None; target = 0 }

-- by what is said of edges with its number
abbrev pub line_by : (weights : List ℕ) → (marks : List Bool) → (path_of : ℕ → List ℕ) → (number : ℕ) → Edge → List ℕ
line_by weights marks path_of number edge = edge_line (slice_index_or marks number false) (path_of number) number (slice_index weights number) edge

-- the same by what was read
pub same_line : (read marks : List Bool) (path_read path : List ℕ) (number weight : ℕ) (edge : Edge) → read ≡ marks → path_read ≡ path
    → edge_line (slice_index_or read number false) path_read number weight edge ≡ edge_line (slice_index_or marks number false) path number weight edge
same_line read marks path_read path number weight edge same same_path =
    ap (λ (all : List Bool). edge_line (slice_index_or all number false) path_read number weight edge) same
    ∙ ap (λ (steps : List ℕ). edge_line (slice_index_or marks number false) steps number weight edge) same_path

module _ (edges : List Edge) (marks : List Bool) (grown : AreGrown edges marks) where
  path_at : (number : ℕ) → (path : List ℕ) × (number < length edges → IsCertificate edges marks number path)
  path_at number = elim (cases_lt number (length edges)) [
    | inl within ↦ let found = certificate_exists edges marks grown number within in (found.0, λ _. found.1)
    | inr beyond ↦ ([], λ within. absurd (omega (arith, within, beyond)))
  ]

  -- all edges have certificates
  pub all_paths : (path_of : ℕ → List ℕ) × AreCertificates edges marks path_of
  all_paths = (λ number. (path_at number).0, λ number within. (path_at number).1 within)
