-- Every graph has a text.
use Rattle.std.proofs.Common.{◌≡◌, ℕ, Bool, List, length, Option, Result, Ok, Err, refl, subst}
use Rattle.std.specs.Prelude.{OnOk, OnErr}
use Rattle.flow_graph.specs.CodeParts.{CodeParts}
use Rattle.flow_graph.specs.Edges.{edges_of}
use Rattle.flow_tree.specs.WitnessEdges.{AreGrown, AreWitnesses}
use Rattle.ae_ports.specs.Content.{Appends, AppendsFront}
use Rattle.ae_ports.proofs.LawsOfContent.{AppendsFront-none}
use Rattle.ae_print.specs.declared.fault.PrintFault.{PrintFault}
use Rattle.ae_print.specs.GraphText.{AreCertificates, IsGraphText, graph_text}
use Rattle.ae_print.specs.SomeText.{AppendsFrontOfSome, AppendsSome}
use Rattle.ae_print.proofs.EdgeText.{all_paths}

-- witnesses by weights, one an edge, are those of a forest that was grown
pub by_weights : (parts : CodeParts) (weights : List ℕ) (marks : List Bool) → length weights ≡ length (edges_of parts) → AreWitnesses (edges_of parts) weights marks → AreGrown (edges_of parts) marks
by_weights parts weights marks count are = record { weights = weights; count = count; witnesses = are }

module _ (parts : CodeParts) (weights : List ℕ) (marks : List Bool) (grown : AreGrown (edges_of parts) marks) (before now : Option (List ℕ)) where
  pub some_all : (read : List ℕ) (result : Result Unit PrintFault) → read ≡ weights
      → ((path_of : ℕ → List ℕ) → AreCertificates (edges_of parts) marks path_of → OnOk result (Appends before now (graph_text parts read marks path_of)))
      → OnOk result (AppendsSome (IsGraphText parts weights marks) before now)
  some_all read (Err fault) same all = tt
  some_all read (Ok done) same all =
      let paths = all_paths (edges_of parts) marks grown in (
        graph_text parts weights marks paths.0,
        record { path_of = paths.0; certificates = paths.1; is = refl },
        subst (λ (by : List ℕ). Appends before now (graph_text parts by marks paths.0)) same (all paths.0 paths.1),
      )

  pub some_front : (read : List ℕ) (result : Result Unit PrintFault) → read ≡ weights
      → ((path_of : ℕ → List ℕ) → AreCertificates (edges_of parts) marks path_of → OnErr result (AppendsFront before now (graph_text parts read marks path_of)))
      → OnErr result (AppendsFrontOfSome (IsGraphText parts weights marks) before now)
  some_front read (Ok done) same front = tt
  some_front read (Err fault) same front =
      let paths = all_paths (edges_of parts) marks grown in (
        graph_text parts weights marks paths.0,
        record { path_of = paths.0; certificates = paths.1; is = refl },
        subst (λ (by : List ℕ). AppendsFront before now (graph_text parts by marks paths.0)) same (front paths.0 paths.1),
      )

-- nothing is a front of it
pub no_front : (parts : CodeParts) (weights : List ℕ) (marks : List Bool) → AreGrown (edges_of parts) marks → (known : Option (List ℕ)) → AppendsFrontOfSome (IsGraphText parts weights marks) known known
no_front parts weights marks grown known =
    let paths = all_paths (edges_of parts) marks grown in (
      graph_text parts weights marks paths.0,
      record { path_of = paths.0; certificates = paths.1; is = refl },
      AppendsFront-none known (graph_text parts weights marks paths.0),
    )
