-- What `print KIND FILE` promises.
use Rattle.std.specs.Prelude.{◌≡◌, ◌⊎◌, ℕ, Bool, List, Option, None, ⊤}
use Rattle.ae_ports.specs.Files.{SameFiles, HasBytes}
use Rattle.ae_print.specs.CodeText.{code_text}
use Rattle.ae_print.specs.ElfText.{elf_text}
use Rattle.ae_print.specs.GraphText.{IsGraphText}
use Rattle.ae_print.specs.NeedsText.{IsNeedsText, IsFirstOfNeedsText}
use Rattle.ae_print.specs.SliceText.{IsSliceText, IsFirstOfSliceText}
use Rattle.ae_print.specs.SomeText.{AppendsFrontOfSome, AppendsSome}
use Rattle.elf_image.specs.Accepted.{image_of}
use Rattle.elf_raw.specs.Raw.{raw_of}
use Rattle.flow_graph.specs.CodeParts.{CodeParts, code_parts}
use Rattle.flow_graph.specs.Edges.{edges_of}
use Rattle.flow_tree.specs.Weight.{weights_by_depth}
use Rattle.flow_tree.specs.WitnessEdges.{AreWitnesses, CutsCycles, HaveLeastWeight}
use Rattle.ae_top.specs.declared.refusal.Refusal.{Refusal}
use Rattle.ae_top.specs.declared.status.Status.{Status}
use Rattle.ae_top.specs.declared.status.Status.TheVariants.{Done}
use Rattle.ae_top.specs.declared.task.PrintKind.{PrintKind}
use Rattle.ae_top.specs.declared.task.PrintKind.TheVariants.{Elf, Code, Graph, Needs, Slice}
use Rattle.ae_top.specs.NoFile.{HasNoFile}
use Rattle.ae_top.specs.Refusing.{tables_refusal, refusal_of, traced_refusal}
use Rattle.ae_top.specs.World.{World}

-- what is asked of a file before it is printed
abbrev pub asks_of : PrintKind → List ℕ → Option Refusal
asks_of Elf bytes = tables_refusal bytes
asks_of Code bytes = refusal_of bytes
asks_of Graph bytes = traced_refusal bytes
asks_of Needs bytes = traced_refusal bytes
asks_of Slice bytes = traced_refusal bytes

-- The text of a graph with its weights by depth. The marked edges are its witnesses. They are a set whose removal leaves no undirected
-- cycle, and none of these sets weighs less.
pub record IsWitnessText (parts : CodeParts) (text : List ℕ) : Type 0 where
  pub marks : List Bool
  pub witnesses : AreWitnesses (edges_of parts) (weights_by_depth parts) marks
  pub cuts : CutsCycles (edges_of parts) marks
  pub least : HaveLeastWeight (edges_of parts) (weights_by_depth parts) marks
  pub shows : IsGraphText parts (weights_by_depth parts) marks text

-- the text of a file that isn't refused
abbrev pub IsTextOf : PrintKind → (bytes : List ℕ) → (text : List ℕ) → Type 0
IsTextOf Elf bytes text = text ≡ elf_text (raw_of bytes)
IsTextOf Code bytes text = text ≡ code_text (image_of bytes)
IsTextOf Graph bytes text = IsWitnessText (code_parts (image_of bytes)) text
IsTextOf Needs bytes text = IsNeedsText (image_of bytes).code text
IsTextOf Slice bytes text = IsSliceText (image_of bytes).code text

-- what may be printed in part: such a text, or of needs and slices the lines of the first so many words
abbrev pub IsBegunTextOf : PrintKind → (bytes : List ℕ) → (text : List ℕ) → Type 0
IsBegunTextOf Elf bytes text = IsTextOf Elf bytes text
IsBegunTextOf Code bytes text = IsTextOf Code bytes text
IsBegunTextOf Graph bytes text = IsTextOf Graph bytes text
IsBegunTextOf Needs bytes text = IsFirstOfNeedsText (image_of bytes).code text
IsBegunTextOf Slice bytes text = IsFirstOfSliceText (image_of bytes).code text

-- of such a text memory may be wanting behind what was written of it
abbrev pub WantsMemory : PrintKind → Type 0
WantsMemory Elf = ⊥
WantsMemory Code = ⊥
WantsMemory Graph = ⊤
WantsMemory Needs = ⊥
WantsMemory Slice = ⊤

-- why only a front of a text was printed: the output failed, or memory was wanting
abbrev pub StopsShort : PrintKind → Status → Type 0
StopsShort kind status = (status ≡ Status.OutFault) ⊎ ((status ≡ Status.Memory) × WantsMemory kind)

-- FILE isn't refused, and its text went to the output, or a front of it. The other streams have no part in that.
pub record IsPrinted (kind : PrintKind) (name : List ℕ) (status : Status) (before now : World) : Type 0 where
  pub bytes : List ℕ
  pub has : HasBytes before.store.told name bytes
  pub asked : asks_of kind bytes ≡ None
  pub text : let before_it = before.streams.out.told in let now_it = now.streams.out.told in
      ((status ≡ Done) × AppendsSome (IsTextOf kind bytes) before_it now_it)
      ⊎ (StopsShort kind status × AppendsFrontOfSome (IsBegunTextOf kind bytes) before_it now_it)
  pub input : now.streams.input ≡ before.streams.input
  pub err : now.streams.err ≡ before.streams.err
  pub files : SameFiles before.store.told now.store.told

-- FILE, which is the word at this place and has this name, isn't to be had, or it was printed.
abbrev pub KeepsPrint : PrintKind → (place : ℕ) → (name : List ℕ) → Status → (before now : World) → Type 0
KeepsPrint kind place name status before now =
    HasNoFile (asks_of kind) place name status before now ⊎ IsPrinted kind name status before now
