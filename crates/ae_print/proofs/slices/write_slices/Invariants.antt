use Rattle.std.proofs.Common.{take}
use Rattle.std.specs.Prelude.{filter}
use Rattle.rv_code.specs.Code.{extents_of}
use Rattle.rv_code.specs.Places.{code_addresses}
use Rattle.reach_slice.specs.Slices.{is_access}
use Rattle.ae_print.specs.Inner.SomePut.{PutsSome}
use Rattle.ae_print.specs.Lines.{AreLines}
use Rattle.ae_print.specs.SliceText.{IsSliceLine}
use Rattle.ae_print.proofs.slices.write_slices.Given as goal

abbrev pub invariant-loop-place : goal.invariant-loop-place
invariant-loop-place g l =
    PutsSome g.K.Sink.told g.K.Sink.faults g.K.Sink.same_rest (AreLines (IsSliceLine l.graph.code) (filter (is_access l.graph.code) (take l.place (code_addresses (extents_of l.graph.code))))) l.initial.lines l.lines
