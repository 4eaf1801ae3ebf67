use Rattle.std.proofs.Common.{◌≡◌, ℕ, false, List, [], ◌∷◌, Result, Ok, Err, refl, sym, ap, subst, inl, inr}
use Rattle.std.specs.Prelude.{◌↔◌, filter}
use Rattle.std.proofs.lemmas.Bool.{cases_Bool}
use Rattle.rv_code.specs.declared.image.Range.{Range}
use Rattle.rv_code.proofs.LawsOfElements.{filter_kept, filter_dropped}
use Rattle.reach_slice.specs.declared.fault.SliceFault.{SliceFault}
use Rattle.reach_slice.specs.Slices.{is_access}
use Rattle.ae_nums.proofs.LawsOfWriters.{Puts-none}
use Rattle.ae_print.specs.Lines.{AreLines}
use Rattle.ae_print.specs.SliceText.{IsSliceLine, slice_line}
use Rattle.ae_print.proofs.Lines.{line_alone, first_all, first_none, puts_anyway}
use Rattle.ae_print.proofs.slices.write_slice_at.Goals as goal

-- where there is a slice, a load or store stands
line_of_access : {T : Type 0} (code : List Range) (address : ℕ) (result : Result T SliceFault) (slice : T) (line : List ℕ) → result ≡ Ok slice → ((result ≡ Err SliceFault.NotAccess) ↔ (is_access code address ≡ false))
    → IsSliceLine code address line → AreLines (IsSliceLine code) (filter (is_access code) (address ∷ [])) line
line_of_access code address result slice line is refused this = elim (cases_Bool (is_access code address)) [
  | inl stands ↦ subst (λ (items : List ℕ). AreLines (IsSliceLine code) items line) (sym (filter_kept (is_access code) address stands)) (line_alone (IsSliceLine code) address line this)
  | inr none ↦ absurd (cc (is, refused.1 none))
]

-- where none stands, there is no line
no_line : {T : Type 0} (code : List Range) (address : ℕ) (result : Result T SliceFault) → result ≡ Err SliceFault.NotAccess → ((result ≡ Err SliceFault.NotAccess) ↔ (is_access code address ≡ false))
    → AreLines (IsSliceLine code) (filter (is_access code) (address ∷ [])) []
no_line code address result is refused = subst (λ (items : List ℕ). AreLines (IsSliceLine code) items []) (sym (filter_dropped (is_access code) address (refused.0 is))) refl

pub returns-in-Err-NotAccess-clause-all : goal.returns-in-Err-NotAccess-clause-all
returns-in-Err-NotAccess-clause-all g c = record {
  text = [];
  is = no_line c.args.reaching.now c.args.address c.slice_of.result (cc (c.in-Err-NotAccess.is, c.in-Err-NotAccess.field-0-is)) c.slice_of.ensures.refused;
  puts = Puts-none _ (g.met.K.Sink.rest_stays _);
}

pub returns-in-Err-NoMemory-clause-front : goal.returns-in-Err-NoMemory-clause-front
returns-in-Err-NoMemory-clause-front g c = record {
  text = [];
  is = first_none (IsSliceLine c.args.reaching.now) (filter (is_access c.args.reaching.now) (c.args.address ∷ []));
  puts = Puts-none _ (g.met.K.Sink.rest_stays _);
}

pub returns-in-Ok-write_slice-clause-all : goal.returns-in-Ok-write_slice-clause-all
returns-in-Ok-write_slice-clause-all g c = record {
  text = slice_line c.args.address c.deref.result.now;
  is = line_of_access c.args.reaching.now c.args.address c.slice_of.result c.in-Ok.slice (slice_line c.args.address c.deref.result.now) c.in-Ok.is c.slice_of.ensures.refused (record {
    slice = c.in-Ok.slice.items;
    words = c.in-Ok.ensures.words;
    order = c.in-Ok.ensures.order;
    is = ap (slice_line c.args.address) c.deref.ensures.value;
  });
  puts = puts_anyway _ _ _ _ c.write_slice.ensures;
}

pub returns-clause-front : goal.returns-clause-front
returns-clause-front g c = record {
  text = slice_line c.args.address c.deref.result.now;
  is = first_all (IsSliceLine c.args.reaching.now) (filter (is_access c.args.reaching.now) (c.args.address ∷ [])) (slice_line c.args.address c.deref.result.now)
      (line_of_access c.args.reaching.now c.args.address c.slice_of.result c.in-Ok.slice (slice_line c.args.address c.deref.result.now) c.in-Ok.is c.slice_of.ensures.refused (record {
        slice = c.in-Ok.slice.items;
        words = c.in-Ok.ensures.words;
        order = c.in-Ok.ensures.order;
        is = ap (slice_line c.args.address) c.deref.ensures.value;
      }));
  puts = puts_anyway _ _ _ _ c.write_slice.ensures;
}
