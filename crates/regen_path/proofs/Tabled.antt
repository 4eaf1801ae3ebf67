-- The table of where arcs lead, as it is filled.
use Rattle.std.proofs.Common.{◌≡◌, ◌≢◌, inl, inr, ℕ, zero, suc, ◌+◌, ◌<◌, Bool, true, false, cond, eqb, List, length, get_or, set, replicate, Some, None, refl, sym, ap, ◌∙◌, subst, arith, length-set}
use Rattle.std.specs.Prelude.{slice_get}
use Rattle.std.specs.Option.{option_and_then}
use Rattle.std.proofs.lemmas.Bool.{cases_eq, cases_lt, ne_eqb}
use Rattle.std.proofs.lemmas.List.{get_or-replicate, length-replicate}
use Rattle.std.proofs.lemmas.Option.{none-some, same_Some, slice_get_within, slice_get-get_or, get_or_from_slice_get, option_and_then_some}
use Rattle.graph_paths.specs.Forests.{IsAmong}
use Rattle.graph_paths.proofs.LawsOfMembers.{among_place}
use Rattle.rv_code.proofs.LawsOfElements.{set_here, set_elsewhere}
use Rattle.regen_path.specs.declared.arcs.Arc.{Arc}
use Rattle.regen_path.specs.declared.arcs.Ways.{Ways}
use Rattle.regen_path.specs.Arcs.{way_by, way_from, HasArc, AreWays}
use Rattle.regen_path.proofs.Listing.{place_of}

abbrev pub no_ways : Ways
no_ways = record { fall = None; taken = None }

abbrev pub with_way : Ways → (kind to : ℕ) → Ways
with_way ways kind to = cond (eqb kind 0) (record ways { fall = Some to }) (record ways { taken = Some to })

nothing : (one two : Bool) (to : ℕ) → cond one None (cond two None None) ≡ Some to → ⊥
nothing true two to is = none-some to is
nothing false true to is = none-some to is
nothing false false to is = none-some to is

none_of_no_ways : (count kind from to : ℕ) → way_from (replicate count no_ways) kind from ≡ Some to → ⊥
none_of_no_ways count kind from to is = option_and_then_some (λ (ways : Ways). way_by ways kind) (slice_get (replicate count no_ways) from) to is (λ ways there way.
    let within = slice_get_within (replicate count no_ways) from ways there in
    let equal : ways ≡ no_ways = sym (get_or_from_slice_get (replicate count no_ways) from ways no_ways there) ∙ get_or-replicate count from no_ways no_ways (omega (arith, length-replicate count no_ways)) in
    nothing (eqb kind 0) (eqb kind 1) to (ap (λ (w : Ways). way_by w kind) (sym equal) ∙ way))

with_same : (ways : Ways) (kind to : ℕ) → kind < 2 → way_by (with_way ways kind to) kind ≡ Some to
with_same ways zero to less = refl
with_same ways (suc zero) to less = refl
with_same ways (suc (suc kind)) to less = absurd (omega arith)

with_other : (ways : Ways) (kind other to : ℕ) → kind < 2 → other ≢ kind → way_by (with_way ways kind to) other ≡ way_by ways other
with_other ways zero other to less differ =
    ap (λ b. cond b (Some to) (cond (eqb other 1) ways.taken None)) (ne_eqb other 0 differ) ∙ sym (ap (λ b. cond b ways.fall (cond (eqb other 1) ways.taken None)) (ne_eqb other 0 differ))
with_other ways (suc zero) other to less differ =
    ap (λ b. cond (eqb other 0) ways.fall (cond b (Some to) None)) (ne_eqb other 1 differ) ∙ sym (ap (λ b. cond (eqb other 0) ways.fall (cond b ways.taken None)) (ne_eqb other 1 differ))
with_other ways (suc (suc kind)) other to less differ = absurd (omega arith)

-- the first arcs of the list are in the table, and no others
pub record HasSome (arcs : List Arc) (count : ℕ) (table : List Ways) (at : ℕ) : Type 0 where
  pub long : length table ≡ count
  pub done : (place : ℕ) (arc : Arc) → place < at → slice_get arcs place ≡ Some arc → HasArc table arc
  pub from : (arc : Arc) → HasArc table arc → IsAmong arcs arc

pub some_none : (arcs : List Arc) (count : ℕ) → HasSome arcs count (replicate count no_ways) 0
some_none arcs count = record {
  long = length-replicate count no_ways;
  done = λ place arc less is. absurd (omega arith);
  from = λ arc has. absurd (none_of_no_ways count arc.kind arc.from arc.to has);
}

same_arc : (from from' to to' kind kind' : ℕ) → from ≡ from' → to ≡ to' → kind ≡ kind' → ◌≡◌ {A = Arc} (record { from = from; to = to; kind = kind }) (record { from = from'; to = to'; kind = kind' })
same_arc from from' to to' kind kind' one two three =
    ap (λ (n : ℕ). record { from = n; to = to; kind = kind }) one ∙ ap (λ (n : ℕ). record { from = from'; to = n; kind = kind }) two ∙ ap (λ (n : ℕ). record { from = from'; to = to'; kind = n }) three

module _ (arcs : List Arc) (count : ℕ) (ends : (arc : Arc) → IsAmong arcs arc → (arc.from < count) × (arc.to < count)) (kinds : (arc : Arc) → IsAmong arcs arc → arc.kind < 2)
    (alone : (one other : Arc) → IsAmong arcs one → IsAmong arcs other → one.from ≡ other.from → one.kind ≡ other.kind → one ≡ other)
    (table : List Ways) (at : ℕ) (arc : Arc) (ways : Ways) (is_arc : slice_get arcs at ≡ Some arc) (is_ways : slice_get table arc.from ≡ Some ways) (has : HasSome arcs count table at) where
  abbrev table_now : List Ways
  table_now = set table arc.from (with_way ways arc.kind arc.to)

  among : IsAmong arcs arc
  among = among_place arcs at arc is_arc

  read_here : (kind from : ℕ) → from ≡ arc.from → way_from table_now kind from ≡ way_by (with_way ways arc.kind arc.to) kind
  read_here kind from equal =
      ap (λ (n : ℕ). way_from table_now kind n) equal
      ∙ ap (option_and_then (λ (w : Ways). way_by w kind)) (set_here table arc.from (with_way ways arc.kind arc.to) (slice_get_within table arc.from ways is_ways))

  was_here : (kind from : ℕ) → from ≡ arc.from → way_from table kind from ≡ way_by ways kind
  was_here kind from equal = ap (λ (n : ℕ). way_from table kind n) equal ∙ ap (option_and_then (λ (w : Ways). way_by w kind)) is_ways

  read_apart : (kind from : ℕ) → from ≢ arc.from → way_from table_now kind from ≡ way_from table kind from
  read_apart kind from differ = ap (option_and_then (λ (w : Ways). way_by w kind)) (set_elsewhere table arc.from from (with_way ways arc.kind arc.to) differ)

  has_it : HasArc table_now arc
  has_it = read_here arc.kind arc.from refl ∙ with_same ways arc.kind arc.to (kinds arc among)

  still : (other : Arc) → IsAmong arcs other → HasArc table other → HasArc table_now other
  still other is_other has_other = elim (cases_eq other.from arc.from) [
    | inr differ ↦ read_apart other.kind other.from differ ∙ has_other
    | inl from_is ↦ elim (cases_eq other.kind arc.kind) [
      | inr differ ↦ read_here other.kind other.from from_is ∙ with_other ways arc.kind other.kind arc.to (kinds arc among) differ ∙ sym (was_here other.kind other.from from_is) ∙ has_other
      | inl kind_is ↦ subst (HasArc table_now) (sym (alone other arc is_other among from_is kind_is)) has_it
    ]
  ]

  pub some_more : HasSome arcs count table_now (at + 1)
  some_more = record {
    long = length-set table arc.from (with_way ways arc.kind arc.to) ∙ has.long;
    done = λ place other less is. elim (cases_lt place at) [
      | inl earlier ↦ still other (among_place arcs place other is) (has.done place other earlier is)
      | inr later ↦
          let equal : at ≡ place = omega arith in
          subst (HasArc table_now) (same_Some arc other (sym is_arc ∙ ap (slice_get arcs) equal ∙ is)) has_it
    ];
    from = λ other is. elim (cases_eq other.from arc.from) [
      | inr differ ↦ has.from other (sym (read_apart other.kind other.from differ) ∙ is)
      | inl from_is ↦ elim (cases_eq other.kind arc.kind) [
        | inr differ ↦ has.from other (was_here other.kind other.from from_is ∙ sym (with_other ways arc.kind other.kind arc.to (kinds arc among) differ) ∙ sym (read_here other.kind other.from from_is) ∙ is)
        | inl kind_is ↦
            let reads : way_by (with_way ways arc.kind arc.to) other.kind ≡ Some arc.to = ap (way_by (with_way ways arc.kind arc.to)) kind_is ∙ with_same ways arc.kind arc.to (kinds arc among) in
            let to_is : arc.to ≡ other.to = same_Some arc.to other.to (sym reads ∙ sym (read_here other.kind other.from from_is) ∙ is) in
            subst (IsAmong arcs) (same_arc arc.from other.from arc.to other.to arc.kind other.kind (sym from_is) to_is (sym kind_is)) among
      ]
    ];
  }

pub some_all : (arcs : List Arc) (count : ℕ) (table : List Ways) → HasSome arcs count table (length arcs) → AreWays arcs count table
some_all arcs count table has = record {
  long = has.long;
  has = λ arc. (λ among. let found = place_of arcs arc among in has.done found.0 arc (slice_get_within arcs found.0 arc found.1) found.1, has.from arc);
}

-- the row of a node, read from the table
pub way_read : (table : List Ways) (kind node : ℕ) → node < length table → way_from table kind node ≡ way_by (get_or table node no_ways) kind
way_read table kind node within = ap (option_and_then (λ (ways : Ways). way_by ways kind)) (slice_get-get_or table node no_ways within)
