-- Lines behind lines, and what is written to a writer when it is said which texts are meant.
use Rattle.std.proofs.Common.{◌≡◌, ℕ, ◌+◌, Bool, List, [], ◌∷◌, ◌++◌, take, drop, Option, Some, Result, Ok, refl, sym, ap, ◌∙◌, subst, append-nil, append_assoc, take-append-drop}
use Rattle.std.specs.Prelude.{filter, slice_get}
use Rattle.std.proofs.lemmas.List.{take_more}
use Rattle.std.proofs.lemmas.List.Elements.{filter-append}
use Rattle.std.proofs.lemmas.Option.{slice_get_within, get_or_from_slice_get}
use Rattle.ae_ports.specs.declared.failed.Failed.{Failed}
use Rattle.ae_nums.specs.declared.writer.LineWriter.{LineWriter}
use Rattle.ae_nums.specs.Writer.{Puts}
use Rattle.ae_nums.proofs.LawsOfWriters.{Puts-both}
use Rattle.ae_print.specs.Inner.SomePut.{PutsSome}
use Rattle.ae_print.specs.Lines.{AreLines, AreFirstLines}

module _ (is_line : ℕ → List ℕ → Type 0) where
  pub lines_both : (items others text more : List ℕ) → AreLines is_line items text → AreLines is_line others more → AreLines is_line (items ++ others) (text ++ more)
  lines_both [] others text more are behind = subst (λ (front : List ℕ). AreLines is_line others (front ++ more)) (sym are) behind
  lines_both (item ∷ items) others text more are behind =
      (are.0, are.1 ++ more, are.2, lines_both items others are.1 more are.3 behind, ap (λ (front : List ℕ). front ++ more) are.4 ∙ append_assoc are.0 are.1 more)

  -- that of one item
  pub line_alone : (item : ℕ) (line : List ℕ) → is_line item line → AreLines is_line (item ∷ []) line
  line_alone item line is = (line, [], is, refl, sym (append-nil line))

  -- all lines are first lines
  pub first_all : (items text : List ℕ) → AreLines is_line items text → AreFirstLines is_line items text
  first_all items text are = record { first = items; others = []; are = append-nil items; lines = are }

  -- and none are
  pub first_none : (items : List ℕ) → AreFirstLines is_line items []
  first_none items = record { first = []; others = items; are = refl; lines = refl }

  -- lines, and the first ones behind them
  pub first_behind : (items others text more : List ℕ) → AreLines is_line items text → AreFirstLines is_line others more → AreFirstLines is_line (items ++ others) (text ++ more)
  first_behind items others text more are behind = record {
    first = items ++ behind.first;
    others = behind.others;
    are = append_assoc items behind.first behind.others ∙ ap (λ (rest : List ℕ). items ++ rest) behind.are;
    lines = lines_both items behind.first text more are behind.lines;
  }

  -- the first ones are so of more items too
  pub first_of_more : (items others text : List ℕ) → AreFirstLines is_line items text → AreFirstLines is_line (items ++ others) text
  first_of_more items others text some = record {
    first = some.first;
    others = some.others ++ others;
    are = sym (append_assoc some.first some.others others) ∙ ap (λ (front : List ℕ). front ++ others) some.are;
    lines = some.lines;
  }

-- one item more
pub one_more_item : (items : List ℕ) (place item : ℕ) → slice_get items place ≡ Some item → take (place + 1) items ≡ take place items ++ (item ∷ [])
one_more_item items place item is =
    take_more items place item (slice_get_within items place item is) ∙ ap (λ (x : ℕ). take place items ++ (x ∷ [])) (get_or_from_slice_get items place item item is)

pub one_more_kept : (p : ℕ → Bool) (items : List ℕ) (place item : ℕ) → slice_get items place ≡ Some item → filter p (take (place + 1) items) ≡ filter p (take place items) ++ filter p (item ∷ [])
one_more_kept p items place item is = ap (filter p) (one_more_item items place item is) ∙ filter-append p (take place items) (item ∷ [])

pub all_kept : (p : ℕ → Bool) (items : List ℕ) (count : ℕ) → filter p (take count items) ++ filter p (drop count items) ≡ filter p items
all_kept p items count = sym (filter-append p (take count items) (drop count items)) ∙ ap (filter p) (take-append-drop count items)

module _ {K : Type 0} {told : K → Option (List ℕ)} {faults : K → ℕ} {same_rest : K → K → Type 0} where
  -- what was written, whatever the call answered
  pub puts_anyway : (one two : LineWriter K) (text : List ℕ) (result : Result Unit Failed) → Puts told faults same_rest one two text result → Puts told faults same_rest one two text (Ok tt)
  puts_anyway one two text result puts = record { wrote = puts.wrote; broken = tt; rest = puts.rest }

  -- such a text, and then such another one
  pub some_both : ((one two three : K) → same_rest one two → same_rest two three → same_rest one three) → (one two three : LineWriter K) (P Q R : List ℕ → Type 0) → ((first second : List ℕ) → P first → Q second → R (first ++ second))
      → PutsSome told faults same_rest P one two → PutsSome told faults same_rest Q two three → PutsSome told faults same_rest R one three
  some_both joins one two three P Q R both before after = record {
    text = before.text ++ after.text;
    is = both before.text after.text before.is after.is;
    puts = Puts-both joins one two three before.text after.text before.text after.text (Ok tt) (Ok tt) before.puts refl after.puts refl;
  }

  pub some_as : (one two : LineWriter K) (P Q : List ℕ → Type 0) → ((text : List ℕ) → P text → Q text) → PutsSome told faults same_rest P one two → PutsSome told faults same_rest Q one two
  some_as one two P Q turns some = record { text = some.text; is = turns some.text some.is; puts = some.puts }
