-- Runs joined end to end.
use Rattle.std.proofs.Common.{◌≡◌, ℕ, zero, suc, ◌+◌, List, [], ◌++◌, Option, None, Some, refl, sym, ap, ◌∙◌, arith, append_assoc}
use Rattle.ae_nums.specs.declared.item.Item.{Item}
use Rattle.rv_code.specs.declared.ending.Ending.{Ending}
use Rattle.rv_machine.specs.State.{State}
use Rattle.rv_machine.specs.Step.{Program, StepOutcome, Went, EndedWith, step_of}
use Rattle.rv_machine.specs.Run.{Run, not_begun, first_step, run, items_with, items_from}
use Rattle.rv_machine.specs.Laws.{joined, items_joined, RunsJoin, ItemsJoin}

pub run-zero : (program : Program) (s : State) → run program 0 s ≡ not_begun s
unfolding run
run-zero program s = refl

pub run-suc : (program : Program) (count : ℕ) (s : State) → run program (suc count) s ≡ first_step s (step_of program s) (λ next. run program count next)
unfolding run
run-suc program count s = refl

pub items-zero : (program : Program) (s : State) → items_from program 0 s ≡ []
unfolding items_from
items-zero program s = refl

pub items-suc : (program : Program) (count : ℕ) (s : State) → items_from program (suc count) s ≡ items_with (step_of program s) (λ next. items_from program count next)
unfolding items_from
items-suc program count s = refl

abbrev one_more : Run → Run
one_more r = record { last = r.last; ending = r.ending; steps = suc r.steps }

one_more-joined : (e : Option Ending) (r q : Run) → one_more (joined e r q) ≡ joined e (one_more r) q
one_more-joined None r q =
    let more : suc (r.steps + q.steps) ≡ suc r.steps + q.steps = omega arith in
    λ i. record { last = q.last; ending = q.ending; steps = more i }
one_more-joined (Some e) r q = refl

none_before : (r : Run) → r ≡ record { last = r.last; ending = r.ending; steps = 0 + r.steps }
none_before r =
    let more : r.steps ≡ 0 + r.steps = omega arith in
    λ i. record { last = r.last; ending = r.ending; steps = more i }

step_joins : (o : StepOutcome) (s : State) (f g whole : State → Run) → ((t : State) → whole t ≡ joined (f t).ending (f t) (g (f t).last)) → first_step s o whole ≡ joined (first_step s o f).ending (first_step s o f) (g (first_step s o f).last)
step_joins (Went t items) s f g whole h = ap one_more (h t) ∙ one_more-joined (f t).ending (f t) (g (f t).last)
step_joins (EndedWith e items) s f g whole h = refl

pub run_joins : RunsJoin
run_joins program zero n s =
    let count : 0 + n ≡ n = omega arith in
    ap (λ k. run program k s) count ∙ none_before (run program n s)
    ∙ ap (λ (r : Run). joined r.ending r (run program n r.last)) (sym (run-zero program s))
run_joins program (suc m) n s =
    let count : suc m + n ≡ suc (m + n) = omega arith in
    ap (λ k. run program k s) count ∙ run-suc program (m + n) s
    ∙ step_joins (step_of program s) s (λ t. run program m t) (λ t. run program n t) (λ t. run program (m + n) t) (λ t. run_joins program m n t)
    ∙ ap (λ (r : Run). joined r.ending r (run program n r.last)) (sym (run-suc program m s))

items_joined-after : (e : Option Ending) (before first after : List Item) → before ++ items_joined e first after ≡ items_joined e (before ++ first) after
items_joined-after None before first after = sym (append_assoc before first after)
items_joined-after (Some e) before first after = refl

step_items_join : (o : StepOutcome) (s : State) (f : State → Run) (of_f of_g whole : State → List Item) → ((t : State) → whole t ≡ items_joined (f t).ending (of_f t) (of_g (f t).last)) → items_with o whole ≡ items_joined (first_step s o f).ending (items_with o of_f) (of_g (first_step s o f).last)
step_items_join (Went t items) s f of_f of_g whole h = ap (λ xs. items ++ xs) (h t) ∙ items_joined-after (f t).ending items (of_f t) (of_g (f t).last)
step_items_join (EndedWith e items) s f of_f of_g whole h = refl

pub item_lists_join : ItemsJoin
item_lists_join program zero n s =
    let count : 0 + n ≡ n = omega arith in
    ap (λ k. items_from program k s) count
    ∙ ap (λ (xs : List Item). xs ++ items_from program n s) (sym (items-zero program s))
    ∙ ap (λ (r : Run). items_joined r.ending (items_from program 0 s) (items_from program n r.last)) (sym (run-zero program s))
item_lists_join program (suc m) n s =
    let count : suc m + n ≡ suc (m + n) = omega arith in
    ap (λ k. items_from program k s) count ∙ items-suc program (m + n) s
    ∙ step_items_join (step_of program s) s (λ t. run program m t) (λ t. items_from program m t) (λ t. items_from program n t) (λ t. items_from program (m + n) t) (λ t. item_lists_join program m n t)
    ∙ ap (λ (r : Run). items_joined r.ending (items_with (step_of program s) (λ t. items_from program m t)) (items_from program n r.last)) (sym (run-suc program m s))
    ∙ ap (λ (xs : List Item). items_joined (run program (suc m) s).ending xs (items_from program n (run program (suc m) s).last)) (sym (items-suc program m s))
