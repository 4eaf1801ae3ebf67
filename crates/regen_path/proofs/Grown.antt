-- Trees grow, visit by visit.
use Rattle.std.proofs.Common.{◌≡◌, ℕ, ◌+◌, ◌*◌, ◌<◌, true, false, List, [], ◌∷◌, ◌++◌, length, get_or, replicate, cond, Option, Some, None, refl, sym, ap, ◌∙◌, subst, arith}
use Rattle.std.specs.Prelude.{slice_get, slice_set, is_none, is_some, count_by}
use Rattle.std.proofs.lemmas.List.{length-replicate, get_or-replicate}
use Rattle.std.proofs.lemmas.List.Folds.{sum_by-replicate}
use Rattle.std.proofs.lemmas.Option.{none-some, same_Some, slice_get_within, slice_get-get_or}
use Rattle.regen_path.specs.declared.arcs.Ways.{Ways}
use Rattle.regen_path.specs.declared.growing.Link.TheVariants.{Root}
use Rattle.regen_path.specs.declared.growing.Visit.{Visit}
use Rattle.regen_path.specs.declared.growing.Growth.{Growth}
use Rattle.regen_path.specs.Inner.Growing.{IsNumbered, AreNumbered, AreGrowing, AreWhole, IsEntered, work_left}
use Rattle.regen_path.specs.Inner.Sources.{LeadWithin}
use Rattle.regen_path.proofs.Entered.{one_fewer, keeps, marked_here, growing_root, growing_on, growing_past}
use Rattle.regen_path.proofs.Listing.{get_end}

module _ (table : List Ways) (mid new : Growth) (visit : Visit) (fresh : slice_get mid.numbers.items visit.node ≡ Some None) (entered : IsEntered table mid new visit) where
  pub numbers_kept : (numbered : AreNumbered (length table) mid.visits.items mid.numbers.items) (node number : ℕ) → IsNumbered mid.numbers.items node number → IsNumbered new.numbers.items node number
  numbers_kept numbered node number is =
      subst (λ (numbers : List (Option ℕ)). IsNumbered numbers node number) (sym entered.numbers) (keeps visit entered.waits entered.all numbered fresh node number is)

  pub number_given : (numbered : AreNumbered (length table) mid.visits.items mid.numbers.items) → IsNumbered new.numbers.items visit.node (length mid.visits.items)
  number_given numbered =
      subst (λ (numbers : List (Option ℕ)). IsNumbered numbers visit.node (length mid.visits.items)) (sym entered.numbers) (marked_here visit entered.waits entered.all numbered fresh)

  now_growing : (root : ℕ) → AreGrowing table (mid.visits.items ++ visit ∷ []) (slice_set mid.numbers.items visit.node (Some (length mid.visits.items))) new.waiting.items root
      → AreGrowing table new.visits.items new.numbers.items new.waiting.items root
  now_growing root growing =
      subst (λ (visits : List Visit). AreGrowing table visits new.numbers.items new.waiting.items root) (sym entered.visits)
      (subst (λ (numbers : List (Option ℕ)). AreGrowing table (mid.visits.items ++ visit ∷ []) numbers new.waiting.items root) (sym entered.numbers) growing)

  -- a root is visited
  pub root_entered : LeadWithin table → visit.link ≡ Root → (root : ℕ) → AreGrowing table mid.visits.items mid.numbers.items [] root → mid.waiting.items ≡ []
      → AreGrowing table new.visits.items new.numbers.items new.waiting.items (length mid.visits.items)
  root_entered within link root growing none =
      now_growing (length mid.visits.items) (growing_root visit entered.waits entered.all growing.numbered fresh within root link none growing)

  -- a node that waited is visited
  pub waited_entered : LeadWithin table → (root : ℕ) (waiting : List Visit) → waiting ≡ mid.waiting.items ++ visit ∷ [] → AreGrowing table mid.visits.items mid.numbers.items waiting root
      → AreGrowing table new.visits.items new.numbers.items new.waiting.items root
  waited_entered within root waiting is growing =
      now_growing root
      (growing_on visit entered.waits entered.all growing.numbered fresh within root (subst (λ (list : List Visit). AreGrowing table mid.visits.items mid.numbers.items list root) is growing))

  pub work_falls : work_left table new < work_left table mid + 1
  work_falls =
      let fewer = one_fewer mid.numbers.items visit.node (length mid.visits.items) fresh in
      let now : count_by is_none new.numbers.items + 1 ≡ count_by is_none mid.numbers.items = ap (λ (numbers : List (Option ℕ)). count_by is_none numbers + 1) entered.numbers ∙ fewer in
      less (count_by is_none new.numbers.items) (count_by is_none mid.numbers.items) (2 * length table + 3) (length new.waiting.items) (length mid.waiting.items) now (let few = entered.few in omega arith)
    where
      less : (one more each rest before : ℕ) → one + 1 ≡ more → rest < before + each → one * each + rest < more * each + before + 1
      less one more each rest before is small =
          let product : more * each ≡ one * each + each = ap (λ (n : ℕ). n * each) (sym is) ∙ (omega arith) in
          omega arith

-- a visit that is popped, and passed over
pub popped_past : (table : List Ways) (visits : List Visit) (numbers : List (Option ℕ)) (popped waiting : List Visit) (visit : Visit) (root number : ℕ) → IsNumbered numbers visit.node number
    → waiting ≡ popped ++ visit ∷ [] → AreGrowing table visits numbers waiting root → AreGrowing table visits numbers popped root
popped_past table visits numbers popped waiting visit root number is_number is growing =
    growing_past visit root number is_number (subst (λ (list : List Visit). AreGrowing table visits numbers list root) is growing)

pub popped_within : (table : List Ways) (visits : List Visit) (numbers : List (Option ℕ)) (popped waiting : List Visit) (visit : Visit) (root : ℕ)
    → waiting ≡ popped ++ visit ∷ [] → AreGrowing table visits numbers waiting root → visit.node < length numbers
popped_within table visits numbers popped waiting visit root is growing =
    let within = growing.waits.within (length popped) visit (ap (λ (list : List Visit). slice_get list (length popped)) is ∙ get_end popped visit) in
    subst (λ (n : ℕ). visit.node < n) (sym growing.numbered.long) within

abbrev pub no_numbers : ℕ → List (Option ℕ)
no_numbers count = replicate count None

no_numbers_long : (count : ℕ) → length (no_numbers count) ≡ count
no_numbers_long count = length-replicate count None

all_none : (count : ℕ) → count_by is_none (no_numbers count) ≡ count
all_none count = let sums = sum_by-replicate (λ (o : Option ℕ). cond (is_none o) 1 0) count None in omega (arith, sums)

pub fresh_node : (count node : ℕ) → node < count → slice_get (no_numbers count) node ≡ Some None
fresh_node count node within =
    slice_get-get_or (no_numbers count) node None (omega (arith, no_numbers_long count))
    ∙ ap (λ (o : Option ℕ). Some o) (get_or-replicate count node None None within)

-- before any visit
pub growing_none : (table : List Ways) → AreGrowing table [] (no_numbers (length table)) [] 0
growing_none table = record {
  numbered = record {
    long = no_numbers_long (length table);
    visit = λ node number is. absurd (nothing node number is);
    number = λ number visit is. absurd (none-some visit is);
    left = omega (arith, all_none (length table));
  };
  order = record {
    hangs = λ number visit is. absurd (none-some visit is);
    lower = λ number parent visit is hangs. absurd (none-some visit is);
    after = λ number parent visit is hangs. absurd (none-some visit is);
  };
  tree = λ number least most. absurd (omega arith);
  earlier = λ one other number near is less. absurd (omega arith);
  shared = λ one other number next near is is_next. absurd (nothing one number is);
  waits = record {
    within = λ at visit is. absurd (none-some visit is);
    hangs = λ at visit is. absurd (none-some visit is);
    parent = λ at visit is. absurd (none-some visit is);
    nested = λ low high one other visit above less is is_high hangs hangs_high. absurd (none-some visit is);
  };
  covered = λ one other number near is. absurd (nothing one number is);
}
  where
    nothing : (node number : ℕ) → IsNumbered (no_numbers (length table)) node number → ⊥
    nothing node number is =
        let within = slice_get_within (no_numbers (length table)) node (Some number) is in
        none-some number (same_Some None (Some number) (sym (fresh_node (length table) node (omega (arith, no_numbers_long (length table)))) ∙ is))

pub whole_none : (table : List Ways) (growth : Growth) (count : ℕ) → length table ≡ count → growth.visits.items ≡ [] → growth.numbers.items ≡ replicate count None → growth.waiting.items ≡ [] → AreWhole table growth
whole_none table growth count long visits numbers waiting = (
  0,
  subst (λ (list : List Visit). AreGrowing table list growth.numbers.items [] 0) (sym visits)
      (subst (λ (list : List (Option ℕ)). AreGrowing table [] list [] 0) (sym (numbers ∙ ap (λ (n : ℕ). replicate n None) (sym long))) (growing_none table)),
  waiting,
)

-- whether a node has a number, by the test of the code
pub no_number_of : (numbers : List (Option ℕ)) (node : ℕ) (found : Option ℕ) → node < length numbers → found ≡ get_or numbers node found → is_some found ≡ false → slice_get numbers node ≡ Some None
no_number_of numbers node None within read test = slice_get-get_or numbers node None within ∙ ap (λ (o : Option ℕ). Some o) (sym read)
no_number_of numbers node (Some number) within read test = absurd (let clash : true ≡ false = test in cc)

pub some_number_of : (numbers : List (Option ℕ)) (node : ℕ) (found : Option ℕ) → node < length numbers → found ≡ get_or numbers node found → is_some found ≡ true → (number : ℕ) × IsNumbered numbers node number
some_number_of numbers node None within read test = absurd (let clash : false ≡ true = test in cc)
some_number_of numbers node (Some number) within read test = (number, slice_get-get_or numbers node (Some number) within ∙ ap (λ (o : Option ℕ). Some o) (sym read))

-- what is asked where a node that waited comes up
module _ (table : List Ways) (growth : Growth) (visit : Visit) (waited : (root : ℕ) × AreGrowing table growth.visits.items growth.numbers.items (growth.waiting.items ++ visit ∷ []) root) where
  pub waited_within : visit.node < length growth.numbers.items
  waited_within = popped_within table growth.visits.items growth.numbers.items growth.waiting.items (growth.waiting.items ++ visit ∷ []) visit waited.0 refl waited.1

  pub waited_past : (found : Option ℕ) → found ≡ get_or growth.numbers.items visit.node found → is_some found ≡ true → (root : ℕ) × AreGrowing table growth.visits.items growth.numbers.items growth.waiting.items root
  waited_past found read test =
      let (number, is) = some_number_of growth.numbers.items visit.node found waited_within read test in
      (waited.0, popped_past table growth.visits.items growth.numbers.items growth.waiting.items (growth.waiting.items ++ visit ∷ []) visit waited.0 number is refl waited.1)

  pub waited_fresh : (found : Option ℕ) → found ≡ get_or growth.numbers.items visit.node found → is_some found ≡ false → slice_get growth.numbers.items visit.node ≡ Some None
  waited_fresh found read test = no_number_of growth.numbers.items visit.node found waited_within read test

  pub waited_on : (new : Growth) → LeadWithin table → slice_get growth.numbers.items visit.node ≡ Some None → IsEntered table growth new visit → (root : ℕ) × AreGrowing table new.visits.items new.numbers.items new.waiting.items root
  waited_on new within fresh entered = (waited.0, waited_entered table growth new visit fresh entered within waited.0 (growth.waiting.items ++ visit ∷ []) refl waited.1)

-- what is asked where a root is visited
module _ (table : List Ways) (growth : Growth) (visit : Visit) (whole : AreWhole table growth) where
  pub whole_on : (new : Growth) → LeadWithin table → visit.link ≡ Root → slice_get growth.numbers.items visit.node ≡ Some None → IsEntered table growth new visit
      → (root : ℕ) × AreGrowing table new.visits.items new.numbers.items new.waiting.items root
  whole_on new within link fresh entered = (length growth.visits.items, root_entered table growth new visit fresh entered within link whole.0 whole.1 whole.2)

  pub whole_given : (new : Growth) → slice_get growth.numbers.items visit.node ≡ Some None → IsEntered table growth new visit → (number : ℕ) × IsNumbered new.numbers.items visit.node number
  whole_given new fresh entered = (length growth.visits.items, number_given table growth new visit fresh entered whole.1.numbered)

pub grown_whole : (table : List Ways) (growth : Growth) → ((root : ℕ) × AreGrowing table growth.visits.items growth.numbers.items growth.waiting.items root) → growth.waiting.items ≡ [] → AreWhole table growth
grown_whole table growth growing none = (growing.0, subst (λ (list : List Visit). AreGrowing table growth.visits.items growth.numbers.items list growing.0) none growing.1, none)
