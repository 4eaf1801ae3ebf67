-- The edges between the code words of an image that aren't recorded: what each is, and that none stands twice.
use Rattle.std.proofs.Common.{◌≡◌, inl, inr, ℕ, zero, suc, ◌+◌, ◌*◌, ◌<◌, ◌≤◌, ◌^◌, Bool, true, false, cond, List, [], ◌∷◌, ◌++◌, length, get_or, Option, Some, None, refl, sym, ap, subst, ◌∙◌, arith}
use Rattle.std.specs.Prelude.{⊤, IfSome, slice_get, flat_map}
use Rattle.std.specs.List.{AllByRecursion, cons_option, range_with_len}
use Rattle.std.specs.Option.{option_map, option_map_or}
use Rattle.std.proofs.lemmas.Bool.{cases_Bool}
use Rattle.std.proofs.lemmas.Option.{slice_get-get_or}
use Rattle.rv_code.specs.declared.class.Class.{Class}
use Rattle.rv_code.specs.declared.extent.Extent.{Extent}
use Rattle.rv_code.specs.Code.{extents_of}
use Rattle.rv_code.specs.Image.{word_count}
use Rattle.rv_code.specs.Places.{address_of, place_of, code_addresses, AreCodeExtents}
use Rattle.rv_code.proofs.LawsOfLookUps.{place_of-address_of}
use Rattle.rv_code.proofs.LawsOfPlaces.{length-code_addresses_of_ranges}
use Rattle.rv_code.proofs.LawsOfElements.{all_cons_option}
use Rattle.flow_graph.specs.declared.edge.Edge.{Edge}
use Rattle.flow_graph.specs.CodeParts.{CodeParts, has_code}
use Rattle.flow_graph.specs.Edges.{edges_of, kind_by, is_taken_kind, way_among}
use Rattle.flow_graph.specs.Laws.{BlocksAreRuns, WordsAreInOneBlock}
use Rattle.flow_tree.specs.WitnessEdges.{CutsCycles}
use Rattle.schema_form.specs.declared.word.SchemaWord.{SchemaWord}
use Rattle.schema_form.specs.Flags.{is_set}
use Rattle.schema_form.specs.FreeEdges.{free_edge, free_edges_as, free_edges_at, free_edges}
use Rattle.schema_form.specs.OfImage.{IsRecorded, IsSchemaWordOf, AreSchemaWordsOf}
use Rattle.schema_form.specs.Rules.{witness_mark, way_of}
use Rattle.schema_form.specs.Valid.{EndsBelowStack}
use Rattle.schema_form.proofs.Below.{is_code_small}
use Rattle.schema_form.proofs.EdgesAt.{edges_there}
use Rattle.schema_form.proofs.MadeWords.{code_at_place}
use Rattle.schema_form.proofs.OwnWords.{class_found, way_found, mark_found, mark_tells, out_recorded, class}
use Rattle.schema_form.proofs.Rows.{all_rows, all_at}

-- an edge of a code word by a way that isn't recorded
pub record IsFree (parts : CodeParts) (marks : List Bool) (edge : Edge) : Type 0 where
  pub taken : Bool
  pub kind : edge.kind ≡ kind_by taken
  pub at : address_of (extents_of parts.code) edge.source ≡ Some edge.from
  pub way : way_among parts.code taken edge.from ≡ Some edge.target
  pub to : edge.to ≡ place_of (extents_of parts.code) edge.target
  pub clear : IsRecorded parts marks taken edge.from → ⊥

-- edges in the order of their places, and Fall before Taken
abbrev key : Edge → ℕ
key edge = 2 * edge.source + cond (is_taken_kind edge.kind) 1 0

abbrev Rise : (low : ℕ) → List Edge → Type 0
Rise low [] = ⊤
Rise low (edge ∷ edges) = (low ≤ key edge) × Rise (key edge + 1) edges

rise_lower : (low high : ℕ) (edges : List Edge) → low ≤ high → Rise high edges → Rise low edges
rise_lower low high [] less rise = tt
rise_lower low high (edge ∷ edges) less rise = (omega (arith, less, rise.0), rise.1)

rise_above : (low : ℕ) (edges : List Edge) (k : ℕ) (edge : Edge) → Rise low edges → slice_get edges k ≡ Some edge → low ≤ key edge
rise_above low [] k edge rise is = absurd (cc is)
rise_above low (first ∷ edges) zero edge rise is = subst (λ (e : Edge). low ≤ key e) (one_edge is) rise.0
  where
    one_edge : ◌≡◌ {A = Option Edge} (Some first) (Some edge) → first ≡ edge
    one_edge both = cc both
rise_above low (first ∷ edges) (suc k) edge rise is = let above = rise_above (key first + 1) edges k edge rise.1 is in omega (arith, above, rise.0)

rise_once : (low : ℕ) (edges : List Edge) (one other : ℕ) (x y : Edge) → Rise low edges → slice_get edges one ≡ Some x → slice_get edges other ≡ Some y → key x ≡ key y → one ≡ other
rise_once low [] one other x y rise is is_too same = absurd (cc is)
rise_once low (first ∷ edges) zero zero x y rise is is_too same = refl
rise_once low (first ∷ edges) zero (suc other) x y rise is is_too same =
    let here : first ≡ x = one_edge is in
    let mine : key first ≡ key x = ap key here in
    let above = rise_above (key first + 1) edges other y rise.1 is_too in
    absurd (omega (arith, mine, same, above))
  where
    one_edge : ◌≡◌ {A = Option Edge} (Some first) (Some x) → first ≡ x
    one_edge both = cc both
rise_once low (first ∷ edges) (suc one) zero x y rise is is_too same =
    let here : first ≡ y = one_edge is_too in
    let mine : key first ≡ key y = ap key here in
    let above = rise_above (key first + 1) edges one x rise.1 is in
    absurd (omega (arith, mine, same, above))
  where
    one_edge : ◌≡◌ {A = Option Edge} (Some first) (Some y) → first ≡ y
    one_edge both = cc both
rise_once low (first ∷ edges) (suc one) (suc other) x y rise is is_too same = ap suc (rise_once (key first + 1) edges one other x y rise.1 is is_too same)

two_rise : (place : ℕ) (one other : Option Edge) (rest : List Edge) → IfSome one (λ edge. key edge ≡ 2 * place + 0) → IfSome other (λ edge. key edge ≡ 2 * place + 1)
    → Rise (2 * place + 2) rest → Rise (2 * place) (cons_option one (cons_option other []) ++ rest)
two_rise place None None rest first second rise = rise_lower (2 * place) (2 * place + 2) rest (omega arith) rise
two_rise place None (Some other) rest first second rise = (omega (arith, second), rise_lower (key other + 1) (2 * place + 2) rest (omega (arith, second)) rise)
two_rise place (Some one) None rest first second rise = (omega (arith, first), rise_lower (key one + 1) (2 * place + 2) rest (omega (arith, first)) rise)
two_rise place (Some one) (Some other) rest first second rise =
    (omega (arith, first), (omega (arith, first, second), rise_lower (key other + 1) (2 * place + 2) rest (omega (arith, second)) rise))

rows_rise : (f : ℕ → List Edge) (from count : ℕ) → ((k : ℕ) → k < from + count → (rest : List Edge) → Rise (2 * k + 2) rest → Rise (2 * k) (f k ++ rest))
    → Rise (2 * from) (flat_map f (range_with_len from count))
rows_rise f from zero each = tt
rows_rise f from (suc count) each =
    let next : 2 * (from + 1) ≡ 2 * from + 2 = omega arith in
    each from (omega arith) (flat_map f (range_with_len (from + 1) count))
    (subst (λ (n : ℕ). Rise n (flat_map f (range_with_len (from + 1) count))) next (rows_rise f (from + 1) count (λ k less. each k (omega (arith, less)))))

key_by : (stretches : List Extent) (place address : ℕ) (taken marked : Bool) (way : Option ℕ)
    → IfSome (cond marked None (option_map (λ (target : ℕ). record { from = address; kind = kind_by taken; source = place; to = place_of stretches target; target = target }) way))
    (λ (edge : Edge). key edge ≡ 2 * place + cond taken 1 0)
key_by stretches place address taken true way = tt
key_by stretches place address taken false None = tt
key_by stretches place address true false (Some target) = refl
key_by stretches place address false false (Some target) = refl

module _ (parts : CodeParts) (marks : List Bool) (words : List SchemaWord) (order : AreCodeExtents (extents_of parts.code)) (below : AllByRecursion EndsBelowStack (extents_of parts.code))
    (runs : BlocksAreRuns parts) (once : WordsAreInOneBlock parts) (cuts : CutsCycles (edges_of parts) marks) (are : AreSchemaWordsOf parts marks (word_count parts.code) words) where
  abbrev stretches : List Extent
  stretches = extents_of parts.code

  pub code_at : (place address : ℕ) → address_of stretches place ≡ Some address → has_code parts address ≡ true
  code_at place address at = code_at_place parts.code place address order at

  pub small_at : (address : ℕ) → has_code parts address ≡ true → address + 4 < 2 ^ 32
  small_at address code = let less = is_code_small stretches address below code in omega (arith, less)

  module _ (place address : ℕ) (word : SchemaWord) (at : address_of stretches place ≡ Some address) (is : IsSchemaWordOf parts marks address word) where
    abbrev own_class : Class
    own_class = class parts marks runs once cuts address word (small_at address (code_at place address at)) (code_at place address at) is

    free_by : (taken marked : Bool) (way : Option ℕ) → is_set (witness_mark taken) word.flags ≡ marked → way_of taken own_class word.raw address ≡ way
        → IfSome (cond marked None (option_map (λ (target : ℕ). record { from = address; kind = kind_by taken; source = place; to = place_of stretches target; target = target }) way))
        (IsFree parts marks)
    free_by taken true way marked leads = tt
    free_by taken false None marked leads = tt
    free_by taken false (Some target) marked leads =
        let code = code_at place address at in
        let small = small_at address code in
        record {
          taken = taken;
          kind = refl;
          at = at;
          way = sym (way_found parts marks runs once cuts address word small code is taken) ∙ leads;
          to = refl;
          clear = λ recorded.
              let clash : false ≡ true =
              sym marked ∙ mark_found parts marks runs once cuts address word small code is taken ∙ (mark_tells parts marks runs once cuts address word small code is taken).1 recorded in
              cc clash;
        }

    own_free : AllByRecursion (IsFree parts marks) (free_edges_as stretches word place address own_class)
    own_free =
        all_cons_option (IsFree parts marks) (free_edge stretches false own_class word place address) _ (free_by false (is_set (witness_mark false) word.flags) (way_of false own_class word.raw address) refl refl)
        (all_cons_option (IsFree parts marks) (free_edge stretches true own_class word place address) [] (free_by true (is_set (witness_mark true) word.flags) (way_of true own_class word.raw address) refl refl) tt)

    own_rise : (rest : List Edge) → Rise (2 * place + 2) rest → Rise (2 * place) (free_edges_as stretches word place address own_class ++ rest)
    own_rise rest rise =
        two_rise place (free_edge stretches false own_class word place address) (free_edge stretches true own_class word place address) rest
        (key_by stretches place address false (is_set (witness_mark false) word.flags) (way_of false own_class word.raw address))
        (key_by stretches place address true (is_set (witness_mark true) word.flags) (way_of true own_class word.raw address)) rise

    own_row : slice_get words place ≡ Some word → free_edges_as stretches word place address own_class ≡ free_edges_at stretches words place
    own_row there =
        let code = code_at place address at in
        sym (ap (λ (o : Option Class). option_map_or (free_edges_as stretches word place address) o []) (class_found parts marks runs once cuts address word (small_at address code) code is))
        ∙ edges_there stretches words place word address there at

  none_word : SchemaWord
  none_word = record { flags = 0; raw = 0; mask = 0 }

  module _ (place : ℕ) (within : place < length words) where
    word_there : slice_get words place ≡ Some (get_or words place none_word)
    word_there = slice_get-get_or words place none_word within

    address_there : address_of stretches place ≡ Some (get_or (code_addresses stretches) place 0)
    address_there = slice_get-get_or (code_addresses stretches) place 0 (let long = are.count in omega (arith, within, long, length-code_addresses_of_ranges parts.code))

    own_word : IsSchemaWordOf parts marks (get_or (code_addresses stretches) place 0) (get_or words place none_word)
    own_word = are.each place _ _ address_there word_there

    row_free : AllByRecursion (IsFree parts marks) (free_edges_at stretches words place)
    row_free = subst (AllByRecursion (IsFree parts marks)) (own_row place _ _ address_there own_word word_there) (own_free place _ _ address_there own_word)

    row_rise : (rest : List Edge) → Rise (2 * place + 2) rest → Rise (2 * place) (free_edges_at stretches words place ++ rest)
    row_rise rest rise =
        subst (λ (edges : List Edge). Rise (2 * place) (edges ++ rest)) (own_row place _ _ address_there own_word word_there) (own_rise place _ _ address_there own_word rest rise)

  all_free : AllByRecursion (IsFree parts marks) (free_edges stretches words)
  all_free = all_rows (IsFree parts marks) (free_edges_at stretches words) 0 (length words) (λ place low high. row_free place (omega (arith, high)))

  pub free_at : (k : ℕ) (edge : Edge) → slice_get (free_edges stretches words) k ≡ Some edge → IsFree parts marks edge
  free_at k edge there = all_at (IsFree parts marks) (free_edges stretches words) k edge all_free there

  all_rise : Rise (2 * 0) (free_edges stretches words)
  all_rise = rows_rise (free_edges_at stretches words) 0 (length words) (λ place high rest rise. row_rise place (omega (arith, high)) rest rise)

  -- of one word and one way there is one edge
  pub one_edge : (one other : ℕ) (x y : Edge) → slice_get (free_edges stretches words) one ≡ Some x → slice_get (free_edges stretches words) other ≡ Some y → x.from ≡ y.from → x.kind ≡ y.kind → one ≡ other
  one_edge one other x y there there_too from kind =
      let mine = place_of-address_of stretches x.source x.from order.rise (free_at one x there).at in
      let theirs = place_of-address_of stretches y.source y.from order.rise (free_at other y there_too).at in
      let sources : x.source ≡ y.source = same_source x.source y.source (sym mine ∙ ap (place_of stretches) from ∙ theirs) in
      rise_once (2 * 0) (free_edges stretches words) one other x y all_rise there there_too (λ i. 2 * sources i + cond (is_taken_kind (kind i)) 1 0)
    where
      same_source : (a b : ℕ) → ◌≡◌ {A = Option ℕ} (Some a) (Some b) → a ≡ b
      same_source a b both = cc both

  -- an edge leads to a code word
  pub target_code : (edge : Edge) → IsFree parts marks edge → has_code parts edge.target ≡ true
  target_code edge free = elim (cases_Bool (has_code parts edge.target)) [
    | inl inside ↦ inside
    | inr outside ↦
        let code = code_at edge.source edge.from free.at in
        absurd (free.clear (out_recorded parts marks runs once cuts free.taken edge.from edge.target (small_at edge.from code) code free.way outside))
  ]
