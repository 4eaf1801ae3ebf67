-- A node is visited that was not before: what stays, and what comes of it.
use Rattle.std.proofs.Common.{◌≡◌, ◌⊎◌, inl, inr, ℕ, ◌+◌, ◌-◌, ◌<◌, ◌≤◌, List, [], ◌∷◌, ◌++◌, length, get_or, cond, Option, Some, None, refl, sym, ap, ◌∙◌, subst, arith, length-append}
use Rattle.std.specs.Prelude.{slice_get, slice_set, is_none, count_by}
use Rattle.std.proofs.lemmas.Bool.{cases_eq, cases_lt}
use Rattle.std.proofs.lemmas.List.{length-set}
use Rattle.std.proofs.lemmas.List.Sums.{sum_by-set}
use Rattle.std.proofs.lemmas.Option.{none-some, same_Some, slice_get_within, slice_get-get_or, get_or_from_slice_get, option_and_then_some}
use Rattle.rv_code.proofs.LawsOfElements.{set_here, set_elsewhere}
use Rattle.regen_path.specs.declared.arcs.Ways.{Ways}
use Rattle.regen_path.specs.declared.growing.Link.{Link}
use Rattle.regen_path.specs.declared.growing.Link.TheVariants.{Root, Up, Down}
use Rattle.regen_path.specs.declared.growing.Visit.{Visit}
use Rattle.regen_path.specs.Arcs.{way_by, way_from}
use Rattle.regen_path.specs.Inner.Growing.{AreNear, IsAbove, same, under, parent_of, IsByDepth, HangsBy, IsNumbered, AreNumbered, WaitsFor, AreWaiting, AreGrowing, IsStep, ahead, behind, WaitMore}
use Rattle.regen_path.specs.Inner.Sources.{LeadWithin}
use Rattle.regen_path.proofs.Above.{above_wider}
use Rattle.regen_path.proofs.Listing.{get_front, get_end, get_either}

-- one node fewer has no number
pub one_fewer : (numbers : List (Option ℕ)) (node number : ℕ) → slice_get numbers node ≡ Some None → count_by is_none (slice_set numbers node (Some number)) + 1 ≡ count_by is_none numbers
one_fewer numbers node number fresh =
    let sums = sum_by-set (λ (o : Option ℕ). cond (is_none o) 1 0) numbers node (Some number) None (slice_get_within numbers node None fresh) in
    let read : ◌≡◌ {A = Option ℕ} (get_or numbers node None) None = get_or_from_slice_get numbers node None None fresh in
    let one : ◌≡◌ {A = ℕ} (cond (is_none (get_or numbers node None)) 1 0) 1 = ap (λ (o : Option ℕ). cond (is_none o) 1 0) read in
    omega (arith, sums, one)

-- an arc leads out of a node of the table
pub from_within : (table : List Ways) (kind from to : ℕ) → way_from table kind from ≡ Some to → from < length table
from_within table kind from to is = option_and_then_some (λ (ways : Ways). way_by ways kind) (slice_get table from) to is (λ ways there way. slice_get_within table from ways there)

near_turned : (table : List Ways) (one other : ℕ) → AreNear table one other → AreNear table other one
near_turned table one other (inl linked) = inr linked
near_turned table one other (inr linked) = inl linked

nothing_waits : (node : ℕ) → WaitsFor [] node → ⊥
nothing_waits node (at, visit, is, node_is) = none-some visit is

module _ {table : List Ways} {visits : List Visit} {numbers : List (Option ℕ)} {waiting more : List Visit} (visit : Visit)
    (waits : WaitMore table visit.node (length visits) waiting more) (all : (other : ℕ) → AreNear table visit.node other → WaitsFor more other)
    (numbered : AreNumbered (length table) visits numbers) (fresh : slice_get numbers visit.node ≡ Some None) where
  abbrev seen : List Visit
  seen = visits ++ visit ∷ []

  abbrev marked : List (Option ℕ)
  marked = slice_set numbers visit.node (Some (length visits))

  long_seen : length seen ≡ length visits + 1
  long_seen = length-append visits (visit ∷ [])

  wider : {high low : ℕ} → IsAbove visits high low → IsAbove seen high low
  wider above = above_wider visits seen (λ at v is. get_front visits visit at v is) above

  here_is : slice_get seen (length visits) ≡ Some visit
  here_is = get_end visits visit

  hangs_wider : (node : ℕ) (link : Link) → HangsBy table visits node link → HangsBy table seen node link
  hangs_wider node Root hangs = hangs
  hangs_wider node (Up parent) hangs = (hangs.0, get_front visits visit parent hangs.0 hangs.1, hangs.2)
  hangs_wider node (Down parent) hangs = (hangs.0, get_front visits visit parent hangs.0 hangs.1, hangs.2)

  pub marked_here : IsNumbered marked visit.node (length visits)
  marked_here = set_here numbers visit.node (Some (length visits)) (slice_get_within numbers visit.node None fresh)

  not_fresh : (node number : ℕ) → IsNumbered numbers node number → node ≡ visit.node → ⊥
  not_fresh node number is equal = none-some number (same_Some None (Some number) (sym fresh ∙ ap (slice_get numbers) (sym equal) ∙ is))

  pub keeps : (node number : ℕ) → IsNumbered numbers node number → IsNumbered marked node number
  keeps node number is = set_elsewhere numbers visit.node node (Some (length visits)) (λ equal. not_fresh node number is equal) ∙ is

  numbered_either : (node number : ℕ) → IsNumbered marked node number → IsNumbered numbers node number ⊎ ((node ≡ visit.node) × (number ≡ length visits))
  numbered_either node number is = elim (cases_eq node visit.node) [
    | inl equal ↦ inr (
      equal,
      sym (same_Some (length visits) number (same_Some (Some (length visits)) (Some number) (sym marked_here ∙ ap (slice_get marked) (sym equal) ∙ is))),
    )
    | inr differ ↦ inl (sym (set_elsewhere numbers visit.node node (Some (length visits)) differ) ∙ is)
  ]

  number_within : (node number : ℕ) → IsNumbered numbers node number → number < length visits
  number_within node number is = let (v, at, v_node) = numbered.visit node number is in slice_get_within visits number v at

  pub numbered_more : AreNumbered (length table) seen marked
  numbered_more = record {
    long = length-set numbers visit.node (Some (length visits)) ∙ numbered.long;
    visit = λ node number is. elim (numbered_either node number is) [
      | inl old ↦ let (v, at, v_node) = numbered.visit node number old in (v, get_front visits visit number v at, v_node)
      | inr new ↦ (visit, ap (slice_get seen) new.1 ∙ here_is, sym new.0)
    ];
    number = λ number v is. elim (get_either visits visit number v is) [
      | inl old ↦ keeps v.node number (numbered.number number v old)
      | inr new ↦ ap (λ (w : Visit). slice_get marked w.node) new.1 ∙ marked_here ∙ ap (λ (n : ℕ). Some (Some n)) (sym new.0)
    ];
    left = let fewer = one_fewer numbers visit.node (length visits) fresh in omega (arith, fewer, numbered.left, long_seen);
  }

  pub order_more : IsByDepth table visits → HangsBy table visits visit.node visit.link
      → ((parent : ℕ) → parent_of visit.link ≡ Some parent → (parent < length visits) × IsAbove visits parent (length visits - 1)) → IsByDepth table seen
  order_more order hung parents = record {
    hangs = λ number v is. elim (get_either visits visit number v is) [
      | inl old ↦ hangs_wider v.node v.link (order.hangs number v old)
      | inr new ↦ subst (λ (w : Visit). HangsBy table seen w.node w.link) (sym new.1) (hangs_wider visit.node visit.link hung)
    ];
    lower = λ number parent v is hangs. elim (get_either visits visit number v is) [
      | inl old ↦ order.lower number parent v old hangs
      | inr new ↦ let (less, above) = parents parent (ap (λ (w : Visit). parent_of w.link) (sym new.1) ∙ hangs) in omega (arith, new.0)
    ];
    after = λ number parent v is hangs. elim (get_either visits visit number v is) [
      | inl old ↦ wider (order.after number parent v old hangs)
      | inr new ↦
          let (less, above) = parents parent (ap (λ (w : Visit). parent_of w.link) (sym new.1) ∙ hangs) in
          wider (subst (λ (n : ℕ). IsAbove visits parent (n - 1)) (sym new.0) above)
    ];
  }

  more_either : (at : ℕ) (v : Visit) → slice_get more at ≡ Some v → (slice_get waiting at ≡ Some v) ⊎ ((length waiting ≤ at) × IsStep table visit.node (length visits) v)
  more_either at v is = elim (cases_lt at (length waiting)) [
    | inl less ↦
        let old : slice_get waiting at ≡ Some (get_or waiting at v) = slice_get-get_or waiting at v less in
        let equal : get_or waiting at v ≡ v = same_Some (get_or waiting at v) v (sym (waits.front at (get_or waiting at v) old) ∙ is) in
        inl (old ∙ ap (λ (w : Visit). Some w) equal)
    | inr past ↦ inr (past, waits.back at v past is)
  ]

  step_parent : (v : Visit) (parent : ℕ) → IsStep table visit.node (length visits) v → parent_of v.link ≡ Some parent → parent ≡ length visits
  step_parent v parent (ahead link linked) hangs = same_Some parent (length visits) (sym hangs ∙ ap parent_of link)
  step_parent v parent (behind link linked) hangs = same_Some parent (length visits) (sym hangs ∙ ap parent_of link)

  step_hangs : (v : Visit) → IsStep table visit.node (length visits) v → parent_of v.link ≡ Some (length visits)
  step_hangs v (ahead link linked) = ap parent_of link
  step_hangs v (behind link linked) = ap parent_of link

  step_hung : (v : Visit) → IsStep table visit.node (length visits) v → HangsBy table seen v.node v.link
  step_hung v (ahead link linked) = subst (HangsBy table seen v.node) (sym link) (visit, here_is, linked)
  step_hung v (behind link linked) = subst (HangsBy table seen v.node) (sym link) (visit, here_is, linked)

  step_within : LeadWithin table → (v : Visit) → IsStep table visit.node (length visits) v → v.node < length table
  step_within within v (ahead link linked) = within linked.0 visit.node v.node linked.1
  step_within within v (behind link linked) = from_within table linked.0 v.node visit.node linked.1

  pub waiting_more : LeadWithin table → (root : ℕ) → root ≤ length visits → AreWaiting table visits waiting root
      → ((at parent : ℕ) (v : Visit) → slice_get waiting at ≡ Some v → parent_of v.link ≡ Some parent → IsAbove seen parent (length visits)) → AreWaiting table seen more root
  waiting_more within root least were below = record {
    within = λ at v is. elim (more_either at v is) [ inl old ↦ were.within at v old | inr new ↦ step_within within v new.1 ];
    hangs = λ at v is. elim (more_either at v is) [ inl old ↦ hangs_wider v.node v.link (were.hangs at v old) | inr new ↦ step_hung v new.1 ];
    parent = λ at v is. elim (more_either at v is) [
      | inl old ↦
          let (parent, hangs, high, low, above) = were.parent at v old in
          (parent, hangs, high, omega (arith, long_seen), subst (λ (n : ℕ). IsAbove seen parent n) behind_end (below at parent v old hangs))
      | inr new ↦ (length visits, step_hangs v new.1, least, omega (arith, long_seen), subst (λ (n : ℕ). IsAbove seen (length visits) n) behind_end same)
    ];
    nested = λ low high one other v w less is is_high hangs hangs_high. elim (more_either low v is) [
      | inl old ↦ elim (more_either high w is_high) [
        | inl old_high ↦ wider (were.nested low high one other v w less old old_high hangs hangs_high)
        | inr new_high ↦ subst (λ (n : ℕ). IsAbove seen one n) (sym (step_parent w other new_high.1 hangs_high)) (below low one v old hangs)
      ]
      | inr new ↦ elim (more_either high w is_high) [
        | inl old_high ↦ let inside = slice_get_within waiting high w old_high in absurd (omega arith)
        | inr new_high ↦ subst (λ (n : ℕ). IsAbove seen n other) (sym (step_parent v one new.1 hangs)) (subst (λ (n : ℕ). IsAbove seen (length visits) n) (sym (step_parent w other new_high.1 hangs_high)) same)
      ]
    ];
  }
    where
      behind_end : length visits ≡ length seen - 1
      behind_end = omega (arith, long_seen)

  pub covered_more : ((one other number : ℕ) → AreNear table one other → IsNumbered numbers one number → ((next : ℕ) × IsNumbered numbers other next) ⊎ (WaitsFor waiting other ⊎ (other ≡ visit.node)))
      → (one other number : ℕ) → AreNear table one other → IsNumbered marked one number → ((next : ℕ) × IsNumbered marked other next) ⊎ WaitsFor more other
  covered_more covered one other number near is = elim (numbered_either one number is) [
    | inr new ↦ inr (all other (subst (λ (n : ℕ). AreNear table n other) new.0 near))
    | inl old ↦ elim (covered one other number near old) [
      | inl there ↦ inl (there.0, keeps other there.0 there.1)
      | inr left ↦ elim left [
        | inl waited ↦ let (at, v, v_is, v_node) = waited in inr (at, v, waits.front at v v_is, v_node)
        | inr equal ↦ inl (length visits, ap (slice_get marked) equal ∙ marked_here)
      ]
    ]
  ]

  pub shared_more : ((one other number next : ℕ) → AreNear table one other → IsNumbered numbers one number → IsNumbered numbers other next → (top : ℕ) × IsAbove visits top number × IsAbove visits top next)
      → ((other next : ℕ) → AreNear table visit.node other → IsNumbered numbers other next → (top : ℕ) × IsAbove seen top (length visits) × IsAbove seen top next)
      → (one other number next : ℕ) → AreNear table one other → IsNumbered marked one number → IsNumbered marked other next → (top : ℕ) × IsAbove seen top number × IsAbove seen top next
  shared_more shared ours one other number next near is is_next = elim (numbered_either one number is) [
    | inl old ↦ elim (numbered_either other next is_next) [
      | inl old_next ↦ let (top, above, above_next) = shared one other number next near old old_next in (top, wider above, wider above_next)
      | inr new_next ↦
          let (top, above, above_next) = ours one number (subst (λ (n : ℕ). AreNear table n one) new_next.0 (near_turned table one other near)) old in
          (top, above_next, subst (λ (n : ℕ). IsAbove seen top n) (sym new_next.1) above)
    ]
    | inr new ↦ elim (numbered_either other next is_next) [
      | inl old_next ↦
          let (top, above, above_next) = ours other next (subst (λ (n : ℕ). AreNear table n other) new.0 near) old_next in
          (top, subst (λ (n : ℕ). IsAbove seen top n) (sym new.1) above, above_next)
      | inr new_next ↦ (
        length visits,
        subst (λ (n : ℕ). IsAbove seen (length visits) n) (sym new.1) same,
        subst (λ (n : ℕ). IsAbove seen (length visits) n) (sym new_next.1) same,
      )
    ]
  ]

  -- the root of a tree is visited, and nothing waited
  pub growing_root : LeadWithin table → (root : ℕ) → visit.link ≡ Root → waiting ≡ [] → AreGrowing table visits numbers [] root → AreGrowing table seen marked more (length visits)
  growing_root within root link none growing = record {
    numbered = numbered_more;
    order = order_more growing.order (subst (HangsBy table visits visit.node) (sym link) tt) (λ parent hangs. absurd (none-some parent (sym (ap parent_of link) ∙ hangs)));
    tree = λ number least most. let equal : length visits ≡ number = omega (arith, long_seen) in subst (λ (n : ℕ). IsAbove seen (length visits) n) equal same;
    earlier = λ one other number near is less. elim (numbered_either one number is) [
      | inl old ↦ elim (growing.covered one other number near old) [
        | inl there ↦ (there.0, keeps other there.0 there.1, number_within other there.0 there.1)
        | inr waited ↦ absurd (nothing_waits other waited)
      ]
      | inr new ↦ absurd (omega (arith, new.1))
    ];
    shared = shared_more growing.shared (λ other next near is. elim (growing.covered other visit.node next (near_turned table visit.node other near) is) [
      | inl there ↦ absurd (not_fresh visit.node there.0 there.1 refl)
      | inr waited ↦ absurd (nothing_waits visit.node waited)
    ]);
    waits = waiting_more within (length visits) (omega arith) (record {
      within = λ at v is. absurd (nothing at v is);
      hangs = λ at v is. absurd (nothing at v is);
      parent = λ at v is. absurd (nothing at v is);
      nested = λ low high one other v w less is is_high hangs hangs_high. absurd (nothing low v is);
    }) (λ at parent v is hangs. absurd (nothing at v is));
    covered = covered_more (λ one other number near is. elim (growing.covered one other number near is) [
      | inl there ↦ inl there
      | inr waited ↦ absurd (nothing_waits other waited)
    ]);
  }
    where
      nothing : (at : ℕ) (v : Visit) → slice_get waiting at ≡ Some v → ⊥
      nothing at v is = none-some v (sym (ap (λ (list : List Visit). slice_get list at) none) ∙ is)

  -- a node that waited is visited
  pub growing_on : LeadWithin table → (root : ℕ) → AreGrowing table visits numbers (waiting ++ visit ∷ []) root → AreGrowing table seen marked more root
  growing_on within root growing = on (growing.waits.parent (length waiting) visit (get_end waiting visit))
    where
      at_end : slice_get (waiting ++ visit ∷ []) (length waiting) ≡ Some visit
      at_end = get_end waiting visit

      front : (at : ℕ) (v : Visit) → slice_get waiting at ≡ Some v → slice_get (waiting ++ visit ∷ []) at ≡ Some v
      front at v is = get_front waiting visit at v is

      on : (parent : ℕ) × (parent_of visit.link ≡ Some parent) × (root ≤ parent) × (parent < length visits) × IsAbove visits parent (length visits - 1) → AreGrowing table seen marked more root
      on (parent, hangs, high, low, above) = record {
        numbered = numbered_more;
        order = order_more growing.order (growing.waits.hangs (length waiting) visit at_end) (λ other hung.
            let equal : parent ≡ other = same_Some parent other (sym hangs ∙ hung) in
            (omega arith, subst (λ (n : ℕ). IsAbove visits n (length visits - 1)) equal above));
        tree = tree;
        earlier = λ one other number near is less. elim (numbered_either one number is) [
          | inl old ↦ let (next, next_is, below) = growing.earlier one other number near old less in (next, keeps other next next_is, below)
          | inr new ↦ absurd (omega (arith, new.1))
        ];
        shared = shared_more growing.shared (λ other next near is. elim (cases_lt next root) [
          | inl less ↦
              let (number, number_is, below) = growing.earlier other visit.node next (near_turned table visit.node other near) is less in
              absurd (not_fresh visit.node number number_is refl)
          | inr more_than ↦ (root, tree (length visits) (omega arith) (omega (arith, long_seen)), wider (growing.tree next more_than (number_within other next is)))
        ]);
        waits = waiting_more within root (omega arith) (record {
          within = λ at v is. growing.waits.within at v (front at v is);
          hangs = λ at v is. growing.waits.hangs at v (front at v is);
          parent = λ at v is. growing.waits.parent at v (front at v is);
          nested = λ low_at high_at one other v w less is is_high hung hung_high. growing.waits.nested low_at high_at one other v w less (front low_at v is) (front high_at w is_high) hung hung_high;
        }) (λ at other v is hung.
            let inside = slice_get_within waiting at v is in
            under visit here_is hangs (wider (growing.waits.nested at (length waiting) other parent v visit inside (front at v is) at_end hung hangs)));
        covered = covered_more (λ one other number near is. elim (growing.covered one other number near is) [
          | inl there ↦ inl there
          | inr waited ↦ waited_either other waited
        ]);
      }
        where
          tree : (number : ℕ) → root ≤ number → number < length seen → IsAbove seen root number
          tree number least most = elim (cases_lt number (length visits)) [
            | inl less ↦ wider (growing.tree number least less)
            | inr past ↦
                let equal : length visits ≡ number = omega (arith, long_seen) in
                subst (λ (n : ℕ). IsAbove seen root n) equal (under visit here_is hangs (wider (growing.tree parent high low)))
          ]

          waited_either : (other : ℕ) → WaitsFor (waiting ++ visit ∷ []) other → ((next : ℕ) × IsNumbered numbers other next) ⊎ (WaitsFor waiting other ⊎ (other ≡ visit.node))
          waited_either other (at, v, is, node) = elim (get_either waiting visit at v is) [
            | inl old ↦ inr (inl (at, v, old, node))
            | inr new ↦ inr (inr (sym node ∙ ap (λ (w : Visit). w.node) new.1))
          ]

-- a node that waited was visited already
pub growing_past : {table : List Ways} {visits : List Visit} {numbers : List (Option ℕ)} {waiting : List Visit} (visit : Visit) (root number : ℕ) → IsNumbered numbers visit.node number
    → AreGrowing table visits numbers (waiting ++ visit ∷ []) root → AreGrowing table visits numbers waiting root
growing_past {table} {visits} {numbers} {waiting} visit root number is growing = record {
  numbered = growing.numbered;
  order = growing.order;
  tree = growing.tree;
  earlier = growing.earlier;
  shared = growing.shared;
  waits = record {
    within = λ at v at_is. growing.waits.within at v (front at v at_is);
    hangs = λ at v at_is. growing.waits.hangs at v (front at v at_is);
    parent = λ at v at_is. growing.waits.parent at v (front at v at_is);
    nested = λ low high one other v w less low_is high_is hung hung_high. growing.waits.nested low high one other v w less (front low v low_is) (front high w high_is) hung hung_high;
  };
  covered = λ one other from near from_is. elim (growing.covered one other from near from_is) [
    | inl there ↦ inl there
    | inr waited ↦ past other waited
  ];
}
  where
    front : (at : ℕ) (v : Visit) → slice_get waiting at ≡ Some v → slice_get (waiting ++ visit ∷ []) at ≡ Some v
    front at v at_is = get_front waiting visit at v at_is

    past : (other : ℕ) → WaitsFor (waiting ++ visit ∷ []) other → ((next : ℕ) × IsNumbered numbers other next) ⊎ WaitsFor waiting other
    past other (at, v, at_is, node) = elim (get_either waiting visit at v at_is) [
      | inl old ↦ inr (at, v, old, node)
      | inr new ↦ inl (number, ap (slice_get numbers) (sym node ∙ ap (λ (w : Visit). w.node) new.1) ∙ is)
    ]
