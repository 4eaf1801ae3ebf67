-- What is kept of the nodes says where directed walks lead.
use Rattle.std.proofs.Common.{◌≡◌, ◌<◌, Some, Option, ℕ, List, length, sym, ap, ◌∙◌, subst, arith}
use Rattle.std.specs.Prelude.{slice_get}
use Rattle.graph_paths.specs.Forests.{HasNoCycle}
use Rattle.regen_path.specs.declared.arcs.Ways.{Ways}
use Rattle.regen_path.specs.declared.growing.Visit.{Visit}
use Rattle.regen_path.specs.declared.heights.Heights.{Heights}
use Rattle.regen_path.specs.Arcs.{HasArc}
use Rattle.regen_path.specs.Walks.{ArcJoins}
use Rattle.regen_path.specs.Inner.Growing.{IsByDepth}
use Rattle.regen_path.specs.Inner.Sources.{LeadWithin}
use Rattle.regen_path.specs.Inner.Heights.{AreLasts, AreHeights}
use Rattle.regen_path.specs.Inner.Spots.{AreSpotsBy}
use Rattle.regen_path.proofs.Spotted.{spots_are, visits_few, each_has}
use Rattle.regen_path.proofs.paths.spots_in.Goals as goal

abbrev AllHave : List Ways → List (Option ℕ) → List Heights → Type 0
AllHave table numbers heights = (node : ℕ) → node < length table → (number : ℕ) × (slice_get numbers node ≡ Some (Some number)) × (number < length heights)

pub grown-requires-clause-forest : goal.grown-requires-clause-forest
grown-requires-clause-forest c = subst (λ (table : List Ways). HasNoCycle ArcJoins (HasArc table)) (sym c.in_ok-ground.ensures.ways) c.requires.forest

pub lasts_of-requires-clause-fit : goal.lasts_of-requires-clause-fit
lasts_of-requires-clause-fit c =
    let few = visits_few c.in_ok-ground.ground.ways.items c.in_ok-growth.growth.visits.items c.in_ok-growth.growth.numbers.items c.in_ok-growth.ensures in
    omega (arith, few, ap length c.deref.ensures.value, ap length c.in_ok-ground.ensures.ways, c.requires.fit)

pub lasts_of-requires-clause-order : goal.lasts_of-requires-clause-order
lasts_of-requires-clause-order c = (c.in_ok-ground.ground.ways.items, subst (IsByDepth c.in_ok-ground.ground.ways.items) (sym c.deref.ensures.value) c.in_ok-growth.ensures.order)

pub heights_of-requires-clause-fit : goal.heights_of-requires-clause-fit
heights_of-requires-clause-fit c =
    let few = visits_few c.in_ok-ground.ground.ways.items c.in_ok-growth.growth.visits.items c.in_ok-growth.growth.numbers.items c.in_ok-growth.ensures in
    omega (arith, few, ap length c.deref-2.ensures.value, ap length c.in_ok-ground.ensures.ways, c.requires.fit)

pub heights_of-requires-clause-order : goal.heights_of-requires-clause-order
heights_of-requires-clause-order c = (c.in_ok-ground.ground.ways.items, subst (IsByDepth c.in_ok-ground.ground.ways.items) (sym c.deref-2.ensures.value) c.in_ok-growth.ensures.order)

pub heights_of-requires-clause-lasts : goal.heights_of-requires-clause-lasts
heights_of-requires-clause-lasts c = ap length c.deref-3.ensures.value ∙ c.in_ok-lasts.ensures.long ∙ ap length c.deref.ensures.value ∙ sym (ap length c.deref-2.ensures.value)

pub spots_of-requires-clause-numbers : goal.spots_of-requires-clause-numbers
spots_of-requires-clause-numbers c = ap length c.deref-5.ensures.value ∙ c.in_ok-growth.ensures.numbered.long ∙ sym (ap length c.deref-4.ensures.value)

pub spots_of-requires-clause-each : goal.spots_of-requires-clause-each
spots_of-requires-clause-each c =
    let table = c.in_ok-ground.ground.ways.items in
    let visits = c.in_ok-growth.growth.visits.items in
    let numbers = c.in_ok-growth.growth.numbers.items in
    let lasts = c.in_ok-lasts.lasts.items in
    let heights = c.in_ok-heights.heights.items in
    let high : AreHeights visits lasts heights =
    subst (λ (l : List ℕ). AreHeights visits l heights) c.deref-3.ensures.value (subst (λ (v : List Visit). AreHeights v c.deref-3.result.now heights) c.deref-2.ensures.value c.in_ok-heights.ensures)
    in
    let all = each_has table visits numbers lasts heights c.in_ok-growth.ensures high in
    subst (λ (t : List Ways). AllHave t c.deref-5.result.now c.deref-6.result.now) (sym c.deref-4.ensures.value)
    (subst (λ (n : List (Option ℕ)). AllHave table n c.deref-6.result.now) (sym c.deref-5.ensures.value)
    (subst (λ (h : List Heights). AllHave table numbers h) (sym c.deref-6.ensures.value) all))

pub returns-clause-spots : goal.returns-clause-spots
returns-clause-spots c =
    let table = c.in_ok-ground.ground.ways.items in
    let visits = c.in_ok-growth.growth.visits.items in
    let numbers = c.in_ok-growth.growth.numbers.items in
    let lasts = c.in_ok-lasts.lasts.items in
    let heights = c.in_ok-heights.heights.items in
    let spots = c.in_ok-spots.spots.items in
    let are : AreLasts visits lasts = subst (λ (v : List Visit). AreLasts v lasts) c.deref.ensures.value c.in_ok-lasts.ensures in
    let high : AreHeights visits lasts heights =
    subst (λ (l : List ℕ). AreHeights visits l heights) c.deref-3.ensures.value (subst (λ (v : List Visit). AreHeights v c.deref-3.result.now heights) c.deref-2.ensures.value c.in_ok-heights.ensures)
    in
    let by : AreSpotsBy table numbers heights spots =
    subst (λ (t : List Ways). AreSpotsBy t numbers heights spots) c.deref-4.ensures.value
    (subst (λ (n : List (Option ℕ)). AreSpotsBy c.deref-4.result.now n heights spots) c.deref-5.ensures.value
    (subst (λ (h : List Heights). AreSpotsBy c.deref-4.result.now c.deref-5.result.now h spots) c.deref-6.ensures.value c.in_ok-spots.ensures))
    in
    spots_are table visits numbers lasts heights spots (subst LeadWithin (sym c.in_ok-ground.ensures.ways) c.requires.within)
    (subst (λ (t : List Ways). HasNoCycle ArcJoins (HasArc t)) (sym c.in_ok-ground.ensures.ways) c.requires.forest) c.in_ok-growth.ensures are high by

pub returns-clause-ways : goal.returns-clause-ways
returns-clause-ways c = c.in_ok-spots.ensures.ways ∙ c.deref-4.ensures.value ∙ c.in_ok-ground.ensures.ways
