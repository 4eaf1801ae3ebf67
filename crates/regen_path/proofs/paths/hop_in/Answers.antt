-- The first arc from whose end a walk leads on.
use Rattle.std.proofs.Common.{◌≡◌, true, false, get_or, sym, ◌∙◌}
use Rattle.std.proofs.lemmas.Option.{slice_get-get_or}
use Rattle.regen_path.specs.Inner.Finds.{at_goal}
use Rattle.regen_path.proofs.Hopping.{no_spot, leads_within, finds_fall, finds_taken, finds_none}
use Rattle.regen_path.proofs.paths.hop_in.Goals as goal

pub leads_on-requires-clause-way : goal.leads_on-requires-clause-way
leads_on-requires-clause-way c = λ to is.
    leads_within c.args.spots.now c.requires.spots 0 c.args.here to (get_or c.args.spots.now c.args.here no_spot) (slice_get-get_or c.args.spots.now c.args.here no_spot c.requires.here) is

pub leads_on-requires-else-leads_on-clause-way : goal.leads_on-requires-else-leads_on-clause-way
leads_on-requires-else-leads_on-clause-way c = λ to is.
    leads_within c.args.spots.now c.requires.spots 1 c.args.here to (get_or c.args.spots.now c.args.here no_spot) (slice_get-get_or c.args.spots.now c.args.here no_spot c.requires.here) is

pub returns-then-here-goal : goal.returns-then-here-goal
returns-then-here-goal c = at_goal c.if-here-goal.true

pub returns-then-leads_on : goal.returns-then-leads_on
returns-then-leads_on c =
    finds_fall c.args.spots.now c.args.here c.args.goal (get_or c.args.spots.now c.args.here no_spot) (slice_get-get_or c.args.spots.now c.args.here no_spot c.requires.here) c.if-here-goal.false
    (c.leads_on.ensures.0 c.if-leads_on.true)

pub returns-then-leads_on-2 : goal.returns-then-leads_on-2
returns-then-leads_on-2 c =
    finds_taken c.args.spots.now c.args.here c.args.goal (get_or c.args.spots.now c.args.here no_spot) (slice_get-get_or c.args.spots.now c.args.here no_spot c.requires.here) c.if-here-goal.false
    (c.leads_on-else-leads_on.ensures.0 c.if-leads_on-2.true)

pub returns-else-leads_on-2 : goal.returns-else-leads_on-2
returns-else-leads_on-2 c =
    finds_none c.args.spots.now c.args.here c.args.goal (get_or c.args.spots.now c.args.here no_spot) (slice_get-get_or c.args.spots.now c.args.here no_spot c.requires.here) c.if-here-goal.false
    (λ led. let bad : false ≡ true = sym c.if-leads_on.false ∙ c.leads_on.ensures.1 led in absurd (cc))
    (λ led. let bad : false ≡ true = sym c.if-leads_on-2.false ∙ c.leads_on-else-leads_on.ensures.1 led in absurd (cc))
