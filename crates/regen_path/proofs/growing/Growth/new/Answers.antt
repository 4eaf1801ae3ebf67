use Rattle.std.proofs.Common.{◌≡◌, List, Option, ℕ, None, replicate, rules}
use Rattle.regen_path.proofs.Grown.{whole_none}
use Rattle.regen_path.proofs.growing.Growth.new.Goals as goal

pub returns : goal.returns
returns c = λ table long.
    let none : ◌≡◌ {A = List (Option ℕ)} c.in_ok-numbers.numbers.items (replicate c.args.count None) = search rules in
    whole_none table (record { visits = c.in_ok-visits.visits; numbers = c.in_ok-numbers.numbers; waiting = c.new.result }) c.args.count long c.in_ok-visits.ensures.items none c.new.ensures.items
