use Rattle.std.proofs.Common.{◌≡◌, Some, sym, ◌∙◌}
use Rattle.ae_top.specs.Task.{task_in}
use Rattle.ae_top.proofs.top.carry_out.Goals as goal

-- what the words ask for was carried out
pub returns-in-Some-clause-carries : goal.returns-in-Some-clause-carries
returns-in-Some-clause-carries g c =
    let is : task_in c.args.words.now ≡ Some c.in-Some.task = sym c.read_task.ensures.task ∙ c.in-Some.is in
    let carries = c.carry_out_task.ensures.carries in
    record {
      usage = (λ usage. absurd (carries.used usage), λ none. absurd (cc (none, is)));
      keeps = rw is carries.keeps;
      blames = carries.blames;
    }
