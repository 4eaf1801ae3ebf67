use Rattle.std.proofs.Common.{◌≡◌, rules}
use Rattle.ae_top.specs.Task.{task_in}
use Rattle.ae_top.proofs.Named.{named}
use Rattle.ae_top.proofs.task.read_task.Goals as goal

pub returns-clause-among : goal.returns-clause-among
returns-clause-among c =
    let is : c.task_of.result ≡ task_in c.args.words.now = search rules in
    rw is (named c.args.words.now)
