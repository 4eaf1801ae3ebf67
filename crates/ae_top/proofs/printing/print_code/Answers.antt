use Rattle.std.proofs.Common.{ap}
use Rattle.ae_print.specs.CodeText.{code_text}
use Rattle.ae_top.proofs.printing.print_code.Goals as goal

pub returns-in-Ok-print_code-clause-prints : goal.returns-in-Ok-print_code-clause-prints
returns-in-Ok-print_code-clause-prints g c =
    (c.in-Ok.ensures.usable.asked, (code_text c.in-Ok.image, ap code_text c.in-Ok.ensures.usable.accepted.same, c.in-Ok-print_code.ensures.all))

pub returns-clause-prints : goal.returns-clause-prints
returns-clause-prints g c =
    (c.in-Ok.ensures.usable.asked, (code_text c.in-Ok.image, ap code_text c.in-Ok.ensures.usable.accepted.same, c.in-Err-print_code.ensures.front))
