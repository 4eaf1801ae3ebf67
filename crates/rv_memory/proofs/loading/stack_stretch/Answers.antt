use Rattle.std.proofs.Common.{◌≡◌, replicate, true, refl}
use Rattle.std.proofs.lemmas.Result.{IfOk-weaker}
use Rattle.rv_memory.specs.Stretches.{MappedStretch, stack}
use Rattle.rv_memory.proofs.LawsOfStart.{stack_is}
use Rattle.rv_memory.proofs.loading.stack_stretch.Goals as goal

pub returns : goal.returns
returns c =
    IfOk-weaker c.zeros_from.result (λ (made : MappedStretch). made ≡ record { start = 0x7ff00000; bytes = replicate 0x100000 0; writable = true }) (λ (made : MappedStretch). made ≡ stack)
    (λ made is. stack_is 0x7ff00000 0x100000 made refl refl is) c.zeros_from.ensures
