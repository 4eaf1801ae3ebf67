use Rattle.std.proofs.Common.{◌≡◌, arith, refl}
use Rattle.flow_tree.specs.Inner.Spans.{begun_by, ended_before}
use Rattle.flow_tree.proofs.spans.Spans.count_at.Goals as goal

pub overflow_sub-result : goal.overflow_sub-result
overflow_sub-result c = rw c.ended_before.ensures (rw c.deref-2.ensures.value (rw c.begun_by.ensures (rw c.deref.ensures.value (c.requires.fewer c.args.address))))

pub returns : goal.returns
returns c =
    let ended : c.ended_before.result ≡ ended_before c.args.self.now c.args.address = rw c.ended_before.ensures (rw c.deref-2.ensures.value refl) in
    let begun : c.begun_by.result ≡ begun_by c.args.self.now c.args.address = rw c.begun_by.ensures (rw c.deref.ensures.value refl) in
    rw ended (rw begun (omega (arith, c.requires.fewer c.args.address)))
