use Rattle.flow_tree.proofs.Crossed.{all_spans}
use Rattle.flow_tree.proofs.all_depths.spans_of.Goals as goal

pub returns : goal.returns
returns c =
    all_spans _ c.in_ok-sources.sources c.from_sources.result c.in_ok-sources.ensures c.from_sources.ensures.heads c.from_sources.ensures.ends c.from_sources.ensures.order c.from_sources.ensures.rise
