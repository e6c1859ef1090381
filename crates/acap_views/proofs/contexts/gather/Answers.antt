use Rattle.acap_views.proofs.InPlaceLemmas.{same_order, same_contexts}
use Rattle.acap_views.proofs.contexts.gather.Goals as goal

pub returns-clause-order : goal.returns-clause-order
returns-clause-order c = same_order _ c.args.contexts.now.items c.gather_each.ensures c.requires

pub returns-clause-same : goal.returns-clause-same
returns-clause-same c = same_contexts _ c.args.contexts.now.items c.gather_each.ensures c.requires
