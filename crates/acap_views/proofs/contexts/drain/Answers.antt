use Rattle.acap_views.proofs.InPlaceLemmas.{drained_order, drained_contexts}
use Rattle.acap_views.proofs.contexts.drain.Goals as goal

pub returns-clause-order : goal.returns-clause-order
returns-clause-order c = drained_order c.args.contexts.now.items c.tell_all.new.contexts.items c.drop_freed.new.contexts.items c.requires c.tell_all.ensures c.drop_freed.ensures

pub returns-clause-told : goal.returns-clause-told
returns-clause-told c = drained_contexts c.args.contexts.now.items c.tell_all.new.contexts.items c.drop_freed.new.contexts.items c.requires c.tell_all.ensures c.drop_freed.ensures
