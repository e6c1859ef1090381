use Rattle.std.proofs.Common.{◌≡◌}
use Rattle.acap_notices.specs.Holding.{holding_after_all}
use Rattle.acap_views.specs.Clients.{notices_for}
use Rattle.acap_examples.proofs.client.notice.Given as goal

abbrev pub invariant-loop-told : goal.invariant-loop-told
invariant-loop-told l = holding_after_all l.held (notices_for l.name l.told-iterator) ≡ holding_after_all l.fn.held (notices_for l.fn.name l.fn.tolds)
