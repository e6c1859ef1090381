use Rattle.std.proofs.Common.{Some, sym, subst}
use Rattle.acap_store.specs.Asking.{AreSharedAt, AreSharedIn}
use Rattle.acap_store.proofs.ListLemmas.{shared_are}
use Rattle.acap_store.proofs.permission.select_shared.Goals as goal

pub returns-then-has_no_lists : goal.returns-then-has_no_lists
returns-then-has_no_lists c =
    let path = c.args.path.now in
    let shared = subst (λ by. AreSharedIn by path.dataset c.args.shared.now) (sym c.by.view_is) c.requires in
    subst (λ by. AreSharedAt by path (Some c.args.shared.now)) c.by.view_is (shared_are _ _ _ _ _ (c.has_no_lists.ensures c.if-has_no_lists.true) shared)
