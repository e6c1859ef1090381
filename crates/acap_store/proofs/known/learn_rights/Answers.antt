use Rattle.std.proofs.Common.{sym, subst}
use Rattle.acap_store.specs.Asking.{AreSharedIn}
use Rattle.acap_store.specs.Known.{AreKnown}
use Rattle.acap_store.proofs.KnownLemmas.{known_there, known_insert}
use Rattle.acap_store.proofs.known.learn_rights.Goals as goal

pub returns-in_ok-insert-clause-known : goal.returns-in_ok-insert-clause-known
returns-in_ok-insert-clause-known c =
    let new = subst (λ by. AreSharedIn by c.args.dataset.now c.in_ok-shared.shared) c.by.view_is c.in_ok-shared.ensures in
    rw c.in_ok-insert.ensures.items (known_insert c.args.by.now c.args.known.now.items c.place_of-at.result _ c.requires new)

pub returns-else-not-stand_at-clause-shared : goal.returns-else-not-stand_at-clause-shared
returns-else-not-stand_at-clause-shared c =
    let stands = c.stand_at.ensures in
    rw (← c.as_slice-2.ensures.value) (known_there c.args.by.now c.as_slice-2.result.now c.place_of-at.result c.args.dataset.now
    (subst (AreKnown c.args.by.now) (sym c.as_slice-2.ensures.value) c.requires) (stands.within c.if-not-stand_at.false) (stands.dataset c.if-not-stand_at.false))
