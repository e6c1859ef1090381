use Rattle.std.proofs.Common.{◌≡◌, drop}
use Rattle.acap_rights.specs.Sharing.{by_list, listed_from}
use Rattle.acap_rights.proofs.sharing.list_rights.Given as goal

abbrev pub invariant-loop-attribute : goal.invariant-loop-attribute
invariant-loop-attribute l =
    listed_from (by_list l.realm l.user l.dataset) (drop l.attribute-index l.attribute-items) l.listed
    ≡ listed_from (by_list l.realm l.user l.dataset) l.attribute-items l.initial.listed
