use Rattle.std.proofs.Common.{◌∙◌, ap, codes}
use Rattle.std.specs.FinMap as map
use Rattle.std.specs.Option.{option_and_then}
use Rattle.acap_entries.specs.declared.record.Record.{Record}
use Rattle.acap_rights.proofs.SharingLemmas.{are_shared}
use Rattle.acap_rights.specs.Deciding.{list_in, rights_by_list}
use Rattle.acap_rights.specs.Sharing.{listed_in}
use Rattle.acap_rights.proofs.sharing.shared_rights.Goals as goal

pub returns : goal.returns
returns g c =
    are_shared _ _ _ _ _ (c.in_ok-listed.ensures ∙ ap (listed_in _ _ _) c.find-management.ensures)
    (c.rights_by-others.ensures ∙ ap (rights_by_list _ _ _) (c.dataset_list.ensures
    ∙ ap (λ management. option_and_then list_in (option_and_then (λ (entry : Record). map.get entry.cells (codes "dataset.acl")) management)) c.find-management.ensures))
