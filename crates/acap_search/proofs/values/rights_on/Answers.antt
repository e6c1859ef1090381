use Rattle.std.proofs.Common.{◌≡◌, None, sym, ◌∙◌}
use Rattle.acap_rights.proofs.SharingLemmas.{shared_law}
use Rattle.acap_search.specs.Sight.{own_acl}
use Rattle.acap_search.proofs.CacheLemmas.{none_of}
use Rattle.acap_search.proofs.values.rights_on.Goals as goal

pub returns : goal.returns
returns g c =
    let spot = c.args.spot.now in
    let dataset = c.args.dataset.now in
    let attribute = c.args.attribute.now in
    let none : own_acl spot.by.records dataset spot.name attribute ≡ None =
    none_of _ _ c.has_list_in.ensures c.if-not-has_list_in.true in
    c.on.ensures
    ∙ (sym (c.in-Some.ensures attribute)
    ∙ sym (shared_law spot.by.records spot.by.realm spot.by.user dataset attribute spot.name none))
