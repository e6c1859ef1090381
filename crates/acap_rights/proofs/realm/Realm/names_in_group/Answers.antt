use Rattle.std.proofs.Common.{◌≡◌, true, take, sym, ap}
use Rattle.acap_entries.specs.Names.{group_prefix}
use Rattle.acap_entries.specs.Orders.{octets_eq}
use Rattle.acap_rights.proofs.RealmLemmas.{in_no_group}
use Rattle.acap_rights.proofs.realm.Realm.names_in_group.Goals as goal

pub returns-in-None : goal.returns-in-None
returns-in-None c = sym (in_no_group c.args.self.now c.args.user.now c.args.identifier.now (λ rest e.
    let begins : octets_eq (take 6 c.args.identifier.now) group_prefix ≡ true = ap (λ text. octets_eq (take 6 text) group_prefix) e in
    let not_so = c.in-None.ensures in
    cc))
