-- Where an entry has no list of its own, the rights that its dataset shares are those on its attributes.
use Rattle.std.proofs.Common.{◌≡◌, ℕ, List, Some, None, sym, ◌∙◌, ap}
use Rattle.std.specs.FinMap as table
use Rattle.std.specs.Option.{option_and_then}
use Rattle.acap_entries.specs.Orders.{octets_cmp}
use Rattle.acap_entries.specs.Store.{Stored}
use Rattle.acap_entries.specs.declared.path.Path.{Path}
use Rattle.acap_entries.specs.declared.record.Record.{Record}
use Rattle.acap_rights.proofs.SharingLemmas.{shared_law}
use Rattle.acap_rights.specs.Sharing as rights
use Rattle.acap_rights.specs.declared.realm.Realm.{Realm}
use Rattle.acap_rights.specs.declared.sharing.SharedRights.{SharedRights}
use Rattle.acap_store.specs.Sharing.{HasNoLists, AreShared}

pub no_lists : (records : Stored) (p : Path) (entry : Record) → Some entry ≡ table.get records p → table.len entry.acls ≡ 0 → HasNoLists records p
no_lists records p entry there none attribute =
    let nothing : table.get entry.acls attribute ≡ None = ap (λ m. table.get m attribute) (table.empty_of_len entry.acls none) ∙ table.get-empty octets_cmp attribute in
    ap (option_and_then (λ entry. table.get entry.acls attribute)) (sym there) ∙ nothing

pub no_record : (records : Stored) (p : Path) → None ≡ table.get records p → HasNoLists records p
no_record records p there attribute = ap (option_and_then (λ entry. table.get entry.acls attribute)) (sym there)

pub shared_are : (records : Stored) (realm : Realm) (user : List ℕ) (p : Path) (shared : SharedRights) → HasNoLists records p → rights.AreShared records realm user p.dataset shared → AreShared records realm user p (Some shared)
shared_are records realm user p shared none are other there attribute =
    let same : shared ≡ other = cc in
    shared_law records realm user p.dataset attribute p.name (none attribute) ∙ (are attribute ∙ ap (λ shared. rights.shared_on shared attribute) same)
