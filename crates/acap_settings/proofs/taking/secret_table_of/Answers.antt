use Rattle.std.proofs.Common.{map, ap, sym, ◌∙◌}
use Rattle.std.proofs.lemmas.Simd.{map-map}
use Rattle.toml.specs.Data.{string, table}
use Rattle.toml.specs.View.{view}
use Rattle.toml.proofs.Views.{view-Table}
use Rattle.acap_settings.specs.Keys.{is_secret_table}
use Rattle.acap_settings.specs.Members.{octets_and_data}
use Rattle.acap_settings.proofs.TakingLemmas.{secrets_pass, table_said}
use Rattle.acap_settings.proofs.taking.secret_table_of.Goals as goal

pub secrets_of-requires : goal.secrets_of-requires
secrets_of-requires c =
    rw c.deref.ensures.value
    (secrets_pass c.in-Table.table.entries c.in_ok-members-in-Table.members.items (c.in_ok-members-in-Table.ensures)
    (ap is_secret_table (sym (ap view c.in-Table.is ∙ view-Table c.in-Table.table)) ∙ c.requires))

pub returns : goal.returns
returns c = rw (c.in-Table.is, view-Table c.in-Table.table, c.new.ensures)
    (ap table (table_said c.in-Table.table.entries c.in_ok-members-in-Table.members.items
    (map (λ user. (user.0, string user.1)) (map (λ entry. (entry.0, entry.1.items)) c.in_ok-secrets_of-in-Table.field-0.items))
    (c.in_ok-members-in-Table.ensures)
    (ap (map octets_and_data) (sym c.deref.ensures.value) ∙ c.in_ok-secrets_of-in-Table.ensures
    ∙ sym (map-map (λ user. (user.0, string user.1)) (λ entry. (entry.0, entry.1.items)) c.in_ok-secrets_of-in-Table.field-0.items))))
