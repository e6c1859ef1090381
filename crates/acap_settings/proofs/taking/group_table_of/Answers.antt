use Rattle.std.proofs.Common.{◌≡◌, map, ap, sym, ◌∙◌}
use Rattle.std.proofs.lemmas.Result.{IfOk-weaker}
use Rattle.toml.specs.Data.{table}
use Rattle.toml.specs.View.{view}
use Rattle.toml.proofs.Views.{view-Table}
use Rattle.acap_settings.specs.Keys.{is_group_table}
use Rattle.acap_settings.specs.Members.{octets_and_data}
use Rattle.acap_settings.specs.Settings.{said_group, group_table}
use Rattle.acap_settings.proofs.TakingLemmas.{groups_pass, table_said}
use Rattle.acap_settings.proofs.taking.group_table_of.Goals as goal

pub groups_of-requires : goal.groups_of-requires
groups_of-requires c =
    rw c.deref.ensures.value
    (groups_pass c.in-Table.table.entries c.in_ok-members-in-Table.members.items (c.in_ok-members-in-Table.ensures)
    (ap is_group_table (sym (ap view c.in-Table.is ∙ view-Table c.in-Table.table)) ∙ c.requires))

pub returns : goal.returns
returns c = IfOk-weaker c.groups_of.result (λ groups. map octets_and_data c.deref.result.now ≡ map said_group groups) (λ groups. view c.args.value.now ≡ group_table groups)
    (λ groups e. rw (c.in-Table.is, view-Table c.in-Table.table)
    (ap table (table_said c.in-Table.table.entries c.in_ok-members-in-Table.members.items (map said_group groups)
    (c.in_ok-members-in-Table.ensures) (ap (map octets_and_data) (sym c.deref.ensures.value) ∙ e))))
    c.groups_of.ensures
