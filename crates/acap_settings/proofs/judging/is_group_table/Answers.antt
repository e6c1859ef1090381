use Rattle.toml.proofs.Views.{view-Table}
use Rattle.acap_settings.specs.Keys.{is_group}
use Rattle.acap_settings.proofs.Views.{all_members_view}
use Rattle.acap_settings.proofs.judging.is_group_table.Goals as goal

pub returns-in-Table : goal.returns-in-Table
returns-in-Table c =
    rw (c.are_groups.ensures, c.in-Table.is, view-Table c.in-Table.groups, all_members_view is_group c.in-Table.groups.entries)
