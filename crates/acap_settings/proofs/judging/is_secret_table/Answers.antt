use Rattle.toml.proofs.Views.{view-Table}
use Rattle.acap_settings.specs.Keys.{is_secret}
use Rattle.acap_settings.proofs.Views.{all_members_view}
use Rattle.acap_settings.proofs.judging.is_secret_table.Goals as goal

pub returns-in-Table : goal.returns-in-Table
returns-in-Table c =
    rw (c.are_secrets.ensures, c.in-Table.is, view-Table c.in-Table.users, all_members_view is_secret c.in-Table.users.entries)
