use Rattle.toml.proofs.Views.{view-Array}
use Rattle.acap_settings.specs.Keys.{is_user}
use Rattle.acap_settings.proofs.Views.{all_items_view}
use Rattle.acap_settings.proofs.judging.is_user_list.Goals as goal

pub returns-in-Array : goal.returns-in-Array
returns-in-Array c =
    rw (c.are_users.ensures, c.deref.ensures.value, c.in-Array.is, view-Array c.in-Array.names, all_items_view is_user c.in-Array.names.items)
