use Rattle.toml.proofs.Views.{view-Array}
use Rattle.acap_settings.specs.Keys.{is_root}
use Rattle.acap_settings.proofs.Views.{any_item_view}
use Rattle.acap_settings.proofs.judging.has_root.Goals as goal

pub returns-in-Array : goal.returns-in-Array
returns-in-Array c =
    rw (c.have_root.ensures, c.deref.ensures.value, c.in-Array.is, view-Array c.in-Array.names, any_item_view is_root c.in-Array.names.items)
