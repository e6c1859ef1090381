use Rattle.std.proofs.Common.{◌≡◌, map, ap, sym, ◌∙◌}
use Rattle.std.proofs.lemmas.Result.{IfOk-weaker}
use Rattle.toml.specs.Data.{string, array}
use Rattle.toml.specs.View.{view}
use Rattle.toml.proofs.Views.{view-Array}
use Rattle.acap_settings.specs.Keys.{is_user_list}
use Rattle.acap_settings.specs.Settings.{name_list}
use Rattle.acap_settings.proofs.TakingLemmas.{users_pass, users_said}
use Rattle.acap_settings.proofs.taking.user_list_of.Goals as goal

pub users_of-requires : goal.users_of-requires
users_of-requires c =
    rw c.deref.ensures.value (users_pass c.in-Array.names.items (ap is_user_list (sym (ap view c.in-Array.is ∙ view-Array c.in-Array.names)) ∙ c.requires))

pub returns : goal.returns
returns c = IfOk-weaker c.users_of.result (λ users. map view c.deref.result.now ≡ map string users) (λ users. view c.args.value.now ≡ name_list users)
    (λ users e. rw (c.in-Array.is, view-Array c.in-Array.names) (ap array (users_said c.in-Array.names.items users (ap (map view) (sym c.deref.ensures.value) ∙ e))))
    c.users_of.ensures
