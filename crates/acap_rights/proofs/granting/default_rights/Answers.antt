use Rattle.std.proofs.Common.{sym, ap, ◌∙◌}
use Rattle.std.specs.Prelude.{if◌then◌else◌}
use Rattle.acap_rights.specs.Rights.{no_rights}
use Rattle.acap_rights.proofs.GrantLemmas.{at_home, at_nobodys, elsewhere}
use Rattle.acap_rights.proofs.granting.default_rights.Goals as goal

pub returns-then-is_user_name : goal.returns-then-is_user_name
returns-then-is_user_name c =
    let by_list = at_home c.args.realm.now c.args.user.now c.args.dataset.now c.in-Some.name.now (sym c.in-Some.ensures) (sym c.is_user_name.ensures ∙ c.if-is_user_name.true) in
    rw (by_list, ← c.names.ensures) (c.only_if.ensures ∙ ap (λ rights. if c.names.result then rights else no_rights) c.all.ensures)

pub returns-else-is_user_name : goal.returns-else-is_user_name
returns-else-is_user_name c =
    c.none.ensures ∙ sym (at_nobodys c.args.realm.now c.args.user.now c.args.dataset.now c.in-Some.name.now (sym c.in-Some.ensures) (sym c.is_user_name.ensures ∙ c.if-is_user_name.false))

pub returns-in-None : goal.returns-in-None
returns-in-None c = sym (elsewhere c.args.realm.now c.args.user.now c.args.dataset.now (sym c.in-None.ensures))
