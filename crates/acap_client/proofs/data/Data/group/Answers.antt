use Rattle.std.proofs.Common.{◌≡◌, ◌∷◌, rules, tests}
use Rattle.acap_client.proofs.Fronts.{has_group}
use Rattle.acap_client.proofs.data.Data.group.Goals as goal

pub returns-in-Open : goal.returns-in-Open
returns-in-Open c =
    let split : c.args.self.now.tokens.now ≡ c.in_ok-first.first.now ∷ c.in_ok-first.tokens.now = search (rules, tests) in
    has_group _ _ _ c.skip-after.result.now split c.in-Open.is c.skip-after.ensures
