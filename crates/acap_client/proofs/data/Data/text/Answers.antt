use Rattle.std.proofs.Common.{◌≡◌, ◌∷◌, rules, tests}
use Rattle.acap_client.proofs.Fronts.{lacks_text}
use Rattle.acap_client.proofs.data.Data.text.Goals as goal

pub returns-in_default : goal.returns-in_default
returns-in_default c =
    let split : c.args.self.now.tokens.now ≡ c.in_ok-first.first.now ∷ c.in_ok-first.tokens.now = search (rules, tests) in
    lacks_text _ _ _ split c.in_default.not-Text
