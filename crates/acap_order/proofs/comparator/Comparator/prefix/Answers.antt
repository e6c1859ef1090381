use Rattle.std.proofs.Common.{◌≡◌, rules}
use Rattle.std.proofs.lemmas.Bool.Decides.{Decides-at}
use Rattle.acap_order.specs.Matching.{has_prefix}
use Rattle.acap_order.proofs.MatchLemmas.{Decides-has_prefix}
use Rattle.acap_order.proofs.comparator.Comparator.prefix.Goals as goal

pub returns-in-Octet-clause-begins : goal.returns-in-Octet-clause-begins
returns-in-Octet-clause-begins c =
    let value : c.begins_with.result ≡ has_prefix c.args.self.now c.args.text.now c.args.pattern.now = search rules in
    Decides-at _ _ value (Decides-has_prefix c.args.self.now c.args.text.now c.args.pattern.now)

pub returns-in-AsciiCasemap-clause-begins : goal.returns-in-AsciiCasemap-clause-begins
returns-in-AsciiCasemap-clause-begins c =
    let value : c.begins_with-in-AsciiCasemap.result ≡ has_prefix c.args.self.now c.args.text.now c.args.pattern.now = search rules in
    Decides-at _ _ value (Decides-has_prefix c.args.self.now c.args.text.now c.args.pattern.now)
