use Rattle.std.proofs.Common.{◌≡◌, rules}
use Rattle.std.proofs.lemmas.Bool.Decides.{Decides-at}
use Rattle.acap_order.specs.Matching.{has_substring}
use Rattle.acap_order.proofs.MatchLemmas.{Decides-has_substring}
use Rattle.acap_order.proofs.comparator.Comparator.substring.Goals as goal

pub returns-in-Octet-clause-stands : goal.returns-in-Octet-clause-stands
returns-in-Octet-clause-stands c =
    let value : c.contains.result ≡ has_substring c.args.self.now c.args.text.now c.args.pattern.now = search rules in
    Decides-at _ _ value (Decides-has_substring c.args.self.now c.args.text.now c.args.pattern.now)

pub returns-in-AsciiCasemap-clause-stands : goal.returns-in-AsciiCasemap-clause-stands
returns-in-AsciiCasemap-clause-stands c =
    let value : c.contains-in-AsciiCasemap.result ≡ has_substring c.args.self.now c.args.text.now c.args.pattern.now = search rules in
    Decides-at _ _ value (Decides-has_substring c.args.self.now c.args.text.now c.args.pattern.now)
