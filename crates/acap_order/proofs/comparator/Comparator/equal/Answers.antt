use Rattle.std.proofs.Common.{◌≡◌, is_eq, ap, ◌∙◌}
use Rattle.std.proofs.lemmas.Bool.Decides.{Decides-at}
use Rattle.acap_order.specs.Ranks.{comparator_eq}
use Rattle.acap_order.proofs.LawLemmas.{same_rank}
use Rattle.acap_order.proofs.comparator.Comparator.equal.Goals as goal

pub returns-clause-same_rank : goal.returns-clause-same_rank
returns-clause-same_rank c =
    let value : c.is_eq.result ≡ comparator_eq c.args.self.now c.args.a.now c.args.b.now = c.is_eq.ensures ∙ ap is_eq c.cmp.ensures in
    Decides-at _ _ value (same_rank c.args.self.now c.args.a.now c.args.b.now)
