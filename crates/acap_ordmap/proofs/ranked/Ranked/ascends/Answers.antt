use Rattle.std.proofs.Common.{ap, subst}
use Rattle.acap_ordmap.specs.Ranks.{Ascending}
use Rattle.acap_ordmap.proofs.RankLemmas.{ascending}
use Rattle.acap_ordmap.proofs.ranked.Ranked.ascends.Goals as goal

pub returns : goal.returns
returns g c = subst (λ xs. Ascending g.T.Ord.cmp xs) (ap (λ v. v.0) c.self.view_is) (ascending g.T.Ord.cmp c.self.inside.entries.0 c.self.invariant)
