use Rattle.acap_ordmap.proofs.LeafLemmas.{among_all}
use Rattle.acap_ordmap.proofs.leaf_search.leaf_of.Goals as goal

pub leaf_among-requires-clause-among : goal.leaf_among-requires-clause-among
leaf_among-requires-clause-among g c = among_all g.K.Ord.cmp (g.Q.Probe.key c.args.probe.now) c.args.leaves.now c.requires.some
