use Rattle.std.proofs.Common.{◌≡◌, drop, map}
use Rattle.acap_inherit.specs.Resolving.{modtime_on}
use Rattle.acap_inherit.proofs.Moments.{either}
use Rattle.acap_inherit.proofs.resolving.modtime_on.Given as goal

abbrev pub invariant-loop-dataset : goal.invariant-loop-dataset
invariant-loop-dataset g l = either l.latest (modtime_on (g.R.Records.store l.records).records (map (λ d. d.now) (drop l.dataset-index l.members)) l.name) ≡ modtime_on (g.R.Records.store l.records).records (map (λ d. d.now) l.members) l.name
