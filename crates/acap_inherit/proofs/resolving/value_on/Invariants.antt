use Rattle.std.proofs.Common.{◌≡◌, drop, map}
use Rattle.acap_inherit.specs.Resolving.{value_on}
use Rattle.acap_inherit.proofs.resolving.value_on.Given as goal

abbrev pub invariant-loop-dataset : goal.invariant-loop-dataset
invariant-loop-dataset g l = value_on (g.R.Records.store l.records).records (map (λ d. d.now) (drop l.dataset-index l.members)) l.name l.attribute ≡ value_on (g.R.Records.store l.records).records (map (λ d. d.now) l.members) l.name l.attribute
