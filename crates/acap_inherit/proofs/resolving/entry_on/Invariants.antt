use Rattle.std.proofs.Common.{◌≡◌, drop, map}
use Rattle.acap_inherit.specs.Resolving.{entry_on}
use Rattle.acap_inherit.proofs.resolving.entry_on.Given as goal

abbrev pub invariant-loop-member : goal.invariant-loop-member
invariant-loop-member g l = entry_on (g.R.Records.store l.records).records (map (λ d. d.now) (drop l.member-index l.members)) l.name ≡ entry_on (g.R.Records.store l.records).records (map (λ d. d.now) l.members) l.name
