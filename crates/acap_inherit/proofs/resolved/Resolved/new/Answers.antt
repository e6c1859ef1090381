use Rattle.acap_inherit.proofs.IndexLemmas.{empty_index}
use Rattle.acap_inherit.proofs.resolved.Resolved.new.Goals as goal

pub returns : goal.returns
returns c = empty_index _ c.new.ensures
