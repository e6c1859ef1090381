use Rattle.acap_entries.proofs.Formed.{none_in_form}
use Rattle.acap_entries.proofs.tree.Tree.new.Goals as goal

pub invariant_of-result : goal.invariant_of-result
invariant_of-result c = rw c.new.ensures none_in_form
