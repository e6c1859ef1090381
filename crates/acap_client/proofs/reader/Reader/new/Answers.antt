use Rattle.std.proofs.Common.{arith}
use Rattle.acap_client.proofs.Unheard.{unheard}
use Rattle.acap_client.proofs.reader.Reader.new.Goals as goal

pub invariant_of-result : goal.invariant_of-result
invariant_of-result c = unheard _ _ _ _ (omega arith) c.new_draft.ensures.client c.new_draft.ensures.draft
