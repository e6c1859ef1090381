use Rattle.std.proofs.Common.{sym, ◌∙◌}
use Rattle.acap_client.proofs.Placed.{rows_in}
use Rattle.acap_client.proofs.held.Held.rows.Goals as goal

pub returns : goal.returns
returns c = rw (← c.self.view_is) (c.as_slice.ensures.value ∙ sym (rows_in c.self.inside.enumerated c.self.inside.rows.items c.self.invariant))
