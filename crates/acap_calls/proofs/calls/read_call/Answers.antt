use Rattle.acap_calls.proofs.calls.read_call.Goals as goal

pub returns-in-Ok : goal.returns-in-Ok
returns-in-Ok c = rw c.in-Ok.is (rw (← c.as_slice.ensures.value) c.call_by.ensures)
