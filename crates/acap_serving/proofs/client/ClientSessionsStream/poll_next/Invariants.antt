use Rattle.futures.specs.Task.{Keeps}
use Rattle.acap_serving.proofs.client.ClientSessionsStream.poll_next.Given as goal

abbrev pub invariant-loop : goal.invariant-loop
invariant-loop g l = Keeps l.initial.cx l.cx
