use Rattle.futures.specs.Task.{Keeps}
use Rattle.acap_serving.proofs.drain_stream.StreamDrain.go_on.Given as goal

abbrev pub invariant-loop : goal.invariant-loop
invariant-loop l = Keeps l.fn.cx l.cx
