use Rattle.acap_session.proofs.Writing.{HasCounted}
use Rattle.acap_session.proofs.Sending.{IsSent}
use Rattle.acap_session.proofs.output.write_all.Given as goal

abbrev pub invariant-writes : goal.invariant-writes
invariant-writes g l = record {
  sent : IsSent (g.W.Output.contents l.fn.writer) (g.W.Output.contents l.writer) l.fn.octets l.rest;
  told : HasCounted (g.W.Output.told l.fn.writer) (g.W.Output.told l.writer) l.time;
}
