use Rattle.std.proofs.Common.{length}
use Rattle.acap_session.proofs.ScriptHearing.{GoesOnListening, IsHearing}
use Rattle.acap_session.proofs.script_hearing.hear.Given as goal

abbrev pub invariant-offers : goal.invariant-offers
invariant-offers g l = record {
  heard : IsHearing l.at l.octets l.rest l.fn.world l.world;
  on : GoesOnListening l.at l.world;
}

abbrev pub decreases-offers : goal.decreases-offers
decreases-offers g l = length l.rest
