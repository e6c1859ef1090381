use Rattle.acap_session.proofs.Sending.{front_at_last, sent_at_last}
use Rattle.acap_session.proofs.Writing.{failed_at_last, taken_at_last}
use Rattle.acap_session.proofs.output.send_all.Goals as goal

pub returns-clause-sent : goal.returns-clause-sent
returns-clause-sent g c = sent_at_last c.hand_on.result _ _ _ c.args.octets.now c.in_ok-write_all.ensures.sent c.hand_on.ensures.kept

pub returns-clause-front : goal.returns-clause-front
returns-clause-front g c = front_at_last c.hand_on.result _ _ _ c.args.octets.now c.in_ok-write_all.ensures.sent c.hand_on.ensures.kept

pub returns-clause-taken : goal.returns-clause-taken
returns-clause-taken g c = taken_at_last c.hand_on.result _ _ _ c.in_ok-write_all.ensures.taken c.hand_on.ensures.told

pub returns-clause-failed : goal.returns-clause-failed
returns-clause-failed g c = failed_at_last c.hand_on.result _ _ _ c.in_ok-write_all.ensures.taken c.hand_on.ensures.told
