use Rattle.acap_session.proofs.Writing.{more_counted}
use Rattle.acap_session.proofs.Sending.{more_sent}
use Rattle.acap_session.proofs.output.write_all.Goals as goal

pub writes-preserved : goal.writes-preserved
writes-preserved g c = record {
  sent = more_sent _ _ _ c.args.octets.now c.writes.rest.now c.split_at.result.1.now c.in_ok-count.count c.writes.invariant.sent c.in_ok-count.ensures.sent c.split_at.ensures.back;
  told = more_counted _ _ _ c.writes.time c.writes.invariant.told c.in_ok-count.ensures.told;
}
