use Rattle.acap_calls.proofs.Printing.{sends_by}
use Rattle.acap_calls.proofs.faults.write.Goals as goal

pub returns : goal.returns
returns g c = sends_by c.args.line.now _ _ c.send_all.result c.send_all.ensures.sent c.send_all.ensures.front c.send_all.ensures.taken c.send_all.ensures.failed
