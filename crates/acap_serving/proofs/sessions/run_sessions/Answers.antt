use Rattle.acap_serving.proofs.sessions.run_sessions.Goals as goal

pub run_in-requires-clause-hosts : goal.run_in-requires-clause-hosts
run_in-requires-clause-hosts g c κs within = rw c.in-Ok-Ok.is-0 at c.seat_bells-stock.ensures.hosts
