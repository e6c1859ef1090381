use Rattle.acap_client.proofs.hearing.hear.Goals as goal

pub returns-in-Marked : goal.returns-in-Marked
returns-in-Marked c = c.hear_return.ensures c.args.room

pub returns-in-Returned : goal.returns-in-Returned
returns-in-Returned c = c.hear_last.ensures c.args.room
