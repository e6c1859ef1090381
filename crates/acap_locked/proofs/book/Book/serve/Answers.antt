use Rattle.acap_locked.proofs.Replays.{served}
use Rattle.acap_locked.proofs.book.Book.serve.Goals as goal

pub returns-clause-ok : goal.returns-clause-ok
returns-clause-ok g c = served _ _ _ _ _ _ _ _ c.turn.ensures c.serve_here.ensures.ok
