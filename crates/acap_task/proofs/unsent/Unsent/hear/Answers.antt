use Rattle.acap_dialogue.proofs.Speaking.{awaits}
use Rattle.acap_task.proofs.Hearing.{awaits_as}
use Rattle.acap_task.proofs.unsent.Unsent.hear.Goals as goal

pub returns-clause-asked : goal.returns-clause-asked
returns-clause-asked c =
    awaits_as _ c.hear.result _ _ _ _ c.hear.ensures (awaits c.args.users.now c.args.nonce c.args.clock c.args.session.now)
