use Rattle.acap_session.proofs.Living.{law_for}
use Rattle.acap_session.proofs.world.World.live_law.Goals as goal

pub returns : goal.returns
returns c = law_for c.args.self.now.users c.form_law.ensures c.live_law.ensures
