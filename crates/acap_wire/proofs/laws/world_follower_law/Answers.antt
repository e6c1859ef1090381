use Rattle.acap_wire.proofs.Following.{law_for}
use Rattle.acap_wire.proofs.laws.world_follower_law.Goals as goal

pub returns : goal.returns
returns c = law_for c.args.world.now.users c.form_law.ensures c.follower_law.ensures
