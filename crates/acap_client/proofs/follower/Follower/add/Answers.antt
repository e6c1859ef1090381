use Rattle.acap_client.specs.Arguments.{data_in}
use Rattle.acap_client.specs.Following.{row_of}
use Rattle.acap_client.proofs.OneOfMany.{row_ok}
use Rattle.acap_client.proofs.follower.Follower.add.Goals as goal

pub returns-clause-ok : goal.returns-clause-ok
returns-clause-ok c =
    rw (← c.self.view_is) (row_ok c.add.result c.args.tag.now (row_of c.args.name.now (data_in c.args.items.now)) (record { contexts = c.self.inside.contexts.items; asked = c.self.inside.asked.items }) c.add.new.waiting.items c.add.ensures.ok)
