use Rattle.acap_dialogue.proofs.Speaking.{awaits, awaits_as, more_as, same_talk}
use Rattle.acap_dialogue.proofs.session.Session.next.Goals as goal

pub returns-clause-asked : goal.returns-clause-asked
returns-clause-asked c =
    awaits_as _ c.in_ok-heard.heard c.hear.new.out.items c.hear.new.self c.next_of.result (awaits c.args.users.now c.args.nonce c.args.clock c.args.self.now) c.in_ok-heard.ensures.0 c.in_ok-heard.ensures.1 c.next_of.ensures

pub returns-clause-more : goal.returns-clause-more
returns-clause-more c =
    more_as _ c.in_ok-heard.heard c.hear.new.out.items c.args.self.now c.hear.new.self c.next_of.result (same_talk c.args.users.now c.args.nonce c.args.clock c.args.self.now) c.in_ok-heard.ensures.0 c.in_ok-heard.ensures.1 c.next_of.ensures
