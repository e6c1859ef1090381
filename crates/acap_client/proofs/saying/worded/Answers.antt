use Rattle.std.proofs.Common.{◌∙◌}
use Rattle.acap_client.specs.Arguments.{data_in}
use Rattle.acap_client.proofs.Continued.{two_words}
use Rattle.acap_client.proofs.saying.worded.Goals as goal

pub returns-in-Some : goal.returns-in-Some
returns-in-Some c = c.worded_twice.ensures ∙ two_words c.args.first.now c.in-Some.word.now (data_in c.args.args.now) (data_in c.in-Some.rest) c.in-Some.ensures
