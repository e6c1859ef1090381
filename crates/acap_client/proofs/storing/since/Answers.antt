use Rattle.std.proofs.Common.{◌∙◌}
use Rattle.acap_ordmap.proofs.Logic.{OnOk_also}
use Rattle.acap_grammar.specs.Spelling.{time}
use Rattle.acap_client.proofs.storing.since.Goals as goal

pub returns : goal.returns
returns c = OnOk_also c.time.result c.time.ensures (λ w after. c.in_ok-word.ensures (time c.args.moment after) ∙ w after)
