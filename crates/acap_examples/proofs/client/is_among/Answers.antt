use Rattle.std.proofs.Common.{◌∙◌}
use Rattle.acap_examples.proofs.ClientLemmas.{any_among}
use Rattle.acap_examples.proofs.client.is_among.Goals as goal

pub returns : goal.returns
returns c = c.any_is.ensures ∙ any_among c.args.name.now c.args.names.now
