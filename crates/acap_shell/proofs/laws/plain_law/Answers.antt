use Rattle.acap_shell.proofs.ReadBack.{all_plain}
use Rattle.acap_shell.proofs.laws.plain_law.Goals as goal

pub returns : goal.returns
returns c = all_plain c.args.octets.now
