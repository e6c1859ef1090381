use Rattle.acap_shell.proofs.ReadBack.{all_back}
use Rattle.acap_shell.proofs.laws.read_back_law.Goals as goal

pub returns : goal.returns
returns c = all_back c.args.octets.now
