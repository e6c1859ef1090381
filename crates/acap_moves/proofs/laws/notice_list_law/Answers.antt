use Rattle.acap_moves.proofs.Mixed.{notice_list}
use Rattle.acap_moves.proofs.laws.notice_list_law.Goals as goal

pub returns : goal.returns
returns g c = notice_list
