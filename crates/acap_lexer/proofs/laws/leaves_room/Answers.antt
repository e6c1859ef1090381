use Rattle.acap_lexer.proofs.ProgressLaws.{leaves_room}
use Rattle.acap_lexer.proofs.laws.leaves_room.Goals as goal

pub returns : goal.returns
returns c = leaves_room
