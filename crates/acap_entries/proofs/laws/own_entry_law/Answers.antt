use Rattle.acap_entries.proofs.OwnLaws.{own_entry_law}
use Rattle.acap_entries.proofs.laws.own_entry_law.Goals as goal

pub returns : goal.returns
returns c = own_entry_law
