use Rattle.acap_inherit.proofs.TouchedLemmas.{any_touched, touched_rises, formed_order}
use Rattle.acap_inherit.proofs.PartLemmas.{together}
use Rattle.acap_inherit.proofs.laws.touched_paths_law.Goals as goal

pub returns : goal.returns
returns c = record { all = any_touched; rises = touched_rises; together = together; formed = formed_order }
