use Rattle.std.proofs.Common.{arith}
use Rattle.std.proofs.lemmas.Grind.{common_steps}
use Rattle.acap_search.proofs.Stars.{stars_more}
use Rattle.acap_search.proofs.rows.add_chain_stars.Goals as goal

pub loop-dataset-preserved : goal.loop-dataset-preserved
loop-dataset-preserved g c = grind (arith, common_steps, stars_more)
