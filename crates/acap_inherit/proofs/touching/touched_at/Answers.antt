use Rattle.std.proofs.lemmas.Result.{IfOk-weaker}
use Rattle.acap_entries.proofs.AfterLemmas.{read_ahead}
use Rattle.acap_inherit.proofs.PartLemmas.{found_at}
use Rattle.acap_inherit.proofs.touching.touched_at.Goals as goal

pub returns : goal.returns
returns c =
    IfOk-weaker c.paths_at.result _ _ (λ paths e new h.
    found_at c.args.change.now c.args.tree.now.store new _ c.args.dataset.now paths h ((read_ahead c.args.change.now c.args.tree.now.store).records new h) e) c.paths_at.ensures
