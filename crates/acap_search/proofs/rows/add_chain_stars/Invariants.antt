use Rattle.std.proofs.Common.{◌≡◌, drop, map}
use Rattle.acap_search.specs.Views.{stars_along}
use Rattle.acap_search.proofs.rows.add_chain_stars.Given as goal

abbrev pub invariant-loop-dataset : goal.invariant-loop-dataset
invariant-loop-dataset g l =
    stars_along l.spot l.front (map (λ d. d.now) (drop l.dataset-index l.dataset-items)) l.stars
    ≡ stars_along l.spot l.front (map (λ d. d.now) l.dataset-items) l.initial.stars
