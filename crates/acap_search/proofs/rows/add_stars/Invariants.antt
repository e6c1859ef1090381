use Rattle.std.proofs.Common.{◌≡◌, drop, map}
use Rattle.acap_search.specs.Views.{stars_among}
use Rattle.acap_search.proofs.rows.add_stars.Given as goal

abbrev pub invariant-loop-attribute : goal.invariant-loop-attribute
invariant-loop-attribute g l =
    stars_among l.spot l.front (map (λ e. e.0) (drop l.attribute-index l.attribute-items)) l.stars
    ≡ stars_among l.spot l.front (map (λ e. e.0) l.attribute-items) l.initial.stars
