use Rattle.std.proofs.Common.{◌≡◌, ◌++◌, map, drop}
use Rattle.acap_search.specs.Views.{data_at}
use Rattle.acap_search.proofs.rows.lists_of.Given as goal

abbrev pub invariant-loop-attribute : goal.invariant-loop-attribute
invariant-loop-attribute g l =
    l.lists ++ map (data_at l.spot l.wanted) (map (λ e. e.0) (drop l.attribute-index l.attribute-items))
    ≡ map (data_at l.spot l.wanted) (map (λ e. e.0) l.attribute-items)
