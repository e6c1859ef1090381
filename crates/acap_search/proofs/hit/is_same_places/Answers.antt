use Rattle.std.proofs.Common.{sym, ◌∙◌}
use Rattle.acap_search.proofs.EqualLemmas.{places_exact}
use Rattle.acap_search.proofs.hit.is_same_places.Goals as goal

pub returns : goal.returns
returns c = let h = places_exact c.args.places.now c.args.other.now in (λ e. h.0 (sym c.eq.ensures ∙ e), λ e. c.eq.ensures ∙ h.1 e)
