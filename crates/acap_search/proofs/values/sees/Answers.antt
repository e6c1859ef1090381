use Rattle.std.proofs.Common.{sym, ◌∙◌, ap}
use Rattle.acap_search.specs.Sight.{is_seen}
use Rattle.acap_search.specs.Views.{answers_of}
use Rattle.acap_search.proofs.CacheLemmas.{none_of, near_seen, met, unmet}
use Rattle.acap_search.proofs.values.sees.Goals.{then-kept, else-kept}
use Rattle.acap_search.proofs.values.sees.Goals as goal

pub returns : goal.returns
returns g c =
    let near = c.spot.invariant.near c.in-Some.kept c.in-Some.is in
    let seen = sym (near_seen _ _ _ near.0 near.1 (none_of _ _ c.has_list.ensures c.if-not-has_list.true)) ∙ ap (λ spot. is_seen (answers_of spot)) c.spot.view_is in
    elim c.if-kept.branch [
      | then-kept w ↦ met _ _ _ w.if-kept.true (w.result-is ∙ ap (λ rights. rights.r) w.on.ensures) ∙ seen
      | else-kept w ↦ unmet _ _ _ w.if-kept.false (w.result-is ∙ w.if-kept.false) ∙ seen
    ]
