use Rattle.std.proofs.Common.{rules, ◌≡◌, ◌++◌, ◌∷◌, [], sym, ◌∙◌, ap}
use Rattle.acap_moves.specs.Moves.{undone, all_undone}
use Rattle.acap_views.specs.Undoing.{shown_in}
use Rattle.acap_views.proofs.UpdateLemmas.{undone_last}
use Rattle.acap_views.proofs.apply_updates.log.Goals as goal

pub returns-in-Moves-clause-list : goal.returns-in-Moves-clause-list
returns-in-Moves-clause-list c = λ now.
    let pushed : c.push.new.self.items ≡ c.in-Moves.undos.items ++ c.args.undone ∷ [] = search rules in
    ap (λ us. all_undone us now) pushed
    ∙ (undone_last c.in-Moves.undos.items c.args.undone now ∙ sym (ap (λ s. shown_in s (undone c.args.undone now)) c.in-Moves.is))
