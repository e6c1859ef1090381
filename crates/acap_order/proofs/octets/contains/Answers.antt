use Rattle.std.proofs.Common.{◌∙◌, arith}
use Rattle.std.proofs.lemmas.Bool.Decides.{same_from_decides}
use Rattle.acap_order.proofs.MatchLemmas.{Decides-find, Decides-longer, Decides-stands}
use Rattle.acap_order.proofs.octets.contains.Goals as goal

pub returns-then-pattern-text : goal.returns-then-pattern-text
returns-then-pattern-text c =
    let text = c.args.text.now in
    let pattern = c.args.pattern.now in
    same_from_decides _ _ (Decides-longer text pattern (omega arith)) (Decides-stands text pattern)

pub returns : goal.returns
returns c =
    let text = c.args.text.now in
    let pattern = c.args.pattern.now in
    c.is_some.ensures ∙ same_from_decides _ _ (Decides-find text pattern _ c.find.ensures) (Decides-stands text pattern)
