use Rattle.std.proofs.Common.{◌≡◌, ◌∷◌, ◌∙◌, sym, rules, tests}
use Rattle.acap_client.proofs.Each.{both, differs}
use Rattle.acap_client.proofs.storing.first_items.Goals as goal

pub returns-then-are_same : goal.returns-then-are_same
returns-then-are_same c =
    let split : c.args.others.now ≡ c.in-Some.other.now ∷ c.in-Some.left.now = search (rules, tests) in
    both _ _ _ _ _ _ split (rw (c.as_slice.ensures, c.as_slice-2.ensures) at (sym c.are_same.ensures ∙ c.if-are_same.true)) c.in_ok-two_items.ensures

pub returns : goal.returns
returns c =
    let split : c.args.others.now ≡ c.in-Some.other.now ∷ c.in-Some.left.now = search (rules, tests) in
    differs _ _ _ _ _ _ split (rw (c.as_slice.ensures, c.as_slice-2.ensures) at (sym c.are_same.ensures ∙ c.if-are_same.false)) c.in_ok-one_item-2.ensures
