use Rattle.std.proofs.Common.{◌≡◌, ◌≤◌, ◌<◌, List, [], ◌∷◌, length, IfOk, slice_index_or, sym, ap, subst, arith}
use Rattle.acap_search.specs.Views.{items_at}
use Rattle.acap_search.proofs.rows.items_of.Goals as goal

-- a list of one item is that item
alone : {X : Type 0} (xs : List X) (x : X) → 1 ≤ length xs → length xs < 2 → x ≡ slice_index_or xs 0 x → xs ≡ x ∷ []
alone [] x some few is = absurd (omega (arith, some))
alone (y ∷ []) x some few is = ap (λ z. z ∷ []) (sym is)
alone (y ∷ z ∷ ys) x some few is = absurd (omega (arith, few))

pub returns-in-len1 : goal.returns-in-len1
returns-in-len1 g c =
    subst (λ returns. IfOk c.one_item.result (λ items. items ≡ items_at c.args.spot.now returns))
    (sym (alone c.args.returns.now c.asked-item.result c.in-len1.len_at_least c.in-len1.len_below c.asked-item.is))
    c.one_item.ensures
