use Rattle.std.proofs.Common.{refl, sym, ap, ◌∙◌}
use Rattle.std.specs.FinMap.{is_sorted}
use Rattle.acap_ordmap.specs.Ranks.{units}
use Rattle.acap_ordmap.proofs.RankLemmas.{items, items_units, order_of_units, units_in_order}
use Rattle.acap_ordmap.proofs.ranked.Ranked.from_ascending.Goals as goal

pub returns-then-not-ascend-clause-order : goal.returns-then-not-ascend-clause-order
returns-then-not-ascend-clause-order g c = (
  λ h. cc,
  λ asc. sym c.if-not-ascend.true ∙ c.ascend.ensures ∙ ap (λ xs. is_sorted g.T.Ord.cmp (units xs)) c.as_slice.ensures.value ∙ order_of_units g.T.Ord.cmp g.met.T.Ord.total c.args.items.items asc,
)

pub returns-clause-order : goal.returns-clause-order
returns-clause-order g c = (
  λ h. units_in_order g.T.Ord.cmp g.met.T.Ord.total c.args.items.items (ap (λ xs. is_sorted g.T.Ord.cmp (units xs)) (sym c.as_slice.ensures.value) ∙ sym c.ascend.ensures ∙ c.if-not-ascend.false),
  λ asc. refl,
)

pub returns-clause-value : goal.returns-clause-value
returns-clause-value g c = ap items c.in_ok-entries.ensures ∙ items_units c.args.items.items
