use Rattle.std.proofs.Common.{◌≡◌, true, sym, ◌∙◌}
use Rattle.std.specs.Ordering.{is_lt}
use Rattle.acap_grammar.proofs.Ascending.{no_attribute}
use Rattle.acap_grammar.proofs.gathered.GatheredItems.has_attribute.Goals as goal

pub returns-then-is_lt : goal.returns-then-is_lt
returns-then-is_lt c =
    let less : is_lt c.last_attribute_cmp.result ≡ true = sym c.is_lt.ensures ∙ c.if-is_lt.true in
    sym (rw (← c.self.view_is) (no_attribute c.self.inside.ascend _ _ c.self.invariant c.if-self.true (rw (← c.as_slice-seen.ensures, ← c.last_attribute_cmp.ensures) less)))
