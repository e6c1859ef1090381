use Rattle.std.proofs.Common.{refl}
use Rattle.std.proofs.lemmas.Cmp.{nat_list_cmp_total}
use Rattle.acap_entries.specs.Orders.{octets_cmp}
use Rattle.acap_commands.specs.declared.store.StoreItem.{StoreItem}
use Rattle.acap_grammar.proofs.Ascending.{ascends_more, ascends_not}
use Rattle.acap_grammar.proofs.gathered.GatheredItems.with.Goals as goal
use Rattle.acap_grammar.proofs.gathered.GatheredItems.with.Goals.{then-self, else-self}

pub invariant_of-result : goal.invariant_of-result
invariant_of-result c = elim c.if-self.branch [
  | then-self w ↦ rw c.in_ok-push.ensures.ok (ascends_more (λ (i : StoreItem). i.attribute) octets_cmp nat_list_cmp_total c.self.inside.ascend c.if-self.ascend _ _ c.self.invariant w.if-self.true (rw (w.ascend-is, w.is_le-ascend.ensures, w.last_attribute_cmp.ensures, w.as_slice.ensures) refl))
  | else-self w ↦ ascends_not (λ (i : StoreItem). i.attribute) octets_cmp nat_list_cmp_total c.if-self.ascend _ (rw w.ascend-is w.if-self.false)
]
