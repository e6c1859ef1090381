use Rattle.std.proofs.Common.{◌++◌, ◌∷◌, [], true, refl, subst}
use Rattle.acap_entries.proofs.StoreLemmas.{path_cmp_total}
use Rattle.acap_entries.specs.Store.{path_cmp}
use Rattle.acap_commands.specs.EntryOrder.{Orders}
use Rattle.acap_grammar.specs.Gathering.{Gathered}
use Rattle.acap_commands.specs.declared.store.StoreEntry.{StoreEntry}
use Rattle.acap_grammar.proofs.Ascending.{ascends_more}
use Rattle.acap_grammar.proofs.gathered.GatheredEntries.with.Goals as goal
use Rattle.acap_grammar.proofs.gathered.GatheredEntries.with.Goals.{in-Some+in_ok-add-in-Some, in-None+then-is_le, in-None+else-is_le+in_ok-order_with-in-None}

pub invariant_of-result : goal.invariant_of-result
invariant_of-result c = elim c.match-order.branch [
  | in-Some+in_ok-add-in-Some w ↦ rw (w.order-is, c.in_ok-push.ensures.ok) (subst (λ t. Orders w.add.new.self (t ++ c.args.entry ∷ [])) w.as_slice.ensures w.in_ok-add-in-Some.ensures.ok)
  | in-None+then-is_le w ↦
      let ascend = subst (λ o. Gathered o c.self.inside.entries) w.in-None.is c.self.invariant in
      rw (w.order-is, c.in_ok-push.ensures.ok) (ascends_more (λ (e : StoreEntry). e.path) path_cmp path_cmp_total true true _ _ ascend refl (rw (← w.as_slice-in-None.ensures, ← w.last_path_cmp.ensures) w.if-is_le.ensures))
  | in-None+else-is_le+in_ok-order_with-in-None w ↦ rw (w.order-is, c.in_ok-push.ensures.ok) (subst (λ t. Orders w.in_ok-order_with-in-None.field-0 (t ++ c.args.entry ∷ [])) w.as_slice-else-is_le.ensures w.in_ok-order_with-in-None.ensures)
]
