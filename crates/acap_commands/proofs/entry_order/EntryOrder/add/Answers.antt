use Rattle.std.proofs.Common.{◌≡◌, ◌∷◌, ◌++◌, [], not, sym, ap, ◌∙◌, length, subst}
use Rattle.std.specs.List.{insert}
use Rattle.acap_ordmap.specs.Sorted.{place}
use Rattle.acap_entries.specs.Store.{path_cmp}
use Rattle.acap_commands.specs.EntryOrder.{places_by_path, Orders}
use Rattle.acap_commands.proofs.OrderLemmas.{tied_has, orders_new, orders_same}
use Rattle.acap_commands.proofs.entry_order.EntryOrder.add.Goals as goal
use Rattle.acap_commands.proofs.entry_order.EntryOrder.add.Goals.{then-not-stands+in_ok-insert, else-not-stands}

pub returns-clause-new : goal.returns-clause-new
returns-clause-new c = ap not (c.place_of-at.ensures.tied ∙ tied_has c.args.entries.now c.args.self.now c.args.next.now.path c.requires)

pub returns-clause-ok : goal.returns-clause-ok
returns-clause-ok c = elim c.if-not-stands.branch [
  | then-not-stands+in_ok-insert w ↦
      let now : c.if-not-stands.self ≡ insert c.args.self.now (place path_cmp c.args.next.now.path (places_by_path c.args.entries.now c.args.self.now)) (length c.args.entries.now) =
      w.self-is ∙ w.in_ok-insert.ensures.items ∙ ap (λ n. insert c.self.inside.places.items n (length c.args.entries.now)) c.place_of-at.ensures.place ∙ ap (λ t. insert t (place path_cmp c.args.next.now.path (places_by_path c.args.entries.now c.args.self.now)) (length c.args.entries.now)) c.self.view_is in
      subst (λ t. Orders t (c.args.entries.now ++ c.args.next.now ∷ [])) (sym now) (orders_new c.args.entries.now c.args.self.now c.args.next.now c.requires (sym c.place_of-at.ensures.tied ∙ w.if-not-stands.true))
  | else-not-stands w ↦ rw w.self-is (orders_same c.args.entries.now c.args.self.now c.args.next.now c.requires (sym c.place_of-at.ensures.tied ∙ w.if-not-stands.false))
]
