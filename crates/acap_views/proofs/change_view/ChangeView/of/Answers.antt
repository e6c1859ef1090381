use Rattle.std.proofs.Common.{◌≡◌, ◌∙◌, ap, subst}
use Rattle.std.specs.Option.{ForSome}
use Rattle.acap_entries.specs.Leaving.{records_before, records_ahead}
use Rattle.acap_entries.specs.Store.{Store, Stored}
use Rattle.acap_views.specs.PlannedChanges.{Planned, store_ahead}
use Rattle.acap_views.specs.FirstWrites.{IsOfBoth}
use Rattle.acap_views.proofs.change_view.ChangeView.of.Goals as goal

pub invariant_of-result : goal.invariant_of-result
invariant_of-result c =
    let plan = c.args.ahead.now in
    let after = c.ahead.inside.after.now in
    let first = c.first_written-first.result in
    let old : records_before after ≡ plan.old.records =
    c.ahead.invariant.before ∙ ap (λ (p : Planned). p.old.records) c.ahead.view_is in
    let new : records_ahead after ≡ (store_ahead plan).records =
    c.ahead.invariant.ahead ∙ ap (λ (p : Planned). (store_ahead p).records) c.ahead.view_is in
    record {
      at_hand = subst (λ (records : Stored). ForSome first (IsOfBoth records (store_ahead plan).records)) old
          (subst (λ (records : Stored). ForSome first (IsOfBoth (records_before after) records)) new c.first_written-first.ensures);
      near = ap (λ (s : Store). s.records) c.of-beside.ensures ∙ new;
    }
