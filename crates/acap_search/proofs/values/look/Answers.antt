use Rattle.std.proofs.Common.{sym, ◌∙◌, ap, cond, ◌||◌}
use Rattle.acap_entries.specs.declared.record.Cell.TheVariants.{Nil}
use Rattle.acap_search.specs.RecordCaches.{own_value}
use Rattle.acap_search.specs.Views.{answers_of, is_readable_at}
use Rattle.acap_search.proofs.CacheLemmas.{none_of, near_read, near_test, near_rights, near_readable}
use Rattle.acap_search.proofs.values.look.Goals as goal

pub returns-clause-read : goal.returns-clause-read
returns-clause-read g c =
    let near = c.spot.invariant.near c.in-Some.kept c.in-Some.is in
    (λ i. cond (c.on-rights.ensures i).r (c.own_value.ensures i) Nil)
    ∙ (sym (near_read _ _ _ near.0 near.1 _ (none_of _ _ c.has_list.ensures c.if-not-has_list.true))
    ∙ ap (λ spot. (answers_of spot).read c.args.attribute.now) c.spot.view_is)

pub returns-clause-test : goal.returns-clause-test
returns-clause-test g c =
    let near = c.spot.invariant.near c.in-Some.kept c.in-Some.is in
    (λ i. cond (c.may_test.ensures i) (c.own_value.ensures i) Nil)
    ∙ (ap (λ rights. cond (rights.x || rights.r) (own_value c.in-Some.kept.entry.now c.spot.inside.name.now c.args.attribute.now) Nil) c.on-rights.ensures
    ∙ (sym (near_test _ _ _ near.0 near.1 _ (none_of _ _ c.has_list.ensures c.if-not-has_list.true))
    ∙ ap (λ spot. (answers_of spot).test c.args.attribute.now) c.spot.view_is))

pub returns-clause-rights : goal.returns-clause-rights
returns-clause-rights g c =
    let near = c.spot.invariant.near c.in-Some.kept c.in-Some.is in
    c.on-rights.ensures
    ∙ (sym (near_rights _ _ _ near.0 near.1 _ (none_of _ _ c.has_list.ensures c.if-not-has_list.true))
    ∙ ap (λ spot. (answers_of spot).rights c.args.attribute.now) c.spot.view_is)

pub returns-clause-is_readable : goal.returns-clause-is_readable
returns-clause-is_readable g c =
    let near = c.spot.invariant.near c.in-Some.kept c.in-Some.is in
    ap (λ rights. rights.r) c.on-rights.ensures
    ∙ (sym (near_readable _ _ _ near.0 near.1 _ (none_of _ _ c.has_list.ensures c.if-not-has_list.true))
    ∙ ap (λ spot. is_readable_at spot c.args.attribute.now) c.spot.view_is)
