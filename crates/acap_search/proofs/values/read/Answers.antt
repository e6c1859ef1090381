use Rattle.std.proofs.Common.{sym, ◌∙◌, ap, cond}
use Rattle.acap_entries.specs.declared.record.Cell.TheVariants.{Nil}
use Rattle.acap_search.specs.RecordCaches.{own_value}
use Rattle.acap_search.specs.Views.{answers_of}
use Rattle.acap_search.proofs.CacheLemmas.{none_of, near_read}
use Rattle.acap_search.proofs.values.read.Goals as goal

pub returns-then-on : goal.returns-then-on
returns-then-on g c =
    let near = c.spot.invariant.near c.in-Some.kept c.in-Some.is in
    c.own_value.ensures
    ∙ (ap (λ may. cond may (own_value c.in-Some.kept.entry.now c.spot.inside.name.now c.args.attribute.now) Nil) (sym c.if-on.true ∙ ap (λ rights. rights.r) c.on.ensures)
    ∙ (sym (near_read _ _ _ near.0 near.1 _ (none_of _ _ c.has_list.ensures c.if-not-has_list.true))
    ∙ ap (λ spot. (answers_of spot).read c.args.attribute.now) c.spot.view_is))

pub returns : goal.returns
returns g c =
    let near = c.spot.invariant.near c.in-Some.kept c.in-Some.is in
    ap (λ may. cond may (own_value c.in-Some.kept.entry.now c.spot.inside.name.now c.args.attribute.now) Nil) (sym c.if-on.false ∙ ap (λ rights. rights.r) c.on.ensures)
    ∙ (sym (near_read _ _ _ near.0 near.1 _ (none_of _ _ c.has_list.ensures c.if-not-has_list.true))
    ∙ ap (λ spot. (answers_of spot).read c.args.attribute.now) c.spot.view_is)
