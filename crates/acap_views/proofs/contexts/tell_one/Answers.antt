use Rattle.std.proofs.Common.{refl, ◌∙◌}
use Rattle.acap_entries.specs.Orders.{octets_cmp}
use Rattle.acap_views.specs.Listing.{as_contexts}
use Rattle.acap_views.proofs.InPlaceLemmas.{updated_none, updated_some}
use Rattle.acap_views.proofs.KeepingLemmas.{not_listed, listed_in_order, was_listed, now_listed}
use Rattle.acap_views.proofs.ValueLemmas.{tied_in, place_in}
use Rattle.acap_views.proofs.contexts.tell_one.Goals as goal

pub returns-then-not-tied-clause-told : goal.returns-then-not-tied-clause-told
returns-then-not-tied-clause-told c =
    let tied = tied_in octets_cmp c.args.name.now c.as_slice.result.now c.args.contexts.now.items _ _ c.place_of-at.ensures.tied c.if-not-tied.true c.as_slice.ensures.value in
    updated_none (as_contexts c.args.contexts.now.items) c.args.name.now c.args.last (not_listed c.args.contexts.now.items c.args.name.now c.requires tied)

pub returns-clause-order : goal.returns-clause-order
returns-clause-order c =
    let tied = tied_in octets_cmp c.args.name.now c.as_slice.result.now c.args.contexts.now.items _ _ c.place_of-at.ensures.tied c.if-not-tied.false c.as_slice.ensures.value in
    let place = place_in octets_cmp c.args.name.now c.as_slice.result.now c.args.contexts.now.items _ c.place_of-at.ensures.place c.as_slice.ensures.value in
    listed_in_order c.args.contexts.now.items c.args.name.now c.requires _ c.place_of-at.result.0 c.index_mut.result.now c.tell_upto.new.self tied place refl c.index_mut.ensures.value

pub returns-clause-told : goal.returns-clause-told
returns-clause-told c =
    let es = c.args.contexts.now.items in
    let name = c.args.name.now in
    let tied = tied_in octets_cmp name c.as_slice.result.now es _ _ c.place_of-at.ensures.tied c.if-not-tied.false c.as_slice.ensures.value in
    let place = place_in octets_cmp name c.as_slice.result.now es _ c.place_of-at.ensures.place c.as_slice.ensures.value in
    now_listed es name c.requires _ c.place_of-at.result.0 c.index_mut.result.now c.tell_upto.new.self tied place refl c.index_mut.ensures.value
    ∙ updated_some (as_contexts es) name c.args.last _ _ (was_listed es name c.requires _ c.place_of-at.result.0 c.index_mut.result.now c.tell_upto.new.self tied place refl c.index_mut.ensures.value) c.tell_upto.ensures
