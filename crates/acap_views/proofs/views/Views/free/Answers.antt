use Rattle.std.proofs.Common.{refl, sym, ap, ◌∙◌}
use Rattle.std.specs.Ordering.{nat_cmp}
use Rattle.std.specs.Cmp.Lexicographic.{nat_list_cmp_total}
use Rattle.std.specs.FinMap as table
use Rattle.acap_entries.proofs.StoreLemmas.{octets_same}
use Rattle.acap_views.specs.Contexts.{Contexts}
use Rattle.acap_views.specs.Keeping.{contexts_in, seats_in}
use Rattle.acap_views.proofs.AnswerLemmas.{freed_no, freed_yes}
use Rattle.acap_views.proofs.KeepingLemmas.{contexts_remove, seats_in_order, changed_in, same_seats, none_at, has_at}
use Rattle.acap_views.proofs.ValueLemmas.{tied_in, place_in, remove_missing}
use Rattle.acap_views.proofs.views.Views.free.Goals as goal

pub returns-then-not-tied-clause-refused : goal.returns-then-not-tied-clause-refused
returns-then-not-tied-clause-refused c =
    let es = c.self.inside.seats.items in
    let seat = c.args.seat in
    let tied = tied_in nat_cmp seat c.as_slice.result.now es _ _ c.place_of-at.ensures.tied c.if-not-tied.true c.as_slice.ensures.value in
    freed_no (seats_in c.args.self.now) seat c.args.name.now (none_at es seat c.self.invariant (seats_in c.args.self.now) c.args.name.now (ap seats_in c.self.view_is) tied)

pub invariant_of-self : goal.invariant_of-self
invariant_of-self c =
    let es = c.self.inside.seats.items in
    let seat = c.args.seat in
    let tied = tied_in nat_cmp seat c.as_slice.result.now es _ _ c.place_of-at.ensures.tied c.if-not-tied.false c.as_slice.ensures.value in
    let place = place_in nat_cmp seat c.as_slice.result.now es _ c.place_of-at.ensures.place c.as_slice.ensures.value in
    seats_in_order es seat c.self.invariant _ c.place_of-at.result.0 c.index_mut.result.now c.free.new.self tied place refl c.index_mut.ensures.value

pub returns-then-not-free-clause-refused : goal.returns-then-not-free-clause-refused
returns-then-not-free-clause-refused c =
    let es = c.self.inside.seats.items in
    let seat = c.args.seat in
    let tied = tied_in nat_cmp seat c.as_slice.result.now es _ _ c.place_of-at.ensures.tied c.if-not-tied.false c.as_slice.ensures.value in
    let place = place_in nat_cmp seat c.as_slice.result.now es _ c.place_of-at.ensures.place c.as_slice.ensures.value in
    let has = has_at es seat c.self.invariant _ c.place_of-at.result.0 c.index_mut.result.now c.free.new.self tied place refl c.index_mut.ensures.value (seats_in c.args.self.now) c.args.name.now (ap seats_in c.self.view_is) in
    freed_no (seats_in c.args.self.now) seat c.args.name.now (has ∙ (sym c.free.ensures.freed ∙ c.if-not-free.true))

pub returns-then-not-free-clause-err : goal.returns-then-not-free-clause-err
returns-then-not-free-clause-err c =
    let es = c.self.inside.seats.items in
    let seat = c.args.seat in
    let tied = tied_in nat_cmp seat c.as_slice.result.now es _ _ c.place_of-at.ensures.tied c.if-not-tied.false c.as_slice.ensures.value in
    let place = place_in nat_cmp seat c.as_slice.result.now es _ c.place_of-at.ensures.place c.as_slice.ensures.value in
    let missing = remove_missing nat_list_cmp_total octets_same c.index_mut.result.now.1.contexts c.args.name.now (sym c.free.ensures.freed ∙ c.if-not-free.true) in
    same_seats es seat c.self.invariant _ c.place_of-at.result.0 c.index_mut.result.now c.free.new.self tied place refl c.index_mut.ensures.value c.free.ensures.user (ap contexts_in (c.free.ensures.contexts ∙ missing)) ∙ ap seats_in c.self.view_is

pub invariant_of-self-2 : goal.invariant_of-self-2
invariant_of-self-2 c =
    let es = c.self.inside.seats.items in
    let seat = c.args.seat in
    let tied = tied_in nat_cmp seat c.as_slice.result.now es _ _ c.place_of-at.ensures.tied c.if-not-tied.false c.as_slice.ensures.value in
    let place = place_in nat_cmp seat c.as_slice.result.now es _ c.place_of-at.ensures.place c.as_slice.ensures.value in
    seats_in_order es seat c.self.invariant _ c.place_of-at.result.0 c.index_mut.result.now c.free.new.self tied place refl c.index_mut.ensures.value

pub returns-clause-ok : goal.returns-clause-ok
returns-clause-ok c =
    let es = c.self.inside.seats.items in
    let seat = c.args.seat in
    let tied = tied_in nat_cmp seat c.as_slice.result.now es _ _ c.place_of-at.ensures.tied c.if-not-tied.false c.as_slice.ensures.value in
    let place = place_in nat_cmp seat c.as_slice.result.now es _ c.place_of-at.ensures.place c.as_slice.ensures.value in
    let has = has_at es seat c.self.invariant _ c.place_of-at.result.0 c.index_mut.result.now c.free.new.self tied place refl c.index_mut.ensures.value (seats_in c.args.self.now) c.args.name.now (ap seats_in c.self.view_is) in
    let left = changed_in es seat c.self.invariant _ c.place_of-at.result.0 c.index_mut.result.now c.free.new.self tied place refl c.index_mut.ensures.value (seats_in c.args.self.now) (λ (cs : Contexts). table.remove cs c.args.name.now) (ap seats_in c.self.view_is)
    c.free.ensures.user (ap contexts_in c.free.ensures.contexts ∙ contexts_remove c.index_mut.result.now.1.contexts c.args.name.now) in
    freed_yes (seats_in c.args.self.now) _ seat c.args.name.now (has ∙ (sym c.free.ensures.freed ∙ c.if-not-free.false)) left
