use Rattle.std.proofs.Common.{rules, ◌∙◌, ap, arith, sym}
use Rattle.std.specs.FinMap as table
use Rattle.acap_entries.specs.Changes.{store_after}
use Rattle.acap_entries.proofs.StoreLaws.{value_after}
use Rattle.acap_views.specs.PlannedChanges.{Planned}
use Rattle.acap_views.specs.Keeping.{seats_in}
use Rattle.acap_views.specs.Preparing.{seats_after, with_delta}
use Rattle.acap_views.proofs.QuietLemmas.{quiet_same, quiet_work, same_seats}
use Rattle.acap_views.proofs.views.Views.prepare.Goals as goal

pub invariant_of-ahead : goal.invariant_of-ahead
invariant_of-ahead g c =
    let change = c.args.change.now in
    let old = c.args.tree.now.store in
    let new = store_after change old in
    record {
      sound = c.requires.sound;
      formed = c.form_law.ensures;
      reached = c.in_ok-reach.ensures;
      before = search rules;
      ahead = c.of-after.ensures.store.records new (value_after change old);
    }

pub returns-clause-made : goal.returns-clause-made
returns-clause-made g c =
    let plan : Planned = record { change = c.args.change.now; old = c.args.tree.now.store; realm = c.args.realm.now } in
    let work = c.all_turns.new.work in
    ap (λ turns. with_delta (record { seats = turns; work = work }) (seats_in c.args.self.now)) c.in_ok-seats.ensures.turns
    ∙ c.prepared_law.ensures.needed plan (seats_in c.args.self.now) work
    (record { sound = c.requires.sound; paths = (value_after c.args.change.now c.args.tree.now.store).paths; formed = c.form_law.ensures }) c.requires.current

pub returns-then-not-has_live-clause-made : goal.returns-then-not-has_live-clause-made
returns-then-not-has_live-clause-made g c =
    let seats = seats_in c.args.self.now in
    ap (λ turns. table.from_entries (seats_after turns (table.entries seats))) c.nothing.ensures.seats
    ∙ (same_seats seats ∙ sym (quiet_same c.args.realm.now c.args.tree.now.store (store_after c.args.change.now c.args.tree.now.store) seats (sym c.has_live.ensures ∙ c.if-not-has_live.true)))

pub returns-then-not-has_live-clause-count : goal.returns-then-not-has_live-clause-count
returns-then-not-has_live-clause-count g c =
    let seats = seats_in c.args.self.now in
    let none = quiet_work c.args.change.now.writes c.args.tree.now.store (store_after c.args.change.now c.args.tree.now.store) seats (sym c.has_live.ensures ∙ c.if-not-has_live.true) in
    omega (arith, none)
