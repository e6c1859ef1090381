use Rattle.std.proofs.Common.{rules, [], append-nil, ◌≡◌, ◌++◌, refl, ap, sym, ◌∙◌, length, subst, IsTrue}
use Rattle.acap_views.specs.Room.{HasRoom}
use Rattle.acap_views.specs.EntryUpdates.{after_shifts, shifts_notices}
use Rattle.acap_views.proofs.LoopUpdateLemmas.{none_of, room_first, present_on, told_on, full_then}
use Rattle.acap_views.proofs.live_lists.LiveLists.follow.Goals as goal

pub loop-shift-init : goal.loop-shift-init
loop-shift-init c =
    let same : c.into_iter-shift-iterator.result.rest.items ≡ c.args.shifts.items = search rules in
    record {
      present = ap (λ ss. after_shifts ss c.args.self.now.present) same;
      told = ap (λ ss. c.args.self.now.pending ++ shifts_notices c.args.enumerated ss c.args.self.now.present) same;
      shown = refl;
      room = subst (λ ss. HasRoom (length ss) c.args.self.now.pending c.args.self.now.space) (sym same) c.requires;
    }

pub shift-requires : goal.shift-requires
shift-requires c = room_first (length c.next.new.self.rest.items) c.loop-shift.shift-iterator.rest.items c.loop-shift.self.pending c.loop-shift.self.space (ap length c.in-Some.ensures.steps.0) c.loop-shift.invariant.room

pub returns-then-not-shift-clause-full : goal.returns-then-not-shift-clause-full
returns-then-not-shift-clause-full c = λ e.
    full_then c.args.enumerated c.next.new.self.rest.items c.in-Some.shift c.loop-shift.self.present c.loop-shift.shift-iterator.rest.items c.loop-shift.self.pending c.args.self.now.pending _
    c.in-Some.ensures.steps.0 c.loop-shift.invariant.told (c.shift.ensures.full c.if-not-shift.true)

pub loop-shift-preserved : goal.loop-shift-preserved
loop-shift-preserved c =
    let kept : IsTrue c.shift.result = c.if-not-shift.false in
    record {
      present = present_on c.next.new.self.rest.items c.in-Some.shift c.loop-shift.self.present c.shift.new.self.present _ c.loop-shift.shift-iterator.rest.items
          c.in-Some.ensures.steps.0 c.shift.ensures.present c.loop-shift.invariant.present;
      told = told_on c.args.enumerated c.next.new.self.rest.items c.in-Some.shift c.loop-shift.self.present c.shift.new.self.present c.loop-shift.shift-iterator.rest.items c.loop-shift.self.pending _ _
          c.in-Some.ensures.steps.0 c.shift.ensures.present (c.shift.ensures.added kept) c.loop-shift.invariant.told;
      shown = c.shift.ensures.shown ∙ c.loop-shift.invariant.shown;
      room = (c.shift.ensures.room kept).more (length c.next.new.self.rest.items) (subst (λ ss. HasRoom (length ss) c.loop-shift.self.pending c.loop-shift.self.space) c.in-Some.ensures.steps.0 c.loop-shift.invariant.room);
    }

pub returns-clause-present : goal.returns-clause-present
returns-clause-present c = λ e.
    let none : c.loop-shift.shift-iterator.rest.items ≡ [] = none_of c.loop-shift.shift-iterator.rest.items c.loop-shift.shift-iterator.rest.len (sym c.loop-shift.shift-iterator.rest.ok.0) c.in-None.ensures.steps.0 in
    sym (ap (λ ss. after_shifts ss c.loop-shift.self.present) none) ∙ c.loop-shift.invariant.present

pub returns-clause-shown : goal.returns-clause-shown
returns-clause-shown c = λ e. c.loop-shift.invariant.shown

pub returns-clause-added : goal.returns-clause-added
returns-clause-added c = λ e.
    let none : c.loop-shift.shift-iterator.rest.items ≡ [] = none_of c.loop-shift.shift-iterator.rest.items c.loop-shift.shift-iterator.rest.len (sym c.loop-shift.shift-iterator.rest.ok.0) c.in-None.ensures.steps.0 in
    sym (ap (λ ss. c.loop-shift.self.pending ++ shifts_notices c.args.enumerated ss c.loop-shift.self.present) none ∙ append-nil c.loop-shift.self.pending) ∙ c.loop-shift.invariant.told
