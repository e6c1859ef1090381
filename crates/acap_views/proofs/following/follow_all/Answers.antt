use Rattle.std.proofs.Common.{◌≡◌, ◌<◌, ◌≤◌, [], length, refl, sym, ◌∙◌, arith, map as each}
use Rattle.acap_views.specs.Followed.{FitsContext}
use Rattle.acap_views.specs.Listing.{bare}
use Rattle.acap_views.proofs.FollowingLemmas.{context_turn, contexts_is, followed_on, followed_past, followed_all, room_on}
use Rattle.acap_views.proofs.LoopUpdateLemmas.{none_of}
use Rattle.acap_views.proofs.following.follow_all.Goals as goal

pub returns-then-at-len : goal.returns-then-at-len
returns-then-at-len c =
    let items = c.loop-shifts.contexts.items in
    let past : length items ≤ c.loop-shifts.at = omega (arith, c.if-at-len.true, c.len.ensures, c.loop-shifts.contexts.ok.0) in
    followed_past context_turn bare c.loop-shifts.shifts-iterator.rest.items items c.loop-shifts.at _ past c.loop-shifts.invariant.followed
    ∙ contexts_is c.args.turns (each bare c.args.contexts.now.items)

pub loop-shifts-preserved : goal.loop-shifts-preserved
loop-shifts-preserved c =
    let items = c.loop-shifts.contexts.items in
    let within : c.loop-shifts.at < length items = omega (arith, c.if-at-len.false, c.len.ensures, c.loop-shifts.contexts.ok.0) in
    let e = c.index_mut.result.now in
    record {
      followed = followed_on context_turn bare c.loop-shifts.shifts-iterator.rest.items c.in-Some.shifts c.next.new.self.rest.items items _ c.loop-shifts.at e (e.0, c.follow.new.self) _
          c.in-Some.ensures.steps.0 within c.index_mut.ensures.value (λ j. (e.0, c.follow.ensures j)) refl c.loop-shifts.invariant.followed;
      room = room_on FitsContext c.loop-shifts.shifts-iterator.rest.items c.in-Some.shifts c.next.new.self.rest.items items _ c.loop-shifts.at (e.0, c.follow.new.self)
          c.in-Some.ensures.steps.0 within refl c.loop-shifts.invariant.room;
    }

pub returns : goal.returns
returns c =
    let rest = c.loop-shifts.shifts-iterator.rest in
    let none : rest.items ≡ [] = none_of rest.items rest.len (sym rest.ok.0) c.in-None.ensures.steps.0 in
    followed_all context_turn bare rest.items c.loop-shifts.contexts.items c.loop-shifts.at _ none c.loop-shifts.invariant.followed
    ∙ contexts_is c.args.turns (each bare c.args.contexts.now.items)
