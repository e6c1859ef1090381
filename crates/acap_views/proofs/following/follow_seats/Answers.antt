use Rattle.std.proofs.Common.{◌≡◌, ◌<◌, ◌≤◌, [], length, refl, sym, ◌∙◌, arith, map as each}
use Rattle.acap_views.specs.Followed.{FitsSeat}
use Rattle.acap_views.specs.Listing.{bare_seat}
use Rattle.acap_views.proofs.FollowingLemmas.{seat_turn, seats_is, followed_on, followed_past, followed_all, room_on}
use Rattle.acap_views.proofs.LoopUpdateLemmas.{none_of}
use Rattle.acap_views.proofs.following.follow_seats.Goals as goal

pub returns-then-at-len : goal.returns-then-at-len
returns-then-at-len c =
    let items = c.loop-at_seat.seats.items in
    let past : length items ≤ c.loop-at_seat.at = omega (arith, c.if-at-len.true, c.len.ensures, c.loop-at_seat.seats.ok.0) in
    followed_past seat_turn bare_seat c.loop-at_seat.at_seat-iterator.rest.items items c.loop-at_seat.at _ past c.loop-at_seat.invariant.followed
    ∙ seats_is c.args.turns.items (each bare_seat c.args.seats.now.items)

pub loop-at_seat-preserved : goal.loop-at_seat-preserved
loop-at_seat-preserved c =
    let items = c.loop-at_seat.seats.items in
    let within : c.loop-at_seat.at < length items = omega (arith, c.if-at-len.false, c.len.ensures, c.loop-at_seat.seats.ok.0) in
    let e = c.index_mut.result.now in
    record {
      followed = followed_on seat_turn bare_seat c.loop-at_seat.at_seat-iterator.rest.items c.in-Some.at_seat c.next.new.self.rest.items items _ c.loop-at_seat.at e (e.0, c.follow.new.self) _
          c.in-Some.ensures.steps.0 within c.index_mut.ensures.value (λ j. (e.0, c.follow.ensures j)) refl c.loop-at_seat.invariant.followed;
      room = room_on FitsSeat c.loop-at_seat.at_seat-iterator.rest.items c.in-Some.at_seat c.next.new.self.rest.items items _ c.loop-at_seat.at (e.0, c.follow.new.self)
          c.in-Some.ensures.steps.0 within refl c.loop-at_seat.invariant.room;
    }

pub returns : goal.returns
returns c =
    let rest = c.loop-at_seat.at_seat-iterator.rest in
    let none : rest.items ≡ [] = none_of rest.items rest.len (sym rest.ok.0) c.in-None.ensures.steps.0 in
    followed_all seat_turn bare_seat rest.items c.loop-at_seat.seats.items c.loop-at_seat.at _ none c.loop-at_seat.invariant.followed
    ∙ seats_is c.args.turns.items (each bare_seat c.args.seats.now.items)
