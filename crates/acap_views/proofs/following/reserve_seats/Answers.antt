use Rattle.std.proofs.Common.{◌≡◌, ◌<◌, ◌≤◌, min, length, refl, subst, arith}
use Rattle.std.proofs.lemmas.Grind.{common_steps}
use Rattle.acap_views.specs.Followed.{FitsSeat, IsRoomySeat}
use Rattle.acap_views.specs.Listing.{bare_seat}
use Rattle.acap_views.proofs.FollowingLemmas.{same_on, same_count, room_made, room_all}
use Rattle.acap_views.proofs.following.reserve_seats.Goals as goal

pub returns-in_err-reserve-clause-same : goal.returns-in_err-reserve-clause-same
returns-in_err-reserve-clause-same c =
    let e = c.index_mut.result.now in
    same_on bare_seat c.loop-at.seats.items _ c.loop-at.at e (e.0, c.reserve.new.self) _ c.index_mut.ensures.value (λ j. (e.0, c.reserve.ensures.same j)) refl c.loop-at.invariant.same

pub loop-at-preserved : goal.loop-at-preserved
loop-at-preserved c =
    let e = c.index_mut.result.now in
    let within : c.loop-at.at < length c.args.turns.now = grind (arith, common_steps) in
    record {
      same = same_on bare_seat c.loop-at.seats.items _ c.loop-at.at e (e.0, c.reserve.new.self) _ c.index_mut.ensures.value (λ j. (e.0, c.reserve.ensures.same j)) refl c.loop-at.invariant.same;
      room = room_made FitsSeat c.args.turns.now c.loop-at.seats.items _ c.loop-at.at c.index-turns-at.result (e.0, c.reserve.new.self) within c.index-turns-at.is refl
          (subst (λ t. IsRoomySeat t c.reserve.new.self) c.as_slice.ensures c.in_ok-reserve.ensures.room) c.loop-at.invariant.room;
    }

pub returns-clause-room : goal.returns-clause-room
returns-clause-room c =
    let same : length c.loop-at.seats.items ≡ length c.args.seats.now.items = same_count bare_seat c.loop-at.seats.items c.args.seats.now.items c.loop-at.invariant.same in
    let past : min (length c.loop-at.seats.items) (length c.args.turns.now) ≤ c.loop-at.at = grind (arith, common_steps) in
    room_all FitsSeat c.args.turns.now c.loop-at.seats.items c.loop-at.at past c.loop-at.invariant.room
