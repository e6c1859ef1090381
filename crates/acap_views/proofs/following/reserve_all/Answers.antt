use Rattle.std.proofs.Common.{◌≡◌, ◌<◌, ◌≤◌, min, length, refl, subst, arith}
use Rattle.std.proofs.lemmas.Grind.{common_steps}
use Rattle.acap_views.specs.Followed.{FitsContext, HasRoomFor}
use Rattle.acap_views.specs.Listing.{bare}
use Rattle.acap_views.proofs.FollowingLemmas.{same_on, same_count, room_made, room_all}
use Rattle.acap_views.proofs.following.reserve_all.Goals as goal

pub returns-in_err-reserve-clause-same : goal.returns-in_err-reserve-clause-same
returns-in_err-reserve-clause-same c =
    let e = c.index_mut.result.now in
    same_on bare c.loop-at.contexts.items _ c.loop-at.at e (e.0, c.reserve.new.self) _ c.index_mut.ensures.value (λ j. (e.0, c.reserve.ensures.same j)) refl c.loop-at.invariant.same

pub loop-at-preserved : goal.loop-at-preserved
loop-at-preserved c =
    let e = c.index_mut.result.now in
    let within : c.loop-at.at < length c.args.turns.now = grind (arith, common_steps) in
    record {
      same = same_on bare c.loop-at.contexts.items _ c.loop-at.at e (e.0, c.reserve.new.self) _ c.index_mut.ensures.value (λ j. (e.0, c.reserve.ensures.same j)) refl c.loop-at.invariant.same;
      room = room_made FitsContext c.args.turns.now c.loop-at.contexts.items _ c.loop-at.at c.index-turns-at.result (e.0, c.reserve.new.self) within c.index-turns-at.is refl
          (subst (λ t. HasRoomFor t c.reserve.new.self) c.len-more.ensures c.in_ok-reserve.ensures.room) c.loop-at.invariant.room;
    }

pub returns-clause-room : goal.returns-clause-room
returns-clause-room c =
    let same : length c.loop-at.contexts.items ≡ length c.args.contexts.now.items = same_count bare c.loop-at.contexts.items c.args.contexts.now.items c.loop-at.invariant.same in
    let past : min (length c.loop-at.contexts.items) (length c.args.turns.now) ≤ c.loop-at.at = grind (arith, common_steps) in
    room_all FitsContext c.args.turns.now c.loop-at.contexts.items c.loop-at.at past c.loop-at.invariant.room
