use Rattle.std.proofs.Common.{inl, inr, sym}
use Rattle.acap_session.proofs.Piping.{none_left, some_octets}
use Rattle.acap_session.proofs.Placing.{not_open}
use Rattle.acap_session.proofs.ScriptHearing.{fewer_behind, listens_on, offered_first, offered_again}
use Rattle.acap_session.proofs.ScriptOutput.{not_empty}
use Rattle.acap_session.proofs.script_hearing.hear.Goals as goal

pub offers-init : goal.offers-init
offers-init g c = record { heard = offered_first c.args.at.now c.args.octets.now c.split_at.result.1.now c.in_ok-taken.taken c.args.world.now c.offer.new.world c.split_at.ensures.back c.in_ok-taken.ensures.offered; on = listens_on c.args.at.now c.args.octets.now _ c.args.world.now c.offer.new.world c.requires c.in_ok-taken.ensures.offered.1 }

pub returns-then-not-is_open : goal.returns-then-not-is_open
returns-then-not-is_open g c = (c.offers.invariant.heard.may, c.offers.invariant.heard.ended (inr (not_open c.offers.world c.args.at.now.seat c.if-not-is_open.ensures)))

pub offers-preserved : goal.offers-preserved
offers-preserved g c =
    record {
      heard = offered_again c.args.at.now c.args.octets.now c.offers.rest.now c.split_at-in-offers.result.1.now c.in_ok-taken-2.taken c.args.world.now c.offers.world c.offer-in-offers.new.world c.offers.invariant.heard
          (not_empty c.offers.rest.now (some_octets c.offers.rest.now c.offers-test.ensures), sym c.if-not-is_open.ensures) c.split_at-in-offers.ensures.back c.in_ok-taken-2.ensures.offered;
      on = listens_on c.args.at.now c.offers.rest.now _ c.offers.world c.offer-in-offers.new.world c.offers.invariant.on.listens c.in_ok-taken-2.ensures.offered.1;
    }

pub offers-smaller : goal.offers-smaller
offers-smaller g c =
    let some = some_octets c.offers.rest.now c.offers-test.ensures in
    let taken = c.in_ok-taken-2.ensures.some c.offers.invariant.on.room some in
    fewer_behind c.offers.rest.now c.split_at-in-offers.result.1.now c.in_ok-taken-2.taken c.split_at-in-offers.ensures.back some taken

pub returns : goal.returns
returns g c = (c.offers.invariant.heard.may, c.offers.invariant.heard.ended (inl (none_left c.offers.rest.now c.offers-test.ensures)))
