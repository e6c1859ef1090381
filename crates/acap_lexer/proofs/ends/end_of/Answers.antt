use Rattle.std.proofs.Common.{sym, arith}
use Rattle.acap_lexer.proofs.EndPlaces.{feeds, no_end, none_left, feed_ends, feed_passes}
use Rattle.acap_lexer.proofs.ends.end_of.Goals as goal

pub returns-then-follows_return-clause-first : goal.returns-then-follows_return-clause-first
returns-then-follows_return-clause-first c =
    sym (feed_ends _ _ _ c.feeds.invariant.1 (feeds _ _ _ c.feeds.invariant.0 c.in-Some.ensures) (sym c.if-follows_return.ensures))

pub feeds-preserved : goal.feeds-preserved
feeds-preserved c =
    let f = feeds _ _ _ c.feeds.invariant.0 c.in-Some.ensures in
    (omega (arith, f.inside), feed_passes _ _ _ c.feeds.invariant.1 f (sym c.if-follows_return.ensures))

pub returns-clause-first : goal.returns-clause-first
returns-clause-first c = sym (no_end _ (none_left _ _ c.feeds.invariant.0 c.feeds.invariant.1 c.in_default.ensures))

pub returns-clause-passed : goal.returns-clause-passed
returns-clause-passed c = none_left _ _ c.feeds.invariant.0 c.feeds.invariant.1 c.in_default.ensures
